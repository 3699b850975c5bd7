-- What a statement asks of its nodes: the pair of an instruction, the number of RMB and ORG, and the values of FCB and FDB beside the characters of FCC.
use Rattle.std.specs.Prelude.{ℕ, zero, suc, ◌+◌, true, false, List, [], ◌∷◌, Option, Result, Ok, Err, eqb, ltb}
use Rattle.std.specs.Result.{result_err, result_unwrap_or}
use Rattle.ground.specs.Choice.{pick}
use Rattle.ground.specs.declared.refusals.Refusal.{Refusal}
use Rattle.ground.specs.declared.refusals.Refusal.TheVariants.{Unknown, ValueMissing, BadWidth}
use Rattle.values.specs.declared.Value.{Value}
use Rattle.values.specs.Widths.{widened_of}
use Rattle.expressions.specs.declared.Evaluated.{Evaluated}
use Rattle.expressions.specs.Answers.{value, evaluation, evaluations}
use Rattle.instruction.specs.declared.Values.{Values}
use Rattle.instruction.specs.Building.{no_values}
use Rattle.statements.specs.declared.Datum.{Datum}
use Rattle.statements.specs.declared.Datum.TheVariants.{Byte, Word, Character}
use Rattle.statements.specs.Listing.{none, item_at}

-- both evaluations of an operand
abbrev pub given : Result Evaluated Refusal → Result Values Refusal
given (Ok e) = Ok (record { given = true; unsigned = e.unsigned; signed = e.signed })
given (Err why) = Err why

-- "an optional pair of values: unsigned and signed evaluation"
unfoldable pub asked_of : List ℕ → List ℕ → ℕ → ℕ → Result Values Refusal
asked_of ns ls node here = pick (eqb node none) (Ok no_values) (given (evaluations ns ls node here))

-- the unsigned evaluation of a node that must be there: "required value missing", a hole too
unfoldable pub wanted_of : List ℕ → List ℕ → ℕ → ℕ → Result Value Refusal
wanted_of ns ls node here = pick (eqb node none) (Err ValueMissing) (evaluation ns ls node here false)

-- "value's width does not fit, FCB included"
abbrev pub byte_of : Result Value Refusal → Result Value Refusal
byte_of (Ok v) = pick (eqb v.width 8) (Ok v) (Err BadWidth)
byte_of (Err why) = Err why

-- FDB: "widening gives a zero high byte unless sign extension is named"
abbrev pub word_of : Result Value Refusal → Result Value Refusal
word_of (Ok v) = Ok (widened_of v)
word_of (Err why) = Err why

-- FCC: a character is a byte, and another number is unknown
unfoldable pub character_of : ℕ → Result Value Refusal
character_of n = pick (ltb n 256) (Ok (value n 8)) (Err Unknown)

-- what one item of a statement stands for; the location is the statement's own address for every value of it
abbrev pub datum_of : Datum → List ℕ → List ℕ → ℕ → ℕ → Result Value Refusal
datum_of Byte ns ls here item = byte_of (wanted_of ns ls item here)
datum_of Word ns ls here item = word_of (wanted_of ns ls item here)
datum_of Character ns ls here item = character_of item

-- n items from a place on
unfoldable pub answers_from : Datum → List ℕ → List ℕ → List ℕ → ℕ → ℕ → ℕ → List (Result Value Refusal)
answers_from datum items ns ls here first zero = []
answers_from datum items ns ls here first (suc n) =
    datum_of datum ns ls here (item_at items first) ∷ answers_from datum items ns ls here (first + 1) n

-- their refusals
abbrev pub refusals_in : List (Result Value Refusal) → List (Option Refusal)
refusals_in [] = []
refusals_in (a ∷ more) = result_err a ∷ refusals_in more

-- the value of an answer; a refused one has zeros in its row, and its statement no object
abbrev pub value_in : Result Value Refusal → Value
value_in a = result_unwrap_or a (value 0 0)

-- their values, as rows of number and width
abbrev pub rows_in : List (Result Value Refusal) → List ℕ
rows_in [] = []
rows_in (a ∷ more) = (value_in a).number ∷ (value_in a).width ∷ rows_in more
