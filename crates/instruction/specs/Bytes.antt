-- The bytes of what a build settled on, at its address: the code, on pages 10 and 11 behind its prefix, and the operand.
use Rattle.std.specs.Prelude.{ℕ, ◌+◌, Result, Ok, Err, [], ◌∷◌, eqb, get_or}
use Rattle.std.specs.Result.{result_unwrap_or}
use Rattle.ground.specs.Choice.{pick}
use Rattle.ground.specs.Words.{plus, minus, high, low}
use Rattle.ground.specs.declared.refusals.Refusal.{Refusal}
use Rattle.rows.specs.declared.Code.{Code}
use Rattle.rows.specs.Lookup.{code_of}
use Rattle.rows.specs.Sizes.{number_size_of}
use Rattle.postbytes.specs.declared.Encoded.{Encoded}
use Rattle.postbytes.specs.Writing.{alone, encode_of, relative_of}
use Rattle.instruction.specs.declared.Chosen.{Chosen}
use Rattle.instruction.specs.declared.Laid.{Laid}
use Rattle.instruction.specs.declared.Argument.{Argument}
use Rattle.instruction.specs.declared.Argument.TheVariants.{Nothing, Number, Target, Indexed, Relative, Registers}

-- no byte
abbrev pub nothing : Encoded
nothing = record { bytes = 0 ∷ 0 ∷ 0 ∷ []; length = 0 }

-- a number in no byte, one or two
unfoldable pub number_bytes : ℕ → ℕ → Encoded
number_bytes size n =
    pick (eqb size 1) (record { bytes = low n ∷ 0 ∷ 0 ∷ []; length = 1 })
    (pick (eqb size 2) (record { bytes = high n ∷ low n ∷ 0 ∷ []; length = 2 })
    nothing)

-- the operand's bytes, the first of which stands at `after`; a branch counts from the end of the instruction. An operand that is refused has none
unfoldable pub operand_bytes : ℕ → ℕ → Argument → ℕ → Encoded
operand_bytes o form Nothing after = number_bytes 0 0
operand_bytes o form (Number n) after = number_bytes (number_size_of o form) n
operand_bytes o form (Target t) after = number_bytes (number_size_of o form) (minus t (plus after (number_size_of o form)))
operand_bytes o form (Indexed index) after = result_unwrap_or (encode_of index) nothing
operand_bytes o form (Relative target ind) after = relative_of target after ind
operand_bytes o form (Registers b) after = alone b

abbrev pub at : Encoded → ℕ → ℕ
at e k = get_or e.bytes k 0

unfoldable pub code_size : ℕ → ℕ
code_size page = pick (eqb page 0) 1 2

-- five bytes and how many there are
unfoldable pub behind_code : ℕ → ℕ → Encoded → Laid
behind_code page code e =
    pick (eqb page 0)
    (record { bytes = code ∷ at e 0 ∷ at e 1 ∷ at e 2 ∷ 0 ∷ []; length = 1 + e.length })
    (record { bytes = page ∷ code ∷ at e 0 ∷ at e 1 ∷ at e 2 ∷ []; length = 2 + e.length })

abbrev pub none : Laid
none = record { bytes = 0 ∷ 0 ∷ 0 ∷ 0 ∷ 0 ∷ []; length = 0 }

unfoldable pub laid_at : Result Code Refusal → Chosen → ℕ → Laid
laid_at (Ok k) c address =
    behind_code k.page k.code (operand_bytes c.operation c.form c.argument (plus address (code_size k.page)))
laid_at (Err refusal) c address = none

unfoldable pub laid_of : Chosen → ℕ → Laid
laid_of c address = laid_at (code_of c.operation c.form) c address
