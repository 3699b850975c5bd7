-- What an instruction begins with: a code of page 0, or a prefix and a code of its page.
use Rattle.std.specs.Prelude.{ℕ, Bool, false, Result, Ok, Err, List, [], ◌∷◌, eqb}
use Rattle.ground.specs.Choice.{pick}
use Rattle.ground.specs.declared.refusals.Refusal.{Refusal}
use Rattle.ground.specs.declared.refusals.Refusal.TheVariants.{CutShort}
use Rattle.rows.specs.declared.Named.{Named}
use Rattle.rows.specs.Forms as forms
use Rattle.rows.specs.Lookup.{row_of}
use Rattle.decoder.specs.declared.front.Head.{Head}
use Rattle.decoder.specs.Front.{is_prefix}

-- the first byte
abbrev pub first_of : List ℕ → Result ℕ Refusal
first_of [] = Err CutShort
first_of (byte ∷ l) = Ok byte

-- a code of a page, of so many bytes with its prefix
abbrev pub head : (page code size : ℕ) → Head
head page code size = record { page = page; code = code; size = size }

-- behind a prefix
abbrev pub behind_prefix : (page : ℕ) → List ℕ → Result Head Refusal
behind_prefix page [] = Err CutShort
behind_prefix page (code ∷ l) = Ok (head page code 2)

unfoldable pub head_of : List ℕ → Result Head Refusal
head_of [] = Err CutShort
head_of (first ∷ l) = pick (is_prefix first) (behind_prefix first l) (Ok (head 0x00 first 1))

-- ---- "a direct opcode"
-- a row of the sheet's map in the form direct
abbrev pub is_direct : Result Named Refusal → Bool
is_direct (Ok row) = eqb row.form forms.direct
is_direct (Err refusal) = false

abbrev pub direct_head : Result Head Refusal → Bool
direct_head (Ok h) = is_direct (row_of h.page h.code)
direct_head (Err e) = false

-- the code at the front, behind its prefix if it has one
unfoldable pub direct_front : List ℕ → Bool
direct_front l = direct_head (head_of l)
