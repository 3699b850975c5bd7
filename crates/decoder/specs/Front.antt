-- One instruction at the front of some bytes.
use Rattle.std.specs.Prelude.{ℕ, Bool, ◌||◌, Result, Ok, Err, List, [], ◌∷◌, eqb}
use Rattle.ground.specs.Choice.{pick}
use Rattle.ground.specs.declared.refusals.Refusal.{Refusal}
use Rattle.ground.specs.declared.refusals.Refusal.TheVariants as refusals
use Rattle.rows.specs.declared.Named.{Named}
use Rattle.rows.specs.Lookup.{row_of}
use Rattle.rows.specs.Sizes.{number_at}
use Rattle.decoder.specs.declared.Origin.{Origin}
use Rattle.decoder.specs.declared.operands.Rest.{Rest}
use Rattle.decoder.specs.Origin.{shifted, outside}
use Rattle.decoder.specs.Meaning.{Answer, joined}
use Rattle.decoder.specs.Operands.{rest_of, operand_of}

-- the prefixes of the pages 10 and 11
abbrev pub is_prefix : ℕ → Bool
is_prefix a = eqb a 0x10 || eqb a 0x11

-- a code of the sheet's map, of so many bytes, and the operand after it; any other code is undefined
abbrev pub named_of : Result Named Refusal → (page code size : ℕ) → Rest → Origin → Answer
named_of (Ok row) page code size r from =
    joined size row.operation (operand_of row.operation row.form (number_at row.form page code) r (shifted from size))
named_of (Err refusal) page code size r from = Err refusal

unfoldable pub coded_of : (page code size : ℕ) → Rest → Origin → Answer
coded_of page code size r from = named_of (row_of page code) page code size r from

-- "A second prefix is undefined": the pages 10 and 11 have no such code
abbrev pub prefixed_of : (page : ℕ) → List ℕ → Origin → Answer
prefixed_of page [] from = Err refusals.CutShort
prefixed_of page (code ∷ l) from = coded_of page code 2 (rest_of l) from

-- the byte at the front is a prefix, or a code of page 0
unfoldable pub front_of : List ℕ → Origin → Answer
front_of [] from = Err refusals.CutShort
front_of (code ∷ l) from = pick (is_prefix code) (prefixed_of code l from) (coded_of 0x00 code 1 (rest_of l) from)

-- "Decoding: 18, then 14 as soon as the bytes present are undefined, else 15"
unfoldable pub decode_of : List ℕ → Origin → Answer
decode_of l from = pick (outside l from) (Err refusals.Beyond) (front_of l from)
