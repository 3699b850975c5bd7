-- "its bytes, or its first refusal, are the answer, with the number of passes made": the passes are said beside a refusal, too, so they are part of the return.
use Rattle.std.specs.Prelude.{◌≡◌, List, [], ℕ, ◌+◌, ◌*◌, length, Option, Some, None, Result, Ok, Err}
use Rattle.ground.specs.Refusals.{number_of}
use Rattle.ground.specs.declared.refusals.Refusal.{Refusal}
use Rattle.answers.specs.Said.{Said, said, refusal_of, lent_after, cells_after}
use Rattle.answers.specs.Sizes.{size_cells}
use Rattle.passes.specs.Labels.{laid_over}
use Rattle.passes.specs.Walks.{Source}
use Rattle.passes.specs.Passes.{passed_of}
use Rattle.reader.specs.Answers.{onto}
use Rattle.assembly.specs.declared.Hexed.{Hexed}
use Rattle.assembly.specs.Objects.{objects_of, values_of}
use Rattle.assembly.specs.Text.{settled_text, hexed_of}

-- the refusal in the low 16 bits, the passes in the high 16
abbrev pub with_passes : (refusal passes : ℕ) → ℕ
with_passes refusal passes = refusal + 65536 * passes

-- a refusal's number, 0 for none
abbrev pub number_in : Option Refusal → ℕ
number_in None = 0
number_in (Some why) = number_of why

-- how long the text is
unfoldable pub length_said : Result ℕ Refusal → Said
length_said (Ok length) = said 0 (size_cells length)
length_said (Err why) = said (number_of why) []

unfoldable pub hex_said : Hexed → Said
hex_said h = length_said h.length

-- statements settled and written, with label table l, object and value tables x and y, a buffer z and a slice d for the answer: the return, and what the five
-- hold then
pub record HexWritten (src : Source) (l x y z d : List ℕ) (r : ℕ) (l' x' y' z' d' : List ℕ) : Type 0 where
  pub returned : r ≡ with_passes (refusal_of (hex_said (hexed_of src l (length x) (length y) (length z))) (length d)) (hexed_of src l (length x) (length y) (length z)).passes
  pub labels : l' ≡ lent_after (hex_said (hexed_of src l (length x) (length y) (length z))) d (laid_over (passed_of src l).table l) l
  pub objects : x' ≡ lent_after (hex_said (hexed_of src l (length x) (length y) (length z))) d (onto (objects_of src l) x) x
  pub values : y' ≡ lent_after (hex_said (hexed_of src l (length x) (length y) (length z))) d (onto (values_of src l) y) y
  pub text : z' ≡ lent_after (hex_said (hexed_of src l (length x) (length y) (length z))) d (onto (settled_text src l) z) z
  pub cells : d' ≡ cells_after (hex_said (hexed_of src l (length x) (length y) (length z))) d
