-- What is said of an instruction that was read, and of a run, under a page.
use Rattle.std.specs.Prelude.{ℕ, List, [], ◌∷◌, Result, Ok, Err}
use Rattle.ground.specs.declared.refusals.Refusal.{Refusal}
use Rattle.ground.specs.Refusals.{number_of}
use Rattle.values.specs.Pages.{is_page, page_numbered}
use Rattle.answers.specs.Said.{Said, said}
use Rattle.answers.specs.Sizes.{size_cells, flag_cell}
use Rattle.decoder.specs.declared.Parts.{Parts}
use Rattle.decoder.specs.declared.Origin.{Origin}
use Rattle.decoder.specs.Origin.{origin}
use Rattle.decoder.specs.Meaning.{Answer, parts_of}
use Rattle.decoder.specs.Front.{decode_of}
use Rattle.decoder.specs.Run.{run_of, next_of, counted_of}
use Rattle.joltwagon.specs.Instructing.{of_row}

-- a meaning's kind by its number, then what that kind uses
unfoldable pub part_cells : Parts → List ℕ
part_cells p =
    p.kind ∷ flag_cell p.indirect ∷ p.step ∷ p.registers ∷ p.first ∷ p.second ∷ p.number ∷ []

-- ---- answers
-- the length, the operation and the parts of what it means; or the refusal
unfoldable pub decoded_said : Answer → Said
decoded_said (Ok d) = said 0 (d.length ∷ d.meaning.operation ∷ part_cells (parts_of d.meaning.kind))
decoded_said (Err e) = said (number_of e) []

-- how many instructions; or the refusal
unfoldable pub counted_said : Result ℕ Refusal → Said
counted_said (Ok n) = said 0 (size_cells n)
counted_said (Err e) = said (number_of e) []

-- ---- calls
-- bytes at an address under a page, which is a number of a row; one that is none is 1, before all else
abbrev pub under : ℕ → ℕ → Origin
under address page = origin address (page_numbered page)

unfoldable pub decode_said : List ℕ → (address page : ℕ) → Said
decode_said bytes address page = of_row (is_page page) (decoded_said (decode_of bytes (under address page)))

unfoldable pub next_said : List ℕ → (address page at : ℕ) → Said
next_said bytes address page at = of_row (is_page page) (decoded_said (next_of bytes (under address page) at))

unfoldable pub count_said : List ℕ → (address page : ℕ) → Said
count_said bytes address page = of_row (is_page page) (counted_said (counted_of (run_of bytes (under address page))))
