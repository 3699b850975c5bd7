-- What is said of an instruction that was made or built.
use Rattle.std.specs.Prelude.{Result, Ok, Err, ℕ, Bool, ◌&&◌, List, [], ◌∷◌, ◌++◌, leb, length, get_or}
use Rattle.ground.specs.Choice.{pick}
use Rattle.ground.specs.Refusals.{unknown, number_of}
use Rattle.ground.specs.declared.refusals.Refusal.{Refusal}
use Rattle.answers.specs.Said.{Said, said}
use Rattle.answers.specs.Sizes.{flag_cell}
use Rattle.instruction.specs.declared.Instruction.{Instruction}
use Rattle.instruction.specs.declared.Built.{Built}
use Rattle.instruction.specs.Building.{make_of, build_of, fresh_of}
use Rattle.instruction.specs.Sequences.{told_of}
use Rattle.entries.specs.Entries.{page_in, entry_of, kept_of}
use Rattle.joltwagon.specs.Kept.{is_kept, kept_cells, is_present, present_of}

-- ---- answers
abbrev pub made_said : Result Instruction Refusal → Said
made_said (Ok i) = said 0 (kept_cells i)
made_said (Err n) = said (number_of n) []

-- the length, the five bytes, and whether this instruction leaves the page unknown
unfoldable pub front_cells : Built → List ℕ
front_cells b =
    b.length
    ∷ get_or b.bytes 0 0
    ∷ get_or b.bytes 1 0
    ∷ get_or b.bytes 2 0
    ∷ get_or b.bytes 3 0
    ∷ get_or b.bytes 4 0
    ∷ flag_cell b.dirties
    ∷ []

-- "A kept instruction is taken by value and handed back": its row stands behind its bytes
abbrev pub built_said : Result Built Refusal → Said
built_said (Ok b) = said 0 (front_cells b ++ kept_cells b.instruction)
built_said (Err n) = said (number_of n) []

-- ---- calls
-- "operation or field number unknown": what is no row is 1
unfoldable pub of_row : Bool → Said → Said
of_row sound s = pick sound s (said unknown [])

unfoldable pub make_said : List ℕ → Said
make_said row = of_row (leb 21 (length row)) (made_said (make_of (entry_of row)))

unfoldable pub assemble_said : List ℕ → ℕ → Said
assemble_said row address = of_row (leb 21 (length row)) (built_said (fresh_of (entry_of row) address))

unfoldable pub build_said : (kept present : List ℕ) → ℕ → Said
build_said kept present address =
    of_row (is_kept kept && is_present present)
    (built_said (told_of (build_of (kept_of kept) (present_of present) (page_in present 0) address)))
