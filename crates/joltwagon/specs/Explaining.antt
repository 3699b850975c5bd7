-- 02 a, "for a record and its answer": what is said of a fresh build and its reason, and the field that is told beside a refusal.
use Rattle.std.specs.Prelude.{ℕ, List, [], ◌∷◌, ◌++◌, leb, length}
use Rattle.ground.specs.Choice.{pick}
use Rattle.answers.specs.Said.{Said, said}
use Rattle.answers.specs.Sizes.{flag_cell}
use Rattle.instruction.specs.Building.{told}
use Rattle.why.specs.declared.Explained.{Explained}
use Rattle.why.specs.declared.Parts.{Parts}
use Rattle.why.specs.Numbers.{parts_of}
use Rattle.why.specs.Explaining.{explained_of}
use Rattle.joltwagon.specs.Instructing.{built_said, of_row}

-- a reason's number, then what that reason uses
unfoldable pub reason_cells : Parts → List ℕ
reason_cells p =
    p.kind ∷ flag_cell p.forced ∷ flag_cell p.unknown ∷ flag_cell p.elsewhere ∷ p.number ∷ flag_cell p.near ∷ p.bits ∷ []

-- the reason stands behind the build
unfoldable pub explained_said : Explained → Said
explained_said e = said (told e.built) ((built_said e.built).cells ++ reason_cells (parts_of e.reason))

unfoldable pub why_said : List ℕ → ℕ → Said
why_said row address = of_row (leb 21 (length row)) (explained_said (explained_of row address))

-- "for a refusal, the field that caused it"; 0 where there is none: an accepted record, or no record at all
unfoldable pub field_told : List ℕ → ℕ → ℕ
field_told row address = pick (leb 21 (length row)) (parts_of (explained_of row address).reason).field 0
