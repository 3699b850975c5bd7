-- What `assemble` answers, and what it leaves in the lent tables.
use Rattle.std.specs.Prelude.{ℕ, ◌/◌, Bool, ◌&&◌, List, ◌++◌, leb, length, drop, Result, Ok, Err}
use Rattle.std.specs.Result.{result_and}
use Rattle.ground.specs.Choice.{pick}
use Rattle.ground.specs.declared.refusals.Refusal.{Refusal}
use Rattle.ground.specs.declared.refusals.Refusal.TheVariants.{NoRoom}
use Rattle.passes.specs.Labels.{laid_over, labels_fit}
use Rattle.passes.specs.Walks.{Source}
use Rattle.passes.specs.Passes.{passed_of, ended_of}
use Rattle.assembly.specs.Objects.{objects_of, values_of}
use Rattle.assembly.specs.declared.Assembled.{Assembled}

-- ---- "lent buffer too short"
-- every statement before the refused one fits: its object, its values and its label's row
unfoldable pub fitting : Source → List ℕ → (objects values : ℕ) → Bool
fitting src ls objects values =
    leb (length (objects_of src ls)) objects
    && (leb (length (values_of src ls)) values && labels_fit src.list (length ls) (ended_of src ls).fine)

-- "statements in order, 18 before 9": 9 where a statement before the refused one does not fit, and else what the passes answer
unfoldable pub accepted_of : Source → List ℕ → (objects values : ℕ) → Result ℕ Refusal
accepted_of src ls objects values = pick (fitting src ls objects values) (ended_of src ls).end (Err NoRoom)

-- ---- the answer
-- "with the number of passes made": how many rows there are of each, or the refusal
unfoldable pub assembled_of : Source → List ℕ → (objects values : ℕ) → Assembled
assembled_of src ls objects values = record {
  passes = (ended_of src ls).passes;
  stored = result_and (accepted_of src ls objects values)
      (Ok (record { objects = length (objects_of src ls) / 3; values = length (values_of src ls) / 2 }));
}

-- ---- the lent tables, where all is stored and where not
-- the rows, followed by what the table held beyond them; refused, the table as it was
unfoldable pub stored : Bool → List ℕ → List ℕ → List ℕ
stored done rows table = pick done (rows ++ drop (length rows) table) table

-- the addresses that the passes found; refused, the table as it was
unfoldable pub labelled : Bool → Source → List ℕ → List ℕ
labelled done src ls = pick done (laid_over (passed_of src ls).table ls) ls
