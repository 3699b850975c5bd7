-- What `hex` answers: the text of the settled pass's objects.
use Rattle.std.specs.Prelude.{ℕ, List, ltb, length, Result, Ok, Err}
use Rattle.std.specs.Result.{result_and}
use Rattle.ground.specs.Choice.{pick}
use Rattle.ground.specs.declared.refusals.Refusal.{Refusal}
use Rattle.ground.specs.declared.refusals.Refusal.TheVariants.{NoRoom}
use Rattle.records.specs.Text.{text_of}
use Rattle.passes.specs.Walks.{Source}
use Rattle.passes.specs.Passes.{ended_of}
use Rattle.assembly.specs.Objects.{objects_of, values_of}
use Rattle.assembly.specs.Answers.{accepted_of}
use Rattle.assembly.specs.declared.Hexed.{Hexed}

-- the text that the record writer makes of the objects
unfoldable pub settled_text : Source → List ℕ → List ℕ
settled_text src ls = text_of (objects_of src ls) (values_of src ls)

-- what `assemble` refuses, and then 9 where the text does not fit; else how long it is
unfoldable pub hex_length : Source → List ℕ → (objects values room : ℕ) → Result ℕ Refusal
hex_length src ls objects values room =
    result_and (accepted_of src ls objects values)
    (pick (ltb room (length (settled_text src ls))) (Err NoRoom) (Ok (length (settled_text src ls))))

-- that, "with the number of passes made"
unfoldable pub hexed_of : Source → List ℕ → (objects values room : ℕ) → Hexed
hexed_of src ls objects values room = record { passes = (ended_of src ls).passes; length = hex_length src ls objects values room }
