-- The writer's answer, and what the lent buffer holds after it.
use Rattle.std.specs.Prelude.{List, ◌++◌, ℕ, ◌-◌, ◌^◌, Result, Ok, Err, ltb, length, drop}
use Rattle.ground.specs.Choice.{pick}
use Rattle.ground.specs.declared.refusals.Refusal.{Refusal}
use Rattle.ground.specs.declared.refusals.Refusal.TheVariants.{Unknown, NoRoom, Beyond}
use Rattle.records.specs.Objects.{objects_of, faulty, too_far}
use Rattle.records.specs.Text.{text_of}

-- "18 before 9", over the whole text, and 1 before both: the answer of a writer that has that much room, a refusal or how long the text is
unfoldable pub written_of : List ℕ → List ℕ → ℕ → Result ℕ Refusal
written_of objects values room =
    pick (faulty objects values) (Err Unknown)
    (pick (too_far (objects_of objects values)) (Err Beyond)
    (pick (ltb room (length (text_of objects values))) (Err NoRoom)
    (Ok (length (text_of objects values)))))

-- beside an answer: the text, followed by what the buffer held beyond it; refused, the buffer as it was
abbrev pub buffer_as : Result ℕ Refusal → List ℕ → List ℕ → List ℕ
buffer_as (Ok n) text buffer = text ++ drop (length text) buffer
buffer_as (Err refusal) text buffer = buffer

unfoldable pub buffer_of : List ℕ → List ℕ → List ℕ → List ℕ
buffer_of objects values buffer = buffer_as (written_of objects values (length buffer)) (text_of objects values) buffer

-- no lent buffer is longer
abbrev pub longest : ℕ
longest = 2 ^ 63 - 1
