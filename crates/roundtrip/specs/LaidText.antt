-- A list laid from an address and written as Intel's text at once: laying's refusals, then 9 where the buffer is too short for the text.
use Rattle.std.specs.Prelude.{List, ◌++◌, ℕ, Result, Ok, Err, ltb, length, drop}
use Rattle.ground.specs.Choice.{pick}
use Rattle.ground.specs.declared.refusals.Refusal.{Refusal}
use Rattle.ground.specs.declared.refusals.Refusal.TheVariants.{NoRoom}
use Rattle.laying.specs.Laying.{lay_of}
use Rattle.roundtrip.specs.Demand.{text_for}
use Rattle.roundtrip.specs.Comparing.{all_room}

-- how long the text is that a buffer with that much room holds
abbrev pub written_as : Result (List ℕ) Refusal → (address room : ℕ) → Result ℕ Refusal
written_as (Ok bytes) address room = pick (ltb room (length (text_for address bytes))) (Err NoRoom) (Ok (length (text_for address bytes)))
written_as (Err refusal) address room = Err refusal

-- the text, followed by what the buffer held beyond it; refused, the buffer as it was
abbrev pub buffer_as : Result (List ℕ) Refusal → ℕ → List ℕ → List ℕ
buffer_as (Ok bytes) address buffer =
    pick (ltb (length buffer) (length (text_for address bytes))) buffer (text_for address bytes ++ drop (length (text_for address bytes)) buffer)
buffer_as (Err refusal) address buffer = buffer

unfoldable pub laid_text : List ℕ → (address room : ℕ) → Result ℕ Refusal
laid_text list address room = written_as (lay_of list address all_room) address room

unfoldable pub laid_buffer : List ℕ → ℕ → List ℕ → List ℕ
laid_buffer list address buffer = buffer_as (lay_of list address all_room) address buffer
