-- 01, "Laying: any other 17, then statements in order, 18 before 9": instructions, fresh, end to end from an address into a lent buffer.
use Rattle.std.specs.Prelude.{ℕ, ◌+◌, ◌-◌, ◌%◌, List, [], ◌∷◌, ◌++◌, Result, Ok, Err, ltb, length, drop}
use Rattle.ground.specs.Choice.{pick}
use Rattle.ground.specs.declared.refusals.Refusal.{Refusal}
use Rattle.ground.specs.declared.refusals.Refusal.TheVariants.{NoRoom, OverLimit, Beyond}
use Rattle.instruction.specs.declared.Record.{Record}
use Rattle.instruction.specs.declared.Built.{Built}
use Rattle.instruction.specs.Building.{fresh_of, size_told, bytes_told}
use Rattle.laying.specs.Entries.{rows_in, entries_of}

-- ---- one instruction
-- a fresh build; what stands at 65536 is built as at 0
unfoldable pub built_at : Record → ℕ → Result Built Refusal
built_at entry at = fresh_of entry (at % 65536)

-- how many bytes it has; or what the build itself refuses, then "a byte beyond 65535", then "lent buffer too short"
abbrev pub size_at : Result Built Refusal → (at room : ℕ) → Result ℕ Refusal
size_at (Ok b) at room =
    pick (ltb 65536 (at + b.length)) (Err Beyond)
    (pick (ltb room b.length) (Err NoRoom) (Ok b.length))
size_at (Err refusal) at room = Err refusal

-- ---- all instructions
-- some bytes, before those that follow
abbrev pub before : List ℕ → Result (List ℕ) Refusal → Result (List ℕ) Refusal
before bytes (Ok rest) = Ok (bytes ++ rest)
before bytes (Err refusal) = Err refusal

-- what comes after an instruction, where that is not refused
abbrev pub after : Result ℕ Refusal → Result (List ℕ) Refusal → Result (List ℕ) Refusal
after (Ok size) later = later
after (Err refusal) later = Err refusal

-- "statements in order": the first that is refused refuses the list, and the others stand where those before them end, with the room that is left;
-- the bytes of all instructions, one after the other
unfoldable pub lay_from : List Record → (at room : ℕ) → Result (List ℕ) Refusal
lay_from [] at room = Ok []
lay_from (entry ∷ entries) at room =
    after (size_at (built_at entry at) at room)
    (before (bytes_told (built_at entry at)) (lay_from entries (at + size_told (built_at entry at)) (room - size_told (built_at entry at))))

abbrev pub most_rows : ℕ
most_rows = 1024

-- "more than 1,024 statements" comes first
unfoldable pub lay_of : List ℕ → (address room : ℕ) → Result (List ℕ) Refusal
lay_of list address room = pick (ltb most_rows (rows_in list)) (Err OverLimit) (lay_from (entries_of list) address room)

-- ---- what is answered, and what the lent buffer holds
-- how many bytes were laid
abbrev pub answer_of : Result (List ℕ) Refusal → Result ℕ Refusal
answer_of (Ok bytes) = Ok (length bytes)
answer_of (Err refusal) = Err refusal

-- the bytes, and the rest of the buffer as it was; refused, the buffer as it was
abbrev pub buffer_of : Result (List ℕ) Refusal → List ℕ → List ℕ
buffer_of (Ok bytes) buffer = bytes ++ drop (length bytes) buffer
buffer_of (Err refusal) buffer = buffer
