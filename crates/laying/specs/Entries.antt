-- A list of instructions, as a lent table says it: an operand record in each row of 21 numbers (docs/ROWS.md). What is left over at the table's end is no row.
use Rattle.std.specs.Prelude.{ℕ, zero, suc, ◌+◌, ◌/◌, List, [], ◌∷◌, length, drop}
use Rattle.instruction.specs.declared.Record.{Record}
use Rattle.entries.specs.Entries.{entry_of}

-- the row that begins at a place
unfoldable pub entry_at : List ℕ → ℕ → Record
entry_at list at = entry_of (drop at list)

unfoldable pub rows_in : List ℕ → ℕ
rows_in list = length list / 21

-- so many rows, from a place on
unfoldable pub entries_from : ℕ → List ℕ → ℕ → List Record
entries_from zero list at = []
entries_from (suc rows) list at = entry_at list at ∷ entries_from rows list (at + 21)

unfoldable pub entries_of : List ℕ → List Record
entries_of list = entries_from (rows_in list) list 0
