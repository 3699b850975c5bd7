-- What was measured, before what is left, is the whole.
-- Assumes nothing.
use Prim.Native.Nat.{◌-◌, ◌*◌}
use Rattle.laying.specs.Entries.{rows_in, entries_from, entries_of}
use Rattle.laying.specs.Laying.{lay_from}
use Rattle.laying.proofs.Turns.{Laying}
use Rattle.laying.proofs.measure_rows.Given as goal

abbrev pub invariant-loop-row : goal.invariant-loop-row
invariant-loop-row l =
    Laying (lay_from (entries_of l.list) l.address l.room) (entries_from (rows_in l.list - l.row) l.list (l.row * 21)) l.address l.length l.room
