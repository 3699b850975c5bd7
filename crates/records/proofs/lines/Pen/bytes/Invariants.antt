-- What is written so far, from the start.
-- Assumes nothing.
use lib.ListN.{take}
use Rattle.records.specs.Penned.{Penned}
use Rattle.records.proofs.lines.Pen.bytes.Given as goal

abbrev pub invariant-loop-b : goal.invariant-loop-b
invariant-loop-b l = Penned l.initial.out l.initial.pen (take l.b-index l.bytes) l.pen l.out
