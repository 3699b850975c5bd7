-- `reader::runs::store_run` meets its contract: the bytes of the run so far are stored, and each line that follows on adds its own.
-- Assumes nothing.
use Prim.Native.Nat.{◌-◌}
use lib.ListN.{length}
use Rattle.reader.proofs.Stretches.{Filling}
use Rattle.reader.proofs.runs.store_run.Given as goal

abbrev pub invariant-loop-line : goal.invariant-loop-line
invariant-loop-line l = Filling l.text l.from l.first l.initial.bytes l.end l.at l.bytes

abbrev pub decreases-loop-line : goal.decreases-loop-line
decreases-loop-line l = length l.text - l.at
