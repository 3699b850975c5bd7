-- `decoder::count_run` meets its contract. The invariant: what was counted, and the run from `at` on, are the whole run.
-- Assumes nothing.
use Prim.Native.Nat.{◌-◌}
use lib.ListN.{length}
use Rattle.decoder.proofs.Runs.{Counting}
use Rattle.decoder.proofs.count_run.Given as goal

abbrev pub invariant-loop-at : goal.invariant-loop-at
invariant-loop-at l = Counting l.bytes l.from l.at l.count

abbrev pub decreases-loop-at : goal.decreases-loop-at
decreases-loop-at l = length l.bytes - l.at
