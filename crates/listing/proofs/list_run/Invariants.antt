-- `listing::list_run` meets its contract. What holds at each turn is `Running`.
-- Assumes nothing.
use Prim.Native.Nat.{◌-◌}
use lib.ListN.{length}
use Rattle.listing.proofs.Running.{Running}
use Rattle.listing.proofs.list_run.Given as goal

abbrev pub invariant-loop-place : goal.invariant-loop-place
invariant-loop-place l = Running l.initial.out l.initial.at l.initial.count l.bytes l.address l.out l.at l.count l.place

abbrev pub decreases-loop-place : goal.decreases-loop-place
decreases-loop-place l = length l.bytes - l.place
