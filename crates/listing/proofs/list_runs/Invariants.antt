-- `listing::list_runs` meets its contract. What holds at each turn is `Walking`.
-- Assumes nothing.
use mathlib.Core.Path.{◌≡◌}
use Prim.Native.Nat.{◌≤◌}
use lib.ListN.{length, drop}
use Rattle.reader.specs.Answers.{runs_in}
use Rattle.listing.proofs.Walking.{Walking}
use Rattle.listing.proofs.list_runs.Given as goal

abbrev pub invariant-loop-run : goal.invariant-loop-run
invariant-loop-run l =
    Walking l.initial.out l.text l.out l.done l.place × (65536 ≤ length l.bytes) × (length l.out ≡ length l.initial.out) × (length l.bytes ≡ length l.initial.bytes)

abbrev pub decreases-loop-run : goal.decreases-loop-run
decreases-loop-run l = length (runs_in (drop l.place l.text))
