-- `reader::runs::follow_on` meets its contract: a run goes on from where it stands as it does from its start.
-- Assumes nothing.
use mathlib.Core.Path.{◌≡◌}
use Prim.Native.Nat.{◌-◌, ◌≤◌}
use lib.ListN.{length}
use Rattle.records.specs.Text.{Rec}
use Rattle.reader.proofs.Stretches.{Going}
use Rattle.records.proofs.Joins.{after}
use Rattle.reader.proofs.runs.follow_on.Given as goal

abbrev pub invariant-loop-line : goal.invariant-loop-line
invariant-loop-line l =
    ((p : Rec) → after p ≡ l.reached → Going l.text l.from p l.end l.at) × (l.at ≤ length l.text) × (l.reached ≤ l.end)

abbrev pub decreases-loop-line : goal.decreases-loop-line
decreases-loop-line l = length l.text - l.at
