-- `passes::labels::find_bearers` meets its contract: the table holds the first bearers among the statements passed.
-- Assumes nothing.
use mathlib.Core.Path.{◌≡◌}
use Prim.Native.Nat.{◌≤◌}
use Rattle.statements.specs.Listing.{rows_of}
use Rattle.passes.proofs.Bearers.{found}
use Rattle.passes.proofs.labels.find_bearers.Given as goal

abbrev pub invariant-loop-i : goal.invariant-loop-i
invariant-loop-i l = (l.i ≤ rows_of l.list) × (l.firsts ≡ found l.list l.i)
