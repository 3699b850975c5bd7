-- `passes::labels::lay_over` meets its contract: the rows passed, and then what laying makes of the rest, are always the same list.
-- Assumes nothing.
use mathlib.Core.Path.{◌≡◌}
use Prim.Native.Nat.{◌*◌}
use Rattle.passes.specs.Labels.{laid_over}
use Rattle.passes.proofs.Tables.{to_lay}
use Rattle.passes.proofs.labels.lay_over.Given as goal

abbrev pub invariant-loop-k : goal.invariant-loop-k
invariant-loop-k l = to_lay l.table l.labels (l.k * 3) ≡ laid_over l.table l.initial.labels
