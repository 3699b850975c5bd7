-- `passes::passes` meets its contract: the passes that are left, from here, give what all of them give.
-- Assumes nothing.
use mathlib.Core.Path.{◌≡◌}
use Prim.Native.Nat.{◌-◌}
use Rattle.passes.specs.Walks.{source}
use Rattle.passes.specs.Passes.{most_passes, settle_of}
use Rattle.passes.proofs.passes.Given as goal

abbrev pub invariant-loop-before : goal.invariant-loop-before
invariant-loop-before l =
    settle_of (source l.list l.items l.nodes) (most_passes - l.before) l.before l.table l.sizes ≡ settle_of (source l.list l.items l.nodes) most_passes 0 l.initial.table l.initial.sizes
