-- `segments::insert` meets its contract: the numbers passed, with the carried one put into those that are left, are always the same list.
-- Assumes nothing.
use mathlib.Core.Path.{◌≡◌}
use lib.ListN.{take}
use Rattle.segments.specs.Segments.{inserted}
use Rattle.segments.proofs.Laws.{to_put}
use Rattle.segments.proofs.insert.Given as goal

abbrev pub invariant-loop-i : goal.invariant-loop-i
invariant-loop-i l =
    to_put l.starts l.last l.carry l.i ≡ inserted l.start (take l.last l.initial.starts)
