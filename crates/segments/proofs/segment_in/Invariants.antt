-- `segments::segment_in` meets its contract: the segment found, cut off at the starts that are left, is always the same.
-- Assumes nothing.
use mathlib.Core.Path.{◌≡◌}
use Prim.Native.Nat.{◌≤◌}
use lib.ListN.{drop}
use Rattle.segments.specs.Segments.{segment_in}
use Rattle.segments.proofs.Laws.{onward}
use Rattle.segments.proofs.segment_in.Given as goal

abbrev pub invariant-loop-start : goal.invariant-loop-start
invariant-loop-start l =
    (l.found.right ≤ 65535) × (onward l.found l.address (drop l.start-index l.starts) ≡ segment_in l.address l.starts)
