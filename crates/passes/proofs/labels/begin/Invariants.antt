-- `passes::labels::begin` meets its contract: the rows stored, and those that are left, make the whole table.
-- Assumes nothing.
use mathlib.Core.Path.{◌≡◌}
use Prim.Native.Nat.{◌-◌, ◌*◌}
use Rattle.ground.specs.Stores.{put}
use Rattle.passes.specs.Labels.{begun_rows, begun_table}
use Rattle.passes.proofs.labels.begin.Given as goal

abbrev pub invariant-loop-k : goal.invariant-loop-k
invariant-loop-k l =
    put l.table (l.k * 3) (begun_rows l.list l.labels (512 - l.k) l.k) ≡ put l.initial.table 0 (begun_table l.list l.labels)
