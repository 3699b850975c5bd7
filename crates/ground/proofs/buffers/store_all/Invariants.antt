-- `ground::buffers::store_all` meets its contract. What is left of the values, stored after those that are, is the whole.
-- Assumes nothing.
use Rattle.std.proofs.Common.{◌≡◌, ◌+◌, drop}
use Rattle.ground.specs.Stores.{put}
use Rattle.ground.proofs.buffers.store_all.Given as goal

abbrev pub invariant-loop-i : goal.invariant-loop-i
invariant-loop-i g l = put l.out (l.at + l.i) (drop l.i l.values) ≡ put l.initial.out l.at l.values
