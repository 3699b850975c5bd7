-- What is left of the bytes, stored after those that are, is the whole.
-- Assumes nothing.
use mathlib.Core.Path.{◌≡◌}
use Prim.Native.Nat.{◌+◌, ◌-◌, ◌*◌, ◌≤◌}
use Rattle.ground.specs.Stores.{put}
use Rattle.laying.specs.Entries.{rows_in, entries_from, entries_of}
use Rattle.laying.specs.Exactly.{bytes_from}
use Rattle.laying.proofs.store_rows.Given as goal

abbrev pub invariant-loop-row : goal.invariant-loop-row
invariant-loop-row l = record {
  stored : put l.out l.length (bytes_from (entries_from (rows_in l.list - l.row) l.list (l.row * 21)) (l.address + l.length))
      ≡ put l.initial.out 0 (bytes_from (entries_of l.list) l.address);
  short : l.length ≤ 5 * l.row;
}
