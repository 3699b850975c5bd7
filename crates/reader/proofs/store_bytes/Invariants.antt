-- `reader::store_bytes` meets its contract: the bytes so far are stored.
-- Assumes nothing.
use mathlib.Core.Path.{◌≡◌}
use Prim.Native.Nat.{◌≤◌}
use lib.ListN.{take, drop}
use Rattle.ground.specs.Stores.{put}
use Rattle.reader.specs.Digits.{bytes_in}
use Rattle.reader.proofs.store_bytes.Given as goal

abbrev pub invariant-loop-i : goal.invariant-loop-i
invariant-loop-i l = (l.bytes ≡ put l.initial.bytes l.to (take l.i (bytes_in (drop l.from l.text)))) × (l.i ≤ l.count)
