-- `statements::objects::store_bytes` meets its contract: what is left, stored after what is stored, is the whole.
-- Assumes nothing.
use mathlib.Core.Path.{◌≡◌}
use Prim.Native.Nat.{◌+◌, ◌*◌}
use lib.ListN.{take, drop}
use Rattle.ground.specs.Stores.{put}
use Rattle.records.specs.Objects.{byte_rows}
use Rattle.statements.proofs.objects.store_bytes.Given as goal

abbrev pub invariant-loop-k : goal.invariant-loop-k
invariant-loop-k l = put l.values (l.place + 2 * l.k) (byte_rows (drop l.k (take l.count l.bytes))) ≡ put l.initial.values l.place (byte_rows (take l.count l.bytes))
