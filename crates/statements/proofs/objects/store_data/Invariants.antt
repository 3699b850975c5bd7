-- `statements::objects::store_data` meets its contract: what is left, stored after what is stored, is the whole.
-- Assumes nothing.
use mathlib.Core.Path.{◌≡◌}
use Prim.Native.Nat.{◌+◌, ◌*◌}
use Rattle.ground.specs.Stores.{put}
use Rattle.statements.specs.Asking.{answers_from, rows_in}
use Rattle.statements.proofs.Turns.{left}
use Rattle.statements.proofs.objects.store_data.Given as goal

abbrev pub invariant-loop-k : goal.invariant-loop-k
invariant-loop-k l = put l.values (l.place + 2 * l.k) (rows_in (left l.kind l.items l.nodes l.labels l.here l.first l.count l.k)) ≡ put l.initial.values l.place (rows_in (answers_from l.kind l.items l.nodes l.labels l.here l.first l.count))
