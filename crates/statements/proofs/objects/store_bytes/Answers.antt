-- `statements::objects::store_bytes` meets its contract: what is left, stored after what is stored, is the whole.
-- Assumes nothing.
use mathlib.Core.Path.{sym, ap, ◌∙◌}
use Prim.Native.Nat.{◌+◌, ◌*◌}
use native.Mathlib.Nat.{add-zero}
use native.Mathlib.Omega.{arith}
use lib.ListN.{take, drop, get_or}
use Rattle.ground.specs.Stores.{put}
use Rattle.records.specs.Objects.{byte_rows}
use Rattle.statements.proofs.Turns.{row_turn, bytes_next, bytes_none}
use Rattle.statements.proofs.objects.store_bytes.Goals as goal

pub loop-k-init : goal.loop-k-init
loop-k-init c = rw (add-zero c.args.place)

pub loop-k-preserved : goal.loop-k-preserved
loop-k-preserved c =
    let a = c.args in
    let l = c.loop-k in
    row_turn l.values (get_or a.bytes l.k 0) 8 a.place l.k (byte_rows (drop (l.k + 1) (take a.count a.bytes))) c.store_row.ensures
    ∙ sym (ap (put l.values (a.place + 2 * l.k)) (bytes_next a.bytes a.count l.k (omega arith) (omega arith)))
    ∙ l.invariant

pub returns : goal.returns
returns c =
    let a = c.args in
    let l = c.loop-k in
    sym (ap (put l.values (a.place + 2 * l.k)) (bytes_none a.bytes a.count l.k (omega arith))) ∙ l.invariant
