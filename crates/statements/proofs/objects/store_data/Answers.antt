-- `statements::objects::store_data` meets its contract: what is left, stored after what is stored, is the whole.
-- Assumes nothing.
use mathlib.Core.Path.{sym, ap, ◌∙◌}
use mathlib.Core.List.{List}
use Prim.Native.Nat.{◌+◌, ◌*◌}
use native.Mathlib.Nat.{add-zero}
use native.Mathlib.Omega.{arith}
use Rattle.ground.specs.Stores.{put}
use Rattle.std.specs.Prelude.{Result}
use Rattle.ground.specs.declared.refusals.Refusal.{Refusal}
use Rattle.values.specs.declared.Value.{Value}
use Rattle.statements.specs.Asking.{rows_in}
use Rattle.statements.proofs.Turns.{left_none, left_all, data_turn}
use Rattle.statements.proofs.objects.store_data.Goals as goal

pub loop-k-init : goal.loop-k-init
loop-k-init c =
    let a = c.args in
    rw (add-zero a.place) (ap (λ (l : List (Result Value Refusal)). put a.values.now a.place (rows_in l)) (left_all a.kind a.items.now a.nodes.now a.labels.now a.here a.first a.count))

pub loop-k-preserved : goal.loop-k-preserved
loop-k-preserved c =
    let a = c.args in
    let l = c.loop-k in
    data_turn a.kind a.items.now a.nodes.now a.labels.now a.here a.first a.count l.values a.place l.k c.loop-k-test.true
    c.item-number.ensures c.datum-answer.ensures (rw c.unwrap_or-value.ensures at c.store_row.ensures)
    ∙ l.invariant

pub returns : goal.returns
returns c =
    let a = c.args in
    let l = c.loop-k in
    sym (ap (λ (x : List (Result Value Refusal)). put l.values (a.place + 2 * l.k) (rows_in x)) (left_none a.kind a.items.now a.nodes.now a.labels.now a.here a.first a.count l.k (omega arith))) ∙ l.invariant
