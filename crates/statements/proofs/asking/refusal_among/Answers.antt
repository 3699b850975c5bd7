-- `statements::asking::refusal_among` meets its contract: asked from the last to the first, the refusal so far is that of the items already asked.
-- Assumes nothing.
use mathlib.Core.Path.{◌≡◌, sym, ap, ◌∙◌}
use mathlib.Core.List.{List}
use Prim.Native.Nat.{ℕ}
use native.Mathlib.Omega.{arith}
use Rattle.std.specs.Prelude.{Result}
use Rattle.ground.specs.declared.refusals.Refusal.{Refusal}
use Rattle.values.specs.declared.Value.{Value}
use Rattle.statements.specs.Order.{earliest}
use Rattle.statements.specs.Asking.{refusals_in}
use Rattle.statements.proofs.Turns as turns
use Rattle.statements.proofs.asking.refusal_among.Goals as goal

pub loop-k-init : goal.loop-k-init
loop-k-init c =
    let a = c.args in
    sym (ap (λ (l : List (Result Value Refusal)). earliest (refusals_in l)) (turns.left_none a.kind a.items.now a.nodes.now a.labels.now a.here a.first a.count a.count (omega arith)))

pub loop-k-preserved : goal.loop-k-preserved
loop-k-preserved c =
    let a = c.args in
    let l = c.loop-k in
    turns.refusal_turn a.kind a.items.now a.nodes.now a.labels.now a.here a.first a.count l.k c.loop-k-test.true l.auto.k
    l.invariant c.item-number.ensures c.datum-answer.ensures (rw c.err.ensures.value at c.earlier-why.ensures)

pub returns : goal.returns
returns c =
    let a = c.args in
    let l = c.loop-k in
    let k : l.k ≡ 0 = omega arith in
    l.invariant ∙ ap (λ (n : ℕ). earliest (refusals_in (turns.left a.kind a.items.now a.nodes.now a.labels.now a.here a.first a.count n))) k
    ∙ ap (λ (x : List (Result Value Refusal)). earliest (refusals_in x)) (turns.left_all a.kind a.items.now a.nodes.now a.labels.now a.here a.first a.count)
