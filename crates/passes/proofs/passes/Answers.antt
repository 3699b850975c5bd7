-- `passes::passes` meets its contract: the passes that are left, from here, give what all of them give.
-- Assumes nothing.
use mathlib.Core.Path.{◌∙◌, sym, ap}
use native.Mathlib.Omega.{arith}
use borrow.Author.Tests.{not-true, not-false}
use Rattle.passes.specs.Passes.{Outcome}
use Rattle.passes.proofs.Rounds.{settle_again, settle_stop, settle_out}
use Rattle.passes.proofs.passes.Goals as goal

pub returns-then-not-s : goal.returns-then-not-s
returns-then-not-s c =
    let e = c.pass-s.ensures in
    let o =
    settle_stop _ _ _ _ _ _ _ (omega (arith, c.loop-before-test.true)) e.answer e.table e.sizes _ c.answer.ensures (not-true _ c.if-not-s.true)
    ∙ c.loop-before.invariant in
    record { answer = ap (λ (x : Outcome). x.answer) o; table = ap (λ (x : Outcome). x.table) o; sizes = ap (λ (x : Outcome). x.sizes) o }

pub loop-before-preserved : goal.loop-before-preserved
loop-before-preserved c =
    let e = c.pass-s.ensures in
    settle_again _ _ _ _ _ _ _ (omega (arith, c.loop-before-test.true)) e.answer e.table e.sizes (not-false _ c.if-not-s.false) ∙ c.loop-before.invariant

pub returns : goal.returns
returns c =
    let o = sym (settle_out _ _ _ _ (omega (arith, c.loop-before-test.false, c.loop-before.auto.before-end))) ∙ c.loop-before.invariant in
    record { answer = c.refused.ensures ∙ ap (λ (x : Outcome). x.answer) o; table = ap (λ (x : Outcome). x.table) o; sizes = ap (λ (x : Outcome). x.sizes) o }
