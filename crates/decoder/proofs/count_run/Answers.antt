-- `decoder::count_run` meets its contract. The invariant: what was counted, and the run from `at` on, are the whole run.
-- Assumes nothing.
use mathlib.Core.Path.{◌∙◌, sym}
use native.Mathlib.Omega.{arith}
use Rattle.std.proofs.lemmas.Result.{err_from_is_err_and}
use Rattle.decoder.specs.Origin.{origin}
use Rattle.decoder.proofs.Origins.{inside}
use Rattle.decoder.proofs.Runs.{outside_counted, count_first, count_room, count_more, count_refused, count_end}
use Rattle.decoder.proofs.count_run.Goals as goal

pub returns-then-is_outside : goal.returns-then-is_outside
returns-then-is_outside c = sym (outside_counted _ _ (sym c.is_outside.ensures ∙ c.if-is_outside.true))

pub loop-at-init : goal.loop-at-init
loop-at-init c = count_first _ _ (omega arith) (sym c.is_outside.ensures ∙ c.if-is_outside.false)

pub overflow_cast-at : goal.overflow_cast-at
overflow_cast-at c =
    let a = c.args in
    omega (arith, inside a.bytes.now (origin a.address a.page) (sym c.is_outside.ensures ∙ c.if-is_outside.false))

pub returns-in_err-read : goal.returns-in_err-read
returns-in_err-read c =
    let q = c.in_err-read in
    let p = err_from_is_err_and c.from_residual.result c.from_residual.ensures.1 in
    rw (p.1, p.2)
    (sym (count_refused _ _ _ _ c.loop-at.invariant _ (rw (← c.shift.ensures) (sym c.front.ensures ∙ q.was)) c.loop-at-test.true))

pub loop-at-smaller : goal.loop-at-smaller
loop-at-smaller c =
    let q = c.in_ok-read in
    let s = count_room _ _ _ _ c.loop-at.invariant q.read (rw (← c.shift.ensures) (sym c.front.ensures ∙ q.was)) c.loop-at-test.true in
    omega arith

pub loop-at-preserved : goal.loop-at-preserved
loop-at-preserved c =
    let q = c.in_ok-read in
    count_more _ _ _ _ c.loop-at.invariant q.read (rw (← c.shift.ensures) (sym c.front.ensures ∙ q.was))

pub returns : goal.returns
returns c = sym (count_end _ _ _ _ c.loop-at.invariant c.loop-at-test.false)
