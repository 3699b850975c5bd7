-- `answers::hand_both` meets its contract.
-- Assumes nothing.
use native.Mathlib.Omega.{arith}
use lib.ListN.{length-append}
use Rattle.answers.proofs.Laws.{refused, too_short_lem, handed, in_two}
use Rattle.answers.proofs.hand_both.Goals as goal

pub returns-then-refusal-ne0 : goal.returns-then-refusal-ne0
returns-then-refusal-ne0 c = refused _ _ c.if-refusal-ne0.true

pub returns-then-answer-seam : goal.returns-then-answer-seam
returns-then-answer-seam c =
    let a = c.args in
    too_short_lem _ _ c.if-refusal-ne0.false (omega (arith, length-append a.first.now a.second.now, c.if-answer-seam.true))

pub returns : goal.returns
returns c =
    let a = c.args in
    let xs = a.first.now in
    let ys = a.second.now in
    handed _ _ c.if-refusal-ne0.false (omega (arith, length-append xs ys, c.if-answer-seam.false))
    (in_two a.answer.now xs ys c.store_all.ensures c.store_all-2.ensures)
