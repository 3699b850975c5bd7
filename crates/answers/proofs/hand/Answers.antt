-- `answers::hand` meets its contract.
-- Assumes nothing.
use Rattle.answers.proofs.Laws.{refused, too_short_lem, handed}
use Rattle.answers.proofs.hand.Goals as goal

pub returns-then-refusal-ne0 : goal.returns-then-refusal-ne0
returns-then-refusal-ne0 c = refused _ _ c.if-refusal-ne0.true

pub returns-then-answer-cells : goal.returns-then-answer-cells
returns-then-answer-cells c = too_short_lem _ _ c.if-refusal-ne0.false c.if-answer-cells.true

pub returns : goal.returns
returns c =
    handed _ _ c.if-refusal-ne0.false c.if-answer-cells.false c.store_all.ensures
