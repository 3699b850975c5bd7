-- `answers::late` meets its contract.
-- Assumes nothing.
use borrow.Author.Tests.{ne_eqb, eq-eqb}
use Rattle.ground.specs.Choice.{pick}
use Rattle.answers.specs.Steps.{late_of}
use Rattle.answers.proofs.late.Goals as goal

pub returns-then-refusal-ne0 : goal.returns-then-refusal-ne0
unfolding late_of pick
returns-then-refusal-ne0 c = rw (ne_eqb _ _ c.if-refusal-ne0.true)

pub returns-else-refusal-ne0 : goal.returns-else-refusal-ne0
unfolding late_of pick
returns-else-refusal-ne0 c = rw (eq-eqb _ _ c.if-refusal-ne0.false)
