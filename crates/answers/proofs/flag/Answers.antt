-- `answers::flag` meets its contract.
-- Assumes nothing.
use Rattle.ground.specs.Choice.{pick}
use Rattle.answers.specs.Sizes.{flag_cell}
use Rattle.answers.proofs.flag.Goals as goal

pub returns-then-b : goal.returns-then-b
unfolding flag_cell pick
returns-then-b c = rw c.if-b.true

pub returns-else-b : goal.returns-else-b
unfolding flag_cell pick
returns-else-b c = rw c.if-b.false
