-- `why::fields::if_wrong` meets its contract.
-- Assumes nothing.
use Rattle.ground.specs.Choice.{pick}
use Rattle.why.specs.Fields.{if_wrong}
use Rattle.why.proofs.fields.if_wrong.Goals as goal

pub returns-then-right : goal.returns-then-right
unfolding if_wrong pick
returns-then-right c = rw c.if-right.true

pub returns-else-right : goal.returns-else-right
unfolding if_wrong pick
returns-else-right c = rw c.if-right.false
