-- `meanings::operation` meets its contract.
-- Assumes nothing.
use Rattle.ground.specs.Choice.{pick}
use Rattle.meanings.specs.Means.{operation_of}
use Rattle.meanings.proofs.operation.Goals as goal

pub returns-then-long : goal.returns-then-long
unfolding operation_of pick
returns-then-long c = rw c.if-long.true c.long_of.ensures

pub returns : goal.returns
unfolding operation_of pick
returns c = rw c.if-long.false c.merged.ensures
