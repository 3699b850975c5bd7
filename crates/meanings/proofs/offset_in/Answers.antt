-- `meanings::offset_in` meets its contract.
-- Assumes nothing.
use Rattle.ground.specs.Choice.{pick}
use Rattle.meanings.specs.Means.{offset_in}
use Rattle.meanings.proofs.offset_in.Goals as goal

pub returns-then-v : goal.returns-then-v
unfolding offset_in pick
returns-then-v c = rw (c.if-v.true, ← c.sign_extended-wide.ensures)

pub returns : goal.returns
unfolding offset_in pick
returns c = rw c.if-v.false
