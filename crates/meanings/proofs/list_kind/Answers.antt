-- `meanings::list_kind` meets its contract.
-- Assumes nothing.
use Rattle.ground.specs.Choice.{pick}
use Rattle.meanings.specs.Means.{list_kind}
use Rattle.meanings.proofs.list_kind.Goals as goal

pub returns-then-pair : goal.returns-then-pair
unfolding list_kind pick
returns-then-pair c = rw c.if-pair.true

pub returns : goal.returns
unfolding list_kind pick
returns c = rw (c.if-pair.false, ← c.set_of-set.ensures)
