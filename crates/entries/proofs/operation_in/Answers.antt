-- `entries::operation_in` meets its contract.
-- Assumes nothing.
use Rattle.ground.specs.Choice.{pick}
use Rattle.entries.specs.Entries.{byte_in}
use Rattle.entries.proofs.operation_in.Goals as goal

pub returns-then-flags : goal.returns-then-flags
unfolding byte_in pick
returns-then-flags c = rw c.if-flags.true c.narrow.ensures

pub returns-else-flags : goal.returns-else-flags
unfolding pick
returns-else-flags c = rw c.if-flags.false
