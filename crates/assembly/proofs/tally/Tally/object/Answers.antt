-- `assembly::tally::Tally::object` meets its contract: how much an object with data adds.
-- Assumes nothing.
use Rattle.assembly.proofs.Tallies.{object_short}
use Rattle.assembly.proofs.tally.Tally.object.Goals as goal

pub returns-clause-bound : goal.returns-clause-bound
returns-clause-bound c = rw (c.grow.ensures, c.start.ensures) (object_short c.args.self c.args.address c.args.size c.requires.0 c.requires.3)
