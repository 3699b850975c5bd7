-- `entries::operand_in` meets its contract.
-- Assumes nothing.
use Rattle.entries.specs.Entries.{operand_of}
use Rattle.entries.proofs.operand_in.Goals as goal

pub returns : goal.returns
unfolding operand_of
returns c = rw (c.told.ensures, c.flagged.ensures)
