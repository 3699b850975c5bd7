-- `entries::is_flag` meets its contract.
-- Assumes nothing.
use Rattle.entries.specs.Entries.{is_flag}
use Rattle.entries.proofs.is_flag.Goals as goal

pub returns : goal.returns
unfolding is_flag
returns c = cc
