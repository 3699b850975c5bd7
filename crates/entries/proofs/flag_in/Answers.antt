-- `entries::flag_in` meets its contract.
-- Assumes nothing.
use Rattle.entries.specs.Entries.{flag_in}
use Rattle.entries.proofs.flag_in.Goals as goal

pub returns : goal.returns
unfolding flag_in
returns c = cc
