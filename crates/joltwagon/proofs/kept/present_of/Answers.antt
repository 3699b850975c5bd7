-- `joltwagon::kept::present_of` meets its contract.
-- Assumes nothing.
use Rattle.entries.specs.Entries.{flag_in, value_in}
use Rattle.joltwagon.specs.Kept.{present_of}
use Rattle.joltwagon.proofs.kept.present_of.Goals as goal

pub returns : goal.returns
unfolding present_of flag_in value_in
returns c = cc
