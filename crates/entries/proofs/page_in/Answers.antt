-- `entries::page_in` meets its contract.
-- Assumes nothing.
use Rattle.entries.specs.Entries.{page_in}
use Rattle.entries.proofs.page_in.Goals as goal

pub returns : goal.returns
unfolding page_in
returns c = cc
