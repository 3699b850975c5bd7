-- `entries::is_page_in` meets its contract.
-- Assumes nothing.
use Rattle.entries.specs.Entries.{is_page_in}
use Rattle.entries.proofs.is_page_in.Goals as goal

pub returns : goal.returns
unfolding is_page_in
returns c = cc
