-- `entries::byte_in` meets its contract.
-- Assumes nothing.
use Rattle.entries.specs.Entries.{byte_in}
use Rattle.entries.proofs.byte_in.Goals as goal

pub returns : goal.returns
unfolding byte_in
returns c = cc
