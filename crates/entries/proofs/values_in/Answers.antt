-- `entries::values_in` meets its contract.
-- Assumes nothing.
use Rattle.entries.specs.Entries.{byte_in, flag_in, value_in, values_in}
use Rattle.entries.proofs.values_in.Goals as goal

pub returns : goal.returns
unfolding values_in value_in flag_in byte_in
returns c = cc
