-- `entries::registers_in` meets its contract.
-- Assumes nothing.
use Rattle.entries.specs.Entries.{byte_in, registers_in}
use Rattle.entries.proofs.registers_in.Goals as goal

pub returns : goal.returns
unfolding registers_in byte_in
returns c = cc
