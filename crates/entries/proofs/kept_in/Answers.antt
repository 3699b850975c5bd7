-- `entries::kept_in` meets its contract.
-- Assumes nothing.
use Rattle.entries.specs.Entries.{byte_in, flag_in, kept_of}
use Rattle.entries.proofs.kept_in.Goals as goal

pub returns : goal.returns
unfolding kept_of flag_in byte_in
returns c =
    rw (
      c.told-operand.ensures,
      c.kept_flagged.ensures,
      c.narrow-form.ensures,
    )
