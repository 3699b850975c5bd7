-- `entries::flagged` meets its contract.
-- Assumes nothing.
use mathlib.Core.Path.{refl}
use Rattle.entries.specs.Entries.{is_flag, flagged_in}
use Rattle.entries.proofs.flagged.Goals as goal

pub returns : goal.returns
unfolding flagged_in is_flag
returns c = refl
