-- `joltwagon::kept::is_kept` meets its contract.
-- Assumes nothing.
use mathlib.Core.Path.{refl}
use Rattle.joltwagon.specs.Kept.{is_kept}
use Rattle.joltwagon.proofs.kept.is_kept.Goals as goal

pub returns : goal.returns
unfolding is_kept
returns c = refl
