-- `answers::size` meets its contract.
-- Assumes nothing.
use mathlib.Core.Path.{refl}
use Rattle.answers.specs.Sizes.{size_cells}
use Rattle.answers.proofs.size.Goals as goal

pub returns : goal.returns
unfolding size_cells
returns c = refl
