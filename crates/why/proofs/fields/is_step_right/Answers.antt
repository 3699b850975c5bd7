-- `why::fields::is_step_right` meets its contract.
-- Assumes nothing.
use mathlib.Core.Path.{◌∙◌}
use Rattle.why.proofs.Told.{step_told}
use Rattle.why.proofs.fields.is_step_right.Goals as goal

pub returns : goal.returns
returns c = c.is_stepped.ensures ∙ step_told _ c.operand_of.ensures
