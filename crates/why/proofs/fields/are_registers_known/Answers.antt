-- `why::fields::are_registers_known` meets its contract.
-- Assumes nothing.
use mathlib.Core.Bool.{not}
use mathlib.Core.Path.{ap, ◌∙◌}
use Rattle.why.proofs.Told.{registers_told}
use Rattle.why.proofs.fields.are_registers_known.Goals as goal

pub returns : goal.returns
returns c = ap not (c.strange.ensures ∙ registers_told _ c.operand_of-o.ensures)
