-- `entries::operand_of` meets its contract.
-- Assumes nothing.
use mathlib.Core.Path.{ap, ◌∙◌}
use Rattle.entries.specs.Entries.{operand_of}
use Rattle.entries.proofs.Cells.{operand_of_cells}
use Rattle.entries.proofs.operand_of.Goals as goal

pub returns : goal.returns
returns c =
    c.operand_in-2.ensures
    ∙ ap operand_of c.padded-whole.ensures
    ∙ operand_of_cells c.args.row.now
