-- `entries::entry_of` meets its contract.
-- Assumes nothing.
use mathlib.Core.Path.{ap, ◌∙◌}
use Rattle.entries.specs.Entries.{entry_of}
use Rattle.entries.proofs.Cells.{entry_of_cells}
use Rattle.entries.proofs.entry_of.Goals as goal

pub returns : goal.returns
returns c =
    c.entry_in-2.ensures
    ∙ ap entry_of c.padded-whole.ensures
    ∙ entry_of_cells c.args.row.now
