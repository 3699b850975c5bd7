-- `entries::kept_of` meets its contract.
-- Assumes nothing.
use mathlib.Core.Path.{ap, ◌∙◌}
use Rattle.entries.specs.Entries.{kept_of}
use Rattle.entries.proofs.Cells.{kept_of_cells}
use Rattle.entries.proofs.kept_of.Goals as goal

pub returns : goal.returns
returns c =
    c.kept_in-2.ensures
    ∙ ap kept_of c.padded-whole.ensures
    ∙ kept_of_cells c.args.row.now
