-- `joltwagon::kept::kept_cells` meets its contract.
-- Assumes nothing.
use Rattle.joltwagon.proofs.Spoken.{kept_by_cell}
use Rattle.joltwagon.proofs.kept.kept_cells.Goals as goal

pub returns : goal.returns
returns c =
    kept_by_cell _
    c.flag.ensures
    c.flag-2.ensures
    c.flag-3.ensures
    c.wide.ensures
    c.wide-2.ensures
    c.wide-3.ensures
    c.wide-4.ensures
    c.wide-5.ensures
    c.wide-6.ensures
    c.wide-7.ensures
    c.wide-8.ensures
    c.flag-4.ensures
    c.flag-5.ensures
