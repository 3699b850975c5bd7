-- `joltwagon::instructing::front_cells` meets its contract.
-- Assumes nothing.
use Rattle.joltwagon.proofs.Spoken.{front_by_cell}
use Rattle.joltwagon.proofs.instructing.front_cells.Goals as goal

pub returns : goal.returns
returns c = front_by_cell _
    c.wide.ensures
    c.wide-2.ensures
    c.wide-3.ensures
    c.wide-4.ensures
    c.wide-5.ensures
    c.flag.ensures
