-- `joltwagon::explaining::reason_cells` meets its contract.
-- Assumes nothing.
use Rattle.joltwagon.proofs.Reasons.{reason_by_cell}
use Rattle.joltwagon.proofs.explaining.reason_cells.Goals as goal

pub returns : goal.returns
returns c = reason_by_cell _ c.flag.ensures c.flag-2.ensures c.flag-3.ensures c.flag-4.ensures
