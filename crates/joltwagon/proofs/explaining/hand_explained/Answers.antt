-- `joltwagon::explaining::hand_explained` meets its contract.
-- Assumes nothing.
use Rattle.joltwagon.proofs.Reasons.{explained}
use Rattle.joltwagon.proofs.explaining.hand_explained.Goals as goal

pub returns : goal.returns
returns c = explained _ _
    c.hand_built-refused.ensures
    c.in_parts-parts.ensures
    c.reason_cells-cells.ensures
    c.hand_both-refusal.ensures
    c.beside.ensures
