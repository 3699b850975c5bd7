-- `joltwagon::instructing::hand_built` meets its contract.
-- Assumes nothing.
use Rattle.joltwagon.proofs.Spoken.{refused_told}
use Rattle.joltwagon.proofs.instructing.hand_built.Goals as goal

pub returns-in-Ok : goal.returns-in-Ok
returns-in-Ok c = rw (c.in-Ok.is, ← c.front_cells-front.ensures, ← c.kept_cells-kept.ensures) (record { value = c.hand_both.ensures.value; answer_after = c.hand_both.ensures.answer_after })

pub returns-in-Err : goal.returns-in-Err
returns-in-Err c = rw (c.in-Err.is, c.number.ensures) (refused_told _ _)
