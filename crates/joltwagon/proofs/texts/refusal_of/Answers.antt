-- `joltwagon::texts::refusal_of` meets its contract.
-- Assumes nothing.
use Rattle.joltwagon.specs.Texts.{read_said}
use Rattle.joltwagon.proofs.texts.refusal_of.Goals as goal

pub returns-in-Ok : goal.returns-in-Ok
unfolding read_said
returns-in-Ok c = rw (← c.read_text.ensures.answer, c.in-Ok.is)

pub returns-in-Err : goal.returns-in-Err
unfolding read_said
returns-in-Err c = rw (← c.read_text.ensures.answer, c.in-Err.is) c.number.ensures
