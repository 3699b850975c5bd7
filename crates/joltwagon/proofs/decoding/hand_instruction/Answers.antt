-- `joltwagon::decoding::hand_instruction` meets its contract.
-- Assumes nothing.
use Rattle.answers.proofs.Laws.{said_as}
use Rattle.joltwagon.proofs.Spoken.{decoded_said_lem}
use Rattle.joltwagon.proofs.decoding.hand_instruction.Goals as goal

pub returns : goal.returns
returns c = said_as _ (decoded_said_lem _ c.in_parts-parts.ensures c.flag.ensures) c.hand.ensures
