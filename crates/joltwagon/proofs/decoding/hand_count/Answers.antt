-- `joltwagon::decoding::hand_count` meets its contract.
-- Assumes nothing.
use mathlib.Core.Path.{◌∙◌, sym, ap}
use Rattle.answers.proofs.Laws.{said_as}
use Rattle.joltwagon.specs.Decoding.{counted_said}
use Rattle.joltwagon.proofs.Spoken.{counted_said_lem, refusal_told}
use Rattle.joltwagon.proofs.decoding.hand_count.Goals as goal

pub returns-in-Ok : goal.returns-in-Ok
returns-in-Ok c = said_as _ (counted_said_lem c.in-Ok.count c.size-cells.ensures ∙ sym (ap counted_said c.in-Ok.is)) c.hand.ensures

pub returns-in-Err : goal.returns-in-Err
unfolding counted_said
returns-in-Err c = refusal_told c.in-Err.refusal _ c.number.ensures (sym (ap counted_said c.in-Err.is))
