-- `joltwagon::decoding::hand_decoded` meets its contract.
-- Assumes nothing.
use mathlib.Core.Path.{sym, ap}
use Rattle.joltwagon.specs.Decoding.{decoded_said}
use Rattle.joltwagon.proofs.Spoken.{refusal_told}
use Rattle.joltwagon.proofs.decoding.hand_decoded.Goals as goal

pub returns-in-Err : goal.returns-in-Err
unfolding decoded_said
returns-in-Err c = refusal_told c.in-Err.refusal _ c.number.ensures (sym (ap decoded_said c.in-Err.is))
