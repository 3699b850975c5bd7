-- `why::reasons::is_elsewhere` meets its contract.
-- Assumes nothing.
use Rattle.why.proofs.reasons.is_elsewhere.Goals as goal

pub returns-in-Known : goal.returns-in-Known
returns-in-Known c = rw c.in-Known.is
