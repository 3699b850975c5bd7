-- `why::reasons::relative_reason` meets its contract.
-- Assumes nothing.
use Rattle.why.specs.Reasons.{relative_reason}
use Rattle.why.proofs.reasons.relative_reason.Goals as goal

pub returns : goal.returns
unfolding relative_reason
returns c = cc
