-- `why::reasons::offset_reason` meets its contract.
-- Assumes nothing.
use Rattle.why.specs.Reasons.{offset_reason}
use Rattle.why.proofs.reasons.offset_reason.Goals as goal

pub returns : goal.returns
unfolding offset_reason
returns c = cc
