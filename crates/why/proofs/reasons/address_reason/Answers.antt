-- `why::reasons::address_reason` meets its contract.
-- Assumes nothing.
use Rattle.why.specs.Reasons.{address_reason}
use Rattle.why.proofs.reasons.address_reason.Goals as goal

pub returns : goal.returns
unfolding address_reason
returns c = cc
