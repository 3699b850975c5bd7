-- `why::reasons::branch_reason` meets its contract.
-- Assumes nothing.
use Rattle.why.specs.Reasons.{branch_reason}
use Rattle.why.proofs.reasons.branch_reason.Goals as goal

pub returns : goal.returns
unfolding branch_reason
returns c = cc
