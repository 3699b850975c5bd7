-- `why::reasons::branch_distance` meets its contract.
-- Assumes nothing.
use Rattle.why.specs.Reasons.{branch_distance}
use Rattle.why.proofs.reasons.branch_distance.Goals as goal

pub returns : goal.returns
unfolding branch_distance
returns c = cc
