-- `why::reasons::relative_distance` meets its contract.
-- Assumes nothing.
use Rattle.why.specs.Reasons.{relative_distance}
use Rattle.why.proofs.reasons.relative_distance.Goals as goal

pub returns : goal.returns
unfolding relative_distance
returns c = cc
