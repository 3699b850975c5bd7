-- `why::reasons::offset_number` meets its contract.
-- Assumes nothing.
use Rattle.why.specs.Reasons.{offset_number}
use Rattle.why.proofs.reasons.offset_number.Goals as goal

pub returns : goal.returns
unfolding offset_number
returns c = cc
