-- `why::explain` meets its contract.
-- Assumes nothing.
use Rattle.why.specs.Explaining.{explained_of}
use Rattle.why.proofs.explain.Goals as goal

pub returns : goal.returns
unfolding explained_of
returns c = cc
