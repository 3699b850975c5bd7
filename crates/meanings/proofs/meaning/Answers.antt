-- `meanings::meaning` meets its contract.
-- Assumes nothing.
use Rattle.meanings.specs.Means.{meaning_of}
use Rattle.meanings.proofs.meaning.Goals as goal

pub returns : goal.returns
unfolding meaning_of
returns c = cc
