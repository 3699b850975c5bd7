-- `assembly::output::done_at` meets its contract, by those of what it calls; what is counted ends by 65536.
-- Assumes nothing.
use Rattle.statements.proofs.Sizes.{counted_ends}
use Rattle.assembly.specs.Steps.{done_at}
use Rattle.assembly.proofs.output.done_at.Goals as goal

pub returns : goal.returns
unfolding done_at
returns c = record { answer = cc; bound = rw c.counted.ensures (counted_ends _ _ c.requires) }
