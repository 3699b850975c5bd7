-- `passes::walk::step` meets its contract: what the statement counts ends in the memory.
-- Assumes nothing.
use Rattle.passes.proofs.Turns.{sized_fits}
use Rattle.passes.proofs.walk.step.Goals as goal

pub advance-requires-clause-size_bound : goal.advance-requires-clause-size_bound
advance-requires-clause-size_bound c =
    let asked = c.mark_and_ask-marked.ensures in
    sized_fits _ _ _ _ _ _ _ _ _ asked.state c.resize-sized.ensures.answer asked.effect c.requires.at_bound
