-- A refusal leaves the slice as it was.
-- Assumes nothing.
use Rattle.joltwagon.specs.Sizes.{size_said}
use Rattle.joltwagon.proofs.Sizes.{size_refused}
use Rattle.joltwagon.proofs.sized.hand_size.Goals as goal

pub returns-in-Err-clause-answer_after : goal.returns-in-Err-clause-answer_after
unfolding size_said
returns-in-Err-clause-answer_after c = rw c.in-Err.is (size_refused c.in-Err.refusal c.args.answer.now).answer_after
