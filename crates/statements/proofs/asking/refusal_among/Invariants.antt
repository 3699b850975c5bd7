-- `statements::asking::refusal_among` meets its contract: asked from the last to the first, the refusal so far is that of the items already asked.
-- Assumes nothing.
use mathlib.Core.Path.{◌≡◌}
use Rattle.statements.specs.Order.{earliest}
use Rattle.statements.specs.Asking.{refusals_in}
use Rattle.statements.proofs.Turns as turns
use Rattle.statements.proofs.asking.refusal_among.Given as goal

abbrev pub invariant-loop-k : goal.invariant-loop-k
invariant-loop-k l = l.why ≡ earliest (refusals_in (turns.left l.kind l.items l.nodes l.labels l.here l.first l.count l.k))
