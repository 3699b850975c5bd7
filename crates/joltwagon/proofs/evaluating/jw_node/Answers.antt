-- `joltwagon::evaluating::jw_node` meets its contract.
-- Assumes nothing.
use mathlib.Core.Path.{sym, ◌∙◌}
use Rattle.answers.proofs.Laws.{said_as}
use Rattle.joltwagon.proofs.Spoken.{evaluated_said_lem, evaluated_refused}
use Rattle.joltwagon.proofs.evaluating.jw_node.Goals as goal

pub returns-in-Ok : goal.returns-in-Ok
returns-in-Ok c = said_as _ (evaluated_said_lem (sym c.node_pair.ensures ∙ c.in-Ok.is)) c.hand.ensures

pub returns-in-Err : goal.returns-in-Err
returns-in-Err c = said_as _ (evaluated_refused (sym c.node_pair.ensures ∙ c.in-Err.is) c.number.ensures) c.hand-in-Err.ensures
