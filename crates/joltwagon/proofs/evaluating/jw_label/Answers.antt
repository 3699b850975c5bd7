-- `joltwagon::evaluating::jw_label` meets its contract.
-- Assumes nothing.
use mathlib.Core.Path.{sym, ◌∙◌}
use Rattle.answers.proofs.Laws.{said_as}
use Rattle.joltwagon.proofs.Spoken.{value_said_lem, value_refused}
use Rattle.joltwagon.proofs.evaluating.jw_label.Goals as goal

pub returns-in-Ok : goal.returns-in-Ok
returns-in-Ok c = said_as _ (value_said_lem (sym c.label_value.ensures ∙ c.in-Ok.is)) c.hand.ensures

pub returns-in-Err : goal.returns-in-Err
returns-in-Err c = said_as _ (value_refused (sym c.label_value.ensures ∙ c.in-Err.is) c.number.ensures) c.hand-in-Err.ensures
