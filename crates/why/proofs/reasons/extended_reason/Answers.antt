-- `why::reasons::extended_reason` meets its contract.
-- Assumes nothing.
use mathlib.Core.Path.{sym, ◌∙◌}
use Rattle.ground.proofs.Choices.{pick_false}
use Rattle.ground.specs.Choice.{pick}
use Rattle.why.specs.Reasons.{extended_reason}
use Rattle.why.proofs.reasons.extended_reason.Goals as goal

pub returns-then-o : goal.returns-then-o
unfolding extended_reason pick
returns-then-o c = rw c.if-o.true

pub returns-then-has_form : goal.returns-then-has_form
unfolding extended_reason pick
returns-then-has_form c = rw (← c.has_form.ensures, c.if-has_form.true) (c.address_reason.ensures ∙ sym (pick_false _ _ c.if-o.false))

pub returns-then-has_form-2 : goal.returns-then-has_form-2
unfolding extended_reason pick
returns-then-has_form-2 c = rw (← c.has_form.ensures, c.if-has_form.false, ← c.has_form-2.ensures, c.if-has_form-2.true) (c.branch_reason.ensures ∙ sym (pick_false _ _ c.if-o.false))

pub returns : goal.returns
unfolding extended_reason pick
returns c = rw (c.if-o.false, ← c.has_form.ensures, c.if-has_form.false, ← c.has_form-2.ensures, c.if-has_form-2.false)
