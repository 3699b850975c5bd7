-- `joltwagon::instructing::jw_make` meets its contract.
-- Assumes nothing.
use mathlib.Core.Path.{sym, ap, ◌∙◌}
use borrow.Author.Tests.{lt-leb, le-leb}
use Rattle.answers.proofs.Laws.{said_as}
use Rattle.instruction.specs.Building.{make_of}
use Rattle.joltwagon.specs.Instructing.{made_said, make_said}
use Rattle.joltwagon.proofs.Spoken.{no_row, row, refused_told}
use Rattle.joltwagon.proofs.instructing.jw_make.Goals as goal

pub returns-then-row-lt-RECORD : goal.returns-then-row-lt-RECORD
unfolding make_said
returns-then-row-lt-RECORD c = no_row _ _ (lt-leb _ _ c.if-row-lt-RECORD.true)

pub returns-in-Ok : goal.returns-in-Ok
unfolding make_said
returns-in-Ok c =
    row _ _ (le-leb _ _ c.if-row-lt-RECORD.false)
    (said_as _ (ap made_said (sym c.in-Ok.is ∙ c.make.ensures ∙ ap make_of c.entry_of.ensures))
    (rw (← c.kept_cells-kept.ensures) (record { value = c.hand.ensures.value; answer_after = c.hand.ensures.answer_after })))

pub returns-in-Err : goal.returns-in-Err
unfolding make_said
returns-in-Err c =
    row _ _ (le-leb _ _ c.if-row-lt-RECORD.false)
    (said_as _ (ap made_said (sym c.in-Err.is ∙ c.make.ensures ∙ ap make_of c.entry_of.ensures)) (rw c.number.ensures (refused_told _ _)))
