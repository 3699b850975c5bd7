-- `joltwagon::instructing::jw_assemble` meets its contract.
-- Assumes nothing.
use mathlib.Core.Path.{ap, ◌∙◌}
use borrow.Author.Tests.{lt-leb, le-leb}
use Rattle.answers.proofs.Laws.{said_as}
use Rattle.instruction.specs.declared.Record.{Record}
use Rattle.instruction.specs.Building.{fresh_of}
use Rattle.joltwagon.specs.Instructing.{built_said, assemble_said}
use Rattle.joltwagon.proofs.Spoken.{no_row, row}
use Rattle.joltwagon.proofs.instructing.jw_assemble.Goals as goal

pub returns-then-row-lt-RECORD : goal.returns-then-row-lt-RECORD
unfolding assemble_said
returns-then-row-lt-RECORD c = no_row _ _ (lt-leb _ _ c.if-row-lt-RECORD.true)

pub returns : goal.returns
unfolding assemble_said
returns c =
    let a = c.args in
    row _ _ (le-leb _ _ c.if-row-lt-RECORD.false)
    (said_as _
    (ap built_said (c.assemble.ensures ∙ ap (λ (r : Record). fresh_of r a.address) c.entry_of.ensures))
    c.hand_built.ensures)
