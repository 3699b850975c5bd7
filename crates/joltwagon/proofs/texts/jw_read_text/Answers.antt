-- `joltwagon::texts::jw_read_text` meets its contract.
-- Assumes nothing.
use mathlib.Core.Path.{ap, sym, ◌∙◌}
use Rattle.answers.proofs.Laws.{said_as}
use Rattle.answers.specs.Steps.{late_of}
use Rattle.joltwagon.proofs.Spoken.{read_said_lem}
use Rattle.joltwagon.proofs.Reading.{unread, read, read_refused}
use Rattle.joltwagon.proofs.texts.jw_read_text.Goals as goal

pub returns-then-answer-lt8 : goal.returns-then-answer-lt8
returns-then-answer-lt8 c =
    let a = c.args in
    unread a.text.now a.bytes.now a.runs.now a.answer.now c.if-answer-lt8.true
    (c.late.ensures ∙ ap late_of c.refusal_of.ensures)

pub returns-in-Ok : goal.returns-in-Ok
returns-in-Ok c =
    let a = c.args in
    let r = c.read_text.ensures in
    read a.text.now a.bytes.now a.runs.now a.answer.now c.if-answer-lt8.false r
    (said_as a.answer.now (read_said_lem (sym c.in-Ok.is ∙ r.answer) c.size.ensures c.size-in-Ok.ensures) c.hand_both.ensures)

pub returns-in-Err : goal.returns-in-Err
returns-in-Err c =
    let a = c.args in
    read_refused a.text.now a.bytes.now a.runs.now a.answer.now _ c.if-answer-lt8.false c.number.ensures (rw c.in-Err.is at c.read_text.ensures)
