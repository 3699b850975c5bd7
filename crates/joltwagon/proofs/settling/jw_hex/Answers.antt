-- `joltwagon::settling::jw_hex` meets its contract.
-- Assumes nothing.
use mathlib.Core.Path.{ap, ◌∙◌}
use Prim.Native.Nat.{ℕ}
use Rattle.answers.proofs.Laws.{said_as}
use Rattle.answers.specs.Said.{said}
use Rattle.passes.specs.Walks.{source}
use Rattle.joltwagon.specs.Settling.{with_passes, number_in}
use Rattle.joltwagon.proofs.Hexing.{unwritten, written, refused_all}
use Rattle.joltwagon.proofs.settling.jw_hex.Goals as goal

pub returns-then-answer-lt4 : goal.returns-then-answer-lt4
returns-then-answer-lt4 c =
    let a = c.args in
    let h = c.hex-unwritten.ensures in
    unwritten (source a.list.now a.items.now a.nodes.now) a.labels.now a.objects.now a.values.now a.out.now a.answer.now
    c.if-answer-lt4.true h.answer h.labels h.objects h.values
    (c.with_passes.ensures ∙ ap (λ (n : ℕ). with_passes n c.hex-unwritten.result.passes) (c.number_in.ensures ∙ ap number_in c.err.ensures.value))

pub returns-in-Ok : goal.returns-in-Ok
returns-in-Ok c =
    let a = c.args in
    let h = c.hex-written.ensures in
    written (source a.list.now a.items.now a.nodes.now) a.labels.now a.objects.now a.values.now a.out.now a.answer.now h.answer h.labels h.objects h.values h.text
    c.if-answer-lt4.false c.in-Ok.is (said_as a.answer.now (ap (said 0) c.size-cells.ensures) c.hand.ensures) c.with_passes-in-Ok.ensures

pub returns-in-Err : goal.returns-in-Err
returns-in-Err c =
    let a = c.args in
    let h = c.hex-written.ensures in
    refused_all (source a.list.now a.items.now a.nodes.now) a.labels.now a.objects.now a.values.now a.out.now a.answer.now h.answer h.labels h.objects h.values h.text
    c.in-Err.is (c.with_passes-in-Err.ensures ∙ ap (λ (n : ℕ). with_passes n c.hex-written.result.passes) c.number.ensures)
