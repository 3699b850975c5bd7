-- `joltwagon::texts::jw_write_text` meets its contract.
-- Assumes nothing.
use mathlib.Core.Path.{ap, ◌∙◌}
use Rattle.std.specs.Prelude.{Result}
use Rattle.ground.specs.declared.refusals.Refusal.{Refusal}
use Prim.Native.Nat.{ℕ}
use Rattle.answers.specs.Steps.{late_of}
use Rattle.joltwagon.specs.Sizes.{size_said}
use Rattle.joltwagon.proofs.Writing.{unwritten, written}
use Rattle.joltwagon.proofs.texts.jw_write_text.Goals as goal

pub returns-then-answer-lt4 : goal.returns-then-answer-lt4
returns-then-answer-lt4 c =
    let a = c.args in
    unwritten a.objects.now a.values.now a.out.now a.answer.now c.if-answer-lt4.true
    (c.late_size.ensures ∙ ap (λ (w : Result ℕ Refusal). late_of (size_said w).refusal) c.text_size.ensures)

pub returns : goal.returns
returns c =
    let a = c.args in
    let w = c.write_text.ensures in
    written a.objects.now a.values.now a.out.now a.answer.now c.if-answer-lt4.false w.out_after (rw w.value at c.hand_size.ensures)
