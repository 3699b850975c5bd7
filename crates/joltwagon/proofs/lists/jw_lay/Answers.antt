-- `joltwagon::lists::jw_lay` meets its contract.
-- Assumes nothing.
use mathlib.Core.Path.{ap, ◌∙◌}
use Prim.Native.Nat.{ℕ}
use Rattle.std.specs.Prelude.{Result}
use Rattle.ground.specs.declared.refusals.Refusal.{Refusal}
use Rattle.answers.specs.Steps.{late_of}
use Rattle.joltwagon.specs.Sizes.{size_said}
use Rattle.joltwagon.proofs.Laying.{unlaid, laid}
use Rattle.joltwagon.proofs.lists.jw_lay.Goals as goal

pub returns-then-answer-lt4 : goal.returns-then-answer-lt4
returns-then-answer-lt4 c =
    let a = c.args in
    unlaid a.list.now a.address a.out.now a.answer.now c.if-answer-lt4.true
    (c.late_size.ensures ∙ ap (λ (w : Result ℕ Refusal). late_of (size_said w).refusal) c.measure.ensures)

pub returns : goal.returns
returns c =
    let a = c.args in
    let l = c.lay.ensures in
    laid a.list.now a.address a.out.now a.answer.now c.if-answer-lt4.false l.buffer (rw l.answer at c.hand_size.ensures)
