-- Laying a list with an answer beside it: where the answer has too few cells nothing is laid, and else the buffer is the layer's.
-- Assumes nothing.
use mathlib.Core.Path.{◌≡◌, ◌∙◌}
use mathlib.Core.List.{List}
use Prim.Native.Nat.{ℕ, ◌<◌, ◌≤◌}
use lib.ListN.{length}
use Rattle.std.specs.Prelude.{Result, Err}
use Rattle.ground.specs.declared.refusals.Refusal.{Refusal}
use Rattle.answers.specs.Steps.{late_of}
use Rattle.answers.proofs.Laws.{Answers}
use Rattle.laying.specs.Laying.{lay_of, answer_of, buffer_of}
use Rattle.laying.proofs.Outcomes.{refused_of}
use Rattle.joltwagon.specs.Sizes.{size_said}
use Rattle.joltwagon.specs.Lists.{ListLaid}
use Rattle.joltwagon.proofs.Sizes.{size_late, size_late_leaves, size_leaves}

module _ (list : List ℕ) (address : ℕ) (x d : List ℕ) where
  abbrev told : Result ℕ Refusal
  told = answer_of (lay_of list address (length x))

  abbrev stored : List ℕ
  stored = buffer_of (lay_of list address (length x)) x

  pub unlaid : {r : ℕ} → length d < 4 → r ≡ late_of (size_said told).refusal → ListLaid list address x d r x d
  unlaid {r} h e =
      let s = size_late told d h in
      record { refusal = e ∙ s.value; bytes = size_late_leaves told d stored x h; cells = s.answer_after }

  -- the buffer is as it was beside a refusal of the layer's own
  kept : (r : Refusal) → told ≡ Err r → stored ≡ x
  kept r e = rw (refused_of (lay_of list address (length x)) r e)

  pub laid : {r : ℕ} {e f : List ℕ} → 4 ≤ length d → e ≡ stored → Answers (size_said told) r d f → ListLaid list address x d r e f
  laid {r} {e} {f} h p a = record { refusal = a.value; bytes = size_leaves told d stored x h kept p; cells = a.answer_after }
