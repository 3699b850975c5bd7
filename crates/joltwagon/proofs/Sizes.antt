-- A size or a refusal, and what becomes of a buffer that was lent beside it.
-- Assumes nothing.
use mathlib.Core.Path.{◌≡◌, refl, sym, ◌∙◌}
use mathlib.Core.Bool.{false}
use mathlib.Core.List.{List, []}
use Prim.Native.Nat.{ℕ, ◌<◌, ◌≤◌}
use native.Mathlib.Omega.{arith}
use borrow.Author.Tests.{ne_eqb}
use lib.Dec.{eqb}
use lib.ListN.{length}
use Rattle.std.specs.Prelude.{Result, Ok, Err}
use Rattle.ground.specs.Choice.{pick}
use Rattle.ground.specs.Refusals.{number_of}
use Rattle.ground.specs.declared.refusals.Refusal.{Refusal}
use Rattle.ground.proofs.Choices.{pick_false}
use Rattle.answers.specs.Said.{said, lent_after}
use Rattle.answers.specs.Sizes.{size_cells}
use Rattle.answers.specs.Steps.{late_of}
use Rattle.answers.proofs.Laws.{Answers, refused, late_answers, late_leaves, own_leaves}
use Rattle.joltwagon.specs.Sizes.{size_said}
use Rattle.ground.proofs.Refused.{refused_number}

pub not_zero : (r : Refusal) → eqb (number_of r) 0 ≡ false
not_zero r = ne_eqb (number_of r) 0 (refused_number r)

pub size_refused : (r : Refusal) (d : List ℕ) → Answers (said (number_of r) []) (number_of r) d d
size_refused r d = refused (said (number_of r) []) d (refused_number r)

-- with too few cells for the answer
pub size_late : (w : Result ℕ Refusal) (d : List ℕ) → length d < 4 → Answers (size_said w) (late_of (size_said w).refusal) d d
unfolding size_said size_cells late_of
size_late (Ok n) d h = late_answers (said 0 (size_cells n)) d h
size_late (Err r) d h = rw (pick_false _ _ (not_zero r)) (size_refused r d)

pub size_late_leaves : (w : Result ℕ Refusal) (d new x : List ℕ) → length d < 4 → x ≡ lent_after (size_said w) d new x
unfolding size_said size_cells
size_late_leaves (Ok n) d new x h = late_leaves (said 0 (size_cells n)) d new x h
size_late_leaves (Err r) d new x h = own_leaves (said (number_of r) []) d new x (omega arith) (sym (pick_false new x (not_zero r)))

-- with cells enough, where a refusal leaves the buffer as it was
pub size_leaves :
    (w : Result ℕ Refusal) (d new x : List ℕ) {e : List ℕ} → 4 ≤ length d → ((r : Refusal) → w ≡ Err r → new ≡ x) → e ≡ new →
    e ≡ lent_after (size_said w) d new x
unfolding size_said size_cells pick
size_leaves (Ok n) d new x h same p = own_leaves (said 0 (size_cells n)) d new x h p
size_leaves (Err r) d new x h same p =
    own_leaves (said (number_of r) []) d new x (omega arith) (p ∙ same r refl ∙ sym (pick_false new x (not_zero r)))
