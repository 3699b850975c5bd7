-- The three ways in which a call answers: refused by itself, 9 for want of cells, and handed out.
-- Assumes nothing.
use mathlib.Core.Path.{◌≡◌, refl, ◌∙◌, ap, sym, subst}
use mathlib.Core.Bool.{false}
use mathlib.Core.List.{List, ◌++◌}
use Prim.Native.Nat.{ℕ, ◌<◌, ◌≤◌}
use native.Mathlib.Nat.{zero-add}
use borrow.Author.Tests.{eqb-true, eqb-false, ne_eqb, eq-eqb, lt-ltb, le-ltb}
use lib.Dec.{eqb}
use lib.ListN.{length}
use Rattle.ground.specs.Choice.{pick}
use Rattle.ground.specs.Refusals.{no_room}
use Rattle.ground.specs.Stores.{put}
use Rattle.ground.proofs.Choices.{pick_false, by_test}
use Rattle.ground.proofs.Stores.{put_append, put_front}
use Rattle.answers.specs.Said.{Said, refusal_of, lent_after, cells_after}
use Rattle.answers.specs.Steps.{late_of}

-- a call's return and the slice after it are those of what it says
abbrev pub Answers : Said → (r : ℕ) (d e : List ℕ) → Type 0
Answers s r d e = record { value : r ≡ refusal_of s (length d); answer_after : e ≡ cells_after s d }

module _ (s : Said) (d : List ℕ) where
  pub refused : (s.refusal ≡ 0 → ⊥) → Answers s s.refusal d d
  unfolding refusal_of lent_after cells_after pick
  refused h = let t = ne_eqb _ _ h in record { value = rw t; answer_after = rw (t, t) }

  pub too_short_lem : s.refusal ≡ 0 → length d < length s.cells → Answers s no_room d d
  unfolding refusal_of lent_after cells_after pick
  too_short_lem h k =
      let t = eq-eqb _ _ h in
      let u = lt-ltb _ _ k in
      record { value = rw (t, u); answer_after = rw (t, u) }

  pub handed :
      {e : List ℕ} → s.refusal ≡ 0 → length s.cells ≤ length d → e ≡ put d 0 s.cells →
      Answers s 0 d e
  unfolding refusal_of lent_after cells_after pick
  handed h k p =
      let t = eq-eqb _ _ h in
      let u = le-ltb _ _ k in
      record { value = rw (t, u); answer_after = rw (t, u) (p ∙ put_front d s.cells k) }

-- cells stored in two parts
pub in_two : (d xs ys : List ℕ) {e f : List ℕ} → e ≡ put d 0 xs → f ≡ put e (length xs) ys → f ≡ put d 0 (xs ++ ys)
in_two d xs ys p q =
    q
    ∙ ap (λ (l : List ℕ). put l (length xs) ys) p
    ∙ sym (put_append d 0 xs ys ∙ ap (λ (k : ℕ). put (put d 0 xs) k ys) (zero-add (length xs)))

-- the same, said otherwise
pub said_as : {s t : Said} {r : ℕ} (d : List ℕ) {e : List ℕ} → s ≡ t → Answers s r d e → Answers t r d e
said_as {s} {t} {r} d {e} p = subst (λ (x : Said). Answers x r d e) p

-- ---- what is lent beside the answer
-- with too few cells for the answer a call is refused, late, and leaves everything
pub late_answers : (s : Said) (d : List ℕ) → length d < length s.cells → Answers s (late_of s.refusal) d d
unfolding late_of
late_answers s d h =
    by_test (λ (n : ℕ). Answers s n d d) (eqb s.refusal 0)
    (λ e. too_short_lem s d (eqb-true _ _ e) h)
    (λ e. refused s d (eqb-false _ _ e))

late_refuses : (n : ℕ) → eqb (late_of n) 0 ≡ false
unfolding late_of
late_refuses n = by_test (λ (m : ℕ). eqb m 0 ≡ false) (eqb n 0) (λ _. refl) (λ e. e)

pub late_leaves : (s : Said) (d new x : List ℕ) → length d < length s.cells → x ≡ lent_after s d new x
unfolding lent_after
late_leaves s d new x h =
    sym (pick_false new x (ap (λ (n : ℕ). eqb n 0) (sym (late_answers s d h).value) ∙ late_refuses s.refusal))

-- with cells enough, the refusal is the call's own
roomy : (s : Said) (k : ℕ) → length s.cells ≤ k → refusal_of s k ≡ s.refusal
unfolding refusal_of pick
roomy s k h =
    by_test (λ (n : ℕ). n ≡ s.refusal) (eqb s.refusal 0)
    (λ e. rw (le-ltb k (length s.cells) h) (sym (eqb-true _ _ e)))
    (λ _. refl)

pub own_leaves :
    (s : Said) (d new x : List ℕ) {e : List ℕ} → length s.cells ≤ length d → e ≡ pick (eqb s.refusal 0) new x →
    e ≡ lent_after s d new x
unfolding lent_after
own_leaves s d new x h p = p ∙ ap (λ (n : ℕ). pick (eqb n 0) new x) (sym (roomy s (length d) h))
