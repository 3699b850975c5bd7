-- The stages of a step, each from what its calls ensure, and one turn of a walk.
-- Assumes nothing.
use mathlib.Core.Path.{◌≡◌, refl, ap, ◌∙◌}
use mathlib.Core.List.{List}
use Prim.Native.Nat.{ℕ, zero, suc, ◌+◌, ◌≤◌}
use native.Mathlib.Omega.{arith}
use lib.ListN.{set}
use Rattle.ground.proofs.Choices.{by_pick}
use Rattle.statements.specs.declared.Effect.{Effect}
use Rattle.statements.proofs.Sizes.{counted_ends}
use Rattle.passes.specs.declared.walk.State.{State}
use Rattle.passes.specs.Walks.{Source, Walk, walk, marks_of, marked_labels, marked_state, effect_in, sized_state, advanced_state, advanced_starts, mark_of, resize_of, advance_of, done_of, step_of, walk_of}

-- ---- the size
-- marking and sizing leave the running address, so what the statement counts ends in the memory
pub sized_fits :
    (src : Source) (ls ls' zs : List ℕ) (i : ℕ) (e : Effect) (s marked sized : State) →
    marked ≡ marked_state src.list i s ls → sized ≡ sized_state zs i e marked → e ≡ effect_in src ls' i s → s.at ≤ 65536 →
    sized.at + e.size ≤ 65536
unfolding marked_state sized_state effect_in
sized_fits src ls ls' zs i e s marked sized p q f b =
    let at = ap (λ (x : State). x.at) (q ∙ ap (sized_state zs i e) p) ∙ by_pick (λ (x : State). x.at ≡ s.at) (marks_of src.list i) refl refl in
    rw (at, f) (counted_ends _ _ b)

-- ---- the parts of a step make the step
pub step_joins :
    (src : Source) (ls zs ts ls' zs' ts' : List ℕ) (i : ℕ) (s marked sized r : State) (e : Effect) →
    marked ≡ marked_state src.list i s ls → ls' ≡ marked_labels src.list i s ls →
    e ≡ effect_in src ls' i s →
    sized ≡ sized_state zs i e marked → zs' ≡ set zs i e.size →
    r ≡ advanced_state ts i e sized → ts' ≡ advanced_starts ts e sized →
    walk r ls' zs' ts' ≡ step_of src i (walk s ls zs ts)
unfolding step_of mark_of done_of resize_of advance_of
step_joins src ls zs ts ls' zs' ts' i s marked sized r e p₁ p₂ p₃ p₄ p₅ p₆ p₇ = cc

-- ---- the walk
module _ (src : Source) where
  -- one statement more
  walk_next : (n i : ℕ) (w : Walk) → walk_of src (suc n) i w ≡ step_of src (i + n) (walk_of src n i w)
  unfolding walk_of
  walk_next zero i w = ap (λ (j : ℕ). step_of src j w) (omega arith)
  walk_next (suc n) i w =
      walk_next n (i + 1) (step_of src i w) ∙ ap (λ (j : ℕ). step_of src j (walk_of src n (i + 1) (step_of src i w))) (omega arith)

  pub walk_more : (n : ℕ) (w : Walk) → walk_of src (n + 1) 0 w ≡ step_of src n (walk_of src n 0 w)
  walk_more n w = ap (λ (m : ℕ). walk_of src m 0 w) (omega arith) ∙ walk_next n 0 w ∙ ap (λ (j : ℕ). step_of src j (walk_of src n 0 w)) (omega arith)

  pub walk_none : (w : Walk) → walk_of src 0 0 w ≡ w
  unfolding walk_of
  walk_none w = refl
