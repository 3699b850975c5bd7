-- The loops over rows of labels: the table that the passes begin with, and the lent table after them.
-- Assumes nothing.
use mathlib.Core.Path.{◌≡◌, refl, ap, ◌∙◌}
use mathlib.Core.Bool.{Bool, true, false}
use mathlib.Core.List.{List, [], ◌∷◌, ◌++◌, append-nil}
use Prim.Native.Nat.{ℕ, zero, suc, ◌+◌, ◌-◌, ◌*◌, ◌≤◌, ◌<◌, min}
use native.Mathlib.Nat.{le_of_suc-le-suc}
use native.Mathlib.Numerals.{add-one}
use native.Mathlib.Omega.{arith}
use lib.Dec.{leb, ltb}
use lib.ListN.{length, take, drop, get_or, set, length-drop, take-append-drop, drop_of_length-le}
use borrow.Author.Tests.{leb-true, leb-false}
use Rattle.ground.specs.Stores.{put}
use Rattle.ground.proofs.Stores.{put_front}
use Rattle.passes.specs.declared.labels.Lent.{Lent}
use Rattle.statements.specs.Listing.{rows_of}
use Rattle.passes.specs.Labels.{begun_state, begun_rows, begun_table, laid_over}
use Rattle.passes.specs.Steps.{bearers_of, lent_of, state_of, row_of}
use Rattle.passes.proofs.Bearers.{bearer_at}

-- a row is its three stores
pub row_stored :
    (t t₁ t₂ t₃ ls : List ℕ) (k state : ℕ) (borne : Bool) (l : Lent) →
    l ≡ lent_of ls k → state ≡ state_of l.state borne →
    t₁ ≡ set t (k * 3) state → t₂ ≡ set t₁ (k * 3 + 1) 0 → t₃ ≡ set t₂ (k * 3 + 2) l.node →
    t₃ ≡ put t (k * 3) (row_of ls k borne)
unfolding lent_of row_of
row_stored t t₁ t₂ t₃ ls k state borne l e s p q r =
    let two : k * 3 + 2 ≡ k * 3 + 1 + 1 = omega arith in
    rw (r, q, p, s, e, two)

module _ (list ls : List ℕ) where
  -- row k is stored, and the rows after it are left
  pub begin_more :
      (firsts t t' : List ℕ) (k first : ℕ) (borne : Bool) → k < 512 → firsts ≡ bearers_of list → first ≡ get_or firsts k 0 →
      borne ≡ ltb first (rows_of list) → t' ≡ put t (k * 3) (row_of ls k borne) →
      put t' ((k + 1) * 3) (begun_rows list ls (512 - (k + 1)) (k + 1)) ≡ put t (k * 3) (begun_rows list ls (512 - k) k)
  unfolding begun_rows begun_state row_of state_of
  begin_more firsts t t' k first borne h b f o e =
      let n : 512 - k ≡ suc (512 - (k + 1)) = omega arith in
      let m : (k + 1) * 3 ≡ k * 3 + 1 + 1 + 1 = omega arith in
      rw (e, o, f, b, bearer_at list k h, n, m)

  pub begin_done : (t : List ℕ) (k : ℕ) → 512 ≤ k → put t (k * 3) (begun_rows list ls (512 - k) k) ≡ t
  unfolding begun_rows
  begin_done t k h = let n : 512 - k ≡ 0 = omega arith in rw n

  rows_length : (n k : ℕ) → length (begun_rows list ls n k) ≡ n * 3
  unfolding begun_rows
  rows_length zero k = refl
  rows_length (suc n) k = let e = rows_length n (k + 1) in omega arith

  -- a table of 512 rows is filled
  pub begin_fills : (t : List ℕ) → length t ≡ 1536 → put t 0 (begun_table list ls) ≡ begun_table list ls
  unfolding begun_table
  begin_fills t h =
      let n = rows_length 512 0 in
      let all : length t ≤ length (begun_rows list ls 512 0) = omega arith in
      put_front t (begun_rows list ls 512 0) (omega arith)
      ∙ ap (λ (d : List ℕ). begun_rows list ls 512 0 ++ d) (drop_of_length-le t all)
      ∙ append-nil (begun_rows list ls 512 0)

-- the first `at` numbers as they are, and the rest laid over
abbrev pub to_lay : List ℕ → List ℕ → ℕ → List ℕ
to_lay fs ls at = take at ls ++ laid_over (drop at fs) (drop at ls)

lay_step :
    (fs ls : List ℕ) (at : ℕ) → suc (suc (suc at)) ≤ length fs → suc (suc (suc at)) ≤ length ls →
    to_lay fs (set (set ls at (get_or fs at 0)) (suc at) (get_or fs (suc at) 0)) (suc (suc (suc at))) ≡ to_lay fs ls at
unfolding laid_over
lay_step [] ls at h b = absurd (omega arith)
lay_step (f ∷ fs) [] at h b = absurd (omega arith)
lay_step (s ∷ []) (x ∷ ls) zero h b = absurd (omega arith)
lay_step (s ∷ a ∷ []) (x ∷ ls) zero h b = absurd (omega arith)
lay_step (s ∷ a ∷ n ∷ fs) (x ∷ []) zero h b = absurd (omega arith)
lay_step (s ∷ a ∷ n ∷ fs) (x ∷ y ∷ []) zero h b = absurd (omega arith)
lay_step (s ∷ a ∷ n ∷ fs) (x ∷ y ∷ z ∷ ls) zero h b = refl
lay_step (f ∷ fs) (x ∷ ls) (suc at) h b =
    ap (λ (l : List ℕ). x ∷ l) (lay_step fs ls at (le_of_suc-le-suc h) (le_of_suc-le-suc b))

pub lay_more :
    (fs ls : List ℕ) (k : ℕ) → (k + 1) * 3 ≤ length fs → (k + 1) * 3 ≤ length ls →
    to_lay fs (set (set ls (k * 3) (get_or fs (k * 3) 0)) (k * 3 + 1) (get_or fs (k * 3 + 1) 0)) ((k + 1) * 3) ≡ to_lay fs ls (k * 3)
lay_more fs ls k h b =
    let three : (k + 1) * 3 ≡ suc (suc (suc (k * 3))) = omega arith in
    rw (three, add-one (k * 3)) (lay_step fs ls (k * 3) (omega arith) (omega arith))

short_found : (fs ls : List ℕ) → length fs < 3 → laid_over fs ls ≡ ls
unfolding laid_over
short_found [] ls h = refl
short_found (s ∷ []) ls h = refl
short_found (s ∷ a ∷ []) ls h = refl
short_found (s ∷ a ∷ n ∷ fs) ls h = absurd (omega arith)

short_lent : (fs ls : List ℕ) → length ls < 3 → laid_over fs ls ≡ ls
unfolding laid_over
short_lent [] ls h = refl
short_lent (s ∷ []) ls h = refl
short_lent (s ∷ a ∷ []) ls h = refl
short_lent (s ∷ a ∷ n ∷ fs) [] h = refl
short_lent (s ∷ a ∷ n ∷ fs) (x ∷ []) h = refl
short_lent (s ∷ a ∷ n ∷ fs) (x ∷ y ∷ []) h = refl
short_lent (s ∷ a ∷ n ∷ fs) (x ∷ y ∷ z ∷ ls) h = absurd (omega arith)

-- no whole row is left of one of the two
lay_short :
    (fs ls : List ℕ) (at : ℕ) (whole : Bool) → leb (at + 3) (length fs) ≡ whole → min (length fs) (length ls) < at + 3 →
    laid_over (drop at fs) (drop at ls) ≡ drop at ls
lay_short fs ls at true e h =
    short_lent (drop at fs) (drop at ls) (simp length-drop (omega (arith, leb-true (at + 3) (length fs) e)))
lay_short fs ls at false e h =
    short_found (drop at fs) (drop at ls) (simp length-drop (omega (arith, leb-false (at + 3) (length fs) e)))

pub lay_done : (fs ls : List ℕ) (at : ℕ) → min (length fs) (length ls) < at + 3 → to_lay fs ls at ≡ ls
lay_done fs ls at h =
    ap (λ (l : List ℕ). take at ls ++ l) (lay_short fs ls at (leb (at + 3) (length fs)) refl h) ∙ take-append-drop at ls
