-- The table of first bearers, filled from the last statement to the first, and what it tells of a statement's own label.
-- Assumes nothing.
use mathlib.Core.Path.{◌≡◌, refl, sym, ap, ◌∙◌}
use mathlib.Core.Bool.{Bool, true, false, ◌&&◌, ◌||◌, not}
use mathlib.Core.List.{List, ◌∷◌}
use Prim.Native.Nat.{ℕ, zero, suc, ◌+◌, ◌-◌, ◌≤◌, ◌<◌}
use native.Mathlib.Numerals.{sub-one}
use native.Mathlib.Omega.{arith}
use lib.Dec.{ltb, eqb}
use lib.ListN.{get_or, set, replicate}
use borrow.Author.Tests.{eq-eqb, ne_eqb, ltb-false}
use Rattle.ground.specs.Choice.{pick}
use Rattle.ground.proofs.Choices.{pick_true, pick_false}
use Rattle.statements.specs.Listing.{none, rows_of, label_at}
use Rattle.passes.specs.Labels.{first_bearer, bearer_of, ill_of}
use Rattle.passes.specs.Steps.{table_of, bearers_of}

table_at : (f : ℕ → ℕ) (n k j : ℕ) → j < n → get_or (table_of f n k) j 0 ≡ f (k + j)
unfolding table_of
table_at f zero k j h = absurd (omega arith)
table_at f (suc n) k zero h = ap f (omega arith)
table_at f (suc n) k (suc j) h = table_at f n (k + 1) j (omega arith) ∙ ap f (omega arith)

table_alike : (f g : ℕ → ℕ) (n k : ℕ) → ((x : ℕ) → k ≤ x → f x ≡ g x) → table_of f n k ≡ table_of g n k
unfolding table_of
table_alike f g zero k e = refl
table_alike f g (suc n) k e =
    ap (λ (v : ℕ). v ∷ table_of f n (k + 1)) (e k (omega arith))
    ∙ ap (λ (t : List ℕ). g k ∷ t) (table_alike f g n (k + 1) (λ x h. e x (omega arith)))

table_same : (v n k : ℕ) → replicate n v ≡ table_of (λ x. v) n k
unfolding table_of
table_same v zero k = refl
table_same v (suc n) k = ap (λ (t : List ℕ). v ∷ t) (table_same v n (k + 1))

-- f, but v at the place l
abbrev instead : ℕ → ℕ → (ℕ → ℕ) → ℕ → ℕ
instead l v f x = pick (eqb l x) v (f x)

set_table : (f : ℕ → ℕ) (v n k j : ℕ) → set (table_of f n k) j v ≡ table_of (instead (k + j) v f) n k
unfolding table_of
set_table f v zero k j = refl
set_table f v (suc n) k zero =
    ap (λ (x : ℕ). x ∷ table_of f n (k + 1)) (sym (pick_true v (f k) (eq-eqb (k + 0) k (omega arith))))
    ∙ ap (λ (t : List ℕ). instead (k + 0) v f k ∷ t)
    (table_alike f (instead (k + 0) v f) n (k + 1) (λ x h. sym (pick_false v (f x) (ne_eqb (k + 0) x (λ e. omega arith)))))
set_table f v (suc n) k (suc j) =
    let e : (k + 1) + j ≡ k + suc j = omega arith in
    ap (λ (t : List ℕ). f k ∷ t) (set_table f v n (k + 1) j)
    ∙ ap (λ (l : ℕ). f k ∷ table_of (instead l v f) n (k + 1)) e
    ∙ ap (λ (x : ℕ). x ∷ table_of (instead (k + suc j) v f) n (k + 1)) (sym (pick_false v (f k) (ne_eqb (k + suc j) k (λ d. omega arith))))

module _ (list : List ℕ) where
  -- the first bearers among the statements from i on
  abbrev pub found : ℕ → List ℕ
  found i = table_of (first_bearer list (rows_of list - i) i) 512 0

  pub found_first : replicate 512 (rows_of list) ≡ found (rows_of list)
  unfolding first_bearer
  found_first =
      let e : rows_of list - rows_of list ≡ 0 = omega arith in
      table_same (rows_of list) 512 0 ∙ rw e (table_alike _ _ 512 0 (λ x h. refl))

  -- one statement more, from the end
  found_next : (i n : ℕ) → set (table_of (first_bearer list n (i + 1)) 512 0) (label_at list i) i ≡ table_of (first_bearer list (suc n) i) 512 0
  unfolding first_bearer
  found_next i n =
      set_table (first_bearer list n (i + 1)) i 512 0 (label_at list i)
      ∙ table_alike _ _ 512 0 (λ x h. ap (λ (l : ℕ). pick (eqb l x) i (first_bearer list n (i + 1) x)) (omega arith))

  pub found_more : (i : ℕ) → 0 < i → i ≤ rows_of list → set (found i) (label_at list (i - 1)) (i - 1) ≡ found (i - 1)
  found_more zero h b = absurd (omega arith)
  found_more (suc i) h b =
      let e : rows_of list - i ≡ suc (rows_of list - suc i) = omega arith in
      let f : suc i ≡ i + 1 = omega arith in
      rw (sub-one, e, f) (found_next i (rows_of list - (i + 1)))

  pub found_all : (i : ℕ) → i ≤ 0 → found i ≡ bearers_of list
  unfolding bearers_of bearer_of
  found_all zero h =
      let e : rows_of list - 0 ≡ rows_of list = omega arith in
      rw e (table_alike _ _ 512 0 (λ x b. refl))
  found_all (suc i) h = absurd (omega arith)

  pub bearer_at : (k : ℕ) → k < 512 → get_or (bearers_of list) k 0 ≡ bearer_of list k
  unfolding bearers_of
  bearer_at k h = table_at (bearer_of list) 512 0 k h ∙ ap (bearer_of list) (omega arith)

  ill_either :
      (above : Bool) (i label : ℕ) → ltb 511 label ≡ above →
      (above || not (eqb (get_or (bearers_of list) label 0) i)) ≡ (above || not (eqb (bearer_of list label) i))
  ill_either true i label e = refl
  ill_either false i label e = ap (λ (b : ℕ). not (eqb b i)) (bearer_at label (omega (arith, ltb-false 511 label e)))

  -- the code's test is the definition's
  pub ill_told :
      (firsts : List ℕ) (i label first : ℕ) → firsts ≡ bearers_of list → label ≡ label_at list i → first ≡ get_or firsts label 0 →
      (not (eqb label none) && (ltb 511 label || not (eqb first i))) ≡ ill_of list i
  unfolding ill_of
  ill_told firsts i label first b l f =
      rw (f, b, l) (ap (λ (t : Bool). not (eqb (label_at list i) none) && t) (ill_either (ltb 511 (label_at list i)) i (label_at list i) refl))
