-- Adding a start keeps the table sorted, each start above the one before it, and adds that start and no other. An insertion hands on the
-- higher of two numbers, and a number that was refused as repeated never gets there.
-- Assumes nothing.
use mathlib.Core.Path.{◌≡◌, refl, ap, ◌∙◌}
use mathlib.Core.Bool.{Bool, true, false, ◌||◌}
use mathlib.Core.List.{List, [], ◌∷◌, ◌++◌}
use Prim.Native.Nat.{ℕ, ◌+◌, ◌<◌, ◌≤◌, min, max}
use native.Mathlib.Nat.{le_of_lt, min-eq_left, min-eq_right, max-eq_left, max-eq_right}
use native.Mathlib.Omega.{arith}
use lib.Dec.{eqb, leb}
use lib.ListN.{length, take, drop}
use lib.Seq.{take_at, length-take-le}
use borrow.Author.Tests.{leb-true, leb-false, eqb-false, ne_eqb}
use Rattle.ground.specs.Choice.{pick}
use Rattle.ground.proofs.Tests.{neither_left, neither_right}
use Rattle.std.proofs.Common.{Result, Ok, Err}
use Rattle.ground.specs.declared.refusals.Refusal.{Refusal}
use Rattle.segments.specs.Segments.{holds_of, inserted, counted_of, added_to, placed, table_after}
use Rattle.segments.proofs.Laws.{added_next}

-- every one of these is above m
abbrev pub Above : ℕ → List ℕ → Type 0
Above m [] = Unit
Above m (s ∷ ss) = (m < s) × Above m ss

abbrev pub Sorted : List ℕ → Type 0
Sorted [] = Unit
Sorted (s ∷ ss) = Above s ss × Sorted ss

above_lower : (m s : ℕ) (l : List ℕ) → m ≤ s → Above s l → Above m l
above_lower m s [] h a = tt
above_lower m s (y ∷ l) h (a, b) = (omega arith, above_lower m s l h b)

above_inserted : (m x : ℕ) (l : List ℕ) → m < x → Above m l → Above m (inserted x l)
unfolding inserted
above_inserted m x [] h a = (h, tt)
above_inserted m x (s ∷ l) h (a, b) = (omega arith, above_inserted m (max x s) l (omega arith) b)

above_absent : (m : ℕ) (l : List ℕ) → Above m l → holds_of m l ≡ false
unfolding holds_of
above_absent m [] a = refl
above_absent m (s ∷ l) (a, b) = simp (ne_eqb s m (λ e. omega arith)) (above_absent m l b)

or_swap : (a b c : Bool) → (a || (b || c)) ≡ (b || (a || c))
or_swap true true c = refl
or_swap true false c = refl
or_swap false b c = refl

-- the higher of the new start and the one before the rest is not in the rest
higher_absent : (t : Bool) (x s : ℕ) (l : List ℕ) → leb x s ≡ t → Above s l → holds_of x l ≡ false → holds_of (max x s) l ≡ false
higher_absent true x s l e a f = rw (max-eq_right (leb-true x s e)) (above_absent s l a)
higher_absent false x s l e a f = rw (max-eq_left (le_of_lt (leb-false x s e))) f

pub inserted_sorted : (x : ℕ) (l : List ℕ) → holds_of x l ≡ false → Sorted l → Sorted (inserted x l)
unfolding inserted holds_of
inserted_sorted x [] f b = (tt, tt)
inserted_sorted x (s ∷ l) f (a, b) =
    let d : s ≡ x → ⊥ = eqb-false s x (neither_left (eqb s x) (holds_of x l) f) in
    let h : min x s < max x s = omega arith in (
      above_inserted (min x s) (max x s) l h (above_lower (min x s) s l (omega arith) a),
      inserted_sorted (max x s) l (higher_absent (leb x s) x s l refl a (neither_right (eqb s x) (holds_of x l) f)) b,
    )

length_inserted : (x : ℕ) (l : List ℕ) → length (inserted x l) ≡ length l + 1
unfolding inserted
length_inserted x [] = refl
length_inserted x (s ∷ l) = let e = length_inserted (max x s) l in omega arith

-- what is in use after a start was accepted
in_use :
    (l : List ℕ) (count x next : ℕ) → counted_of l count x ≡ Ok next →
    take next (inserted x (take count l) ++ drop next l) ≡ inserted x (take count l)
in_use l count x next h =
    let a = added_next l count x next h in
    take_at (inserted x (take count l)) (drop next l) next
    (omega (arith, length_inserted x (take count l), length-take-le count l (omega arith)))

-- how many starts there are then: a refusal leaves the caller's count
abbrev pub count_after : ℕ → Result ℕ Refusal → ℕ
count_after count (Ok next) = next
count_after count (Err why) = count

placed_sorted :
    (l : List ℕ) (count x : ℕ) (r : Result ℕ Refusal) → counted_of l count x ≡ r → Sorted (take count l) →
    Sorted (take (count_after count r) (placed l count x r))
unfolding placed
placed_sorted l count x (Err why) h s = s
placed_sorted l count x (Ok next) h s =
    rw (in_use l count x next h) (inserted_sorted x (take count l) (added_next l count x next h).absent s)

either_way :
    (zeroth : Bool) (l new : List ℕ) (count : ℕ) (r : Result ℕ Refusal) → Sorted (take count l) → Sorted (take (count_after count r) new) →
    Sorted (take (count_after count (pick zeroth (Ok count) r)) (pick zeroth l new))
unfolding pick
either_way true l new count r s t = s
either_way false l new count r s t = t

-- a sorted table is sorted after any `add`
pub added_sorted : (l : List ℕ) (count x : ℕ) → Sorted (take count l) → Sorted (take (count_after count (added_to l count x)) (table_after l count x))
unfolding added_to table_after
added_sorted l count x s =
    either_way (eqb x 0) l (placed l count x (counted_of l count x)) count (counted_of l count x) s
    (placed_sorted l count x (counted_of l count x) refl s)

exchanged : (t : Bool) (x s y : ℕ) (b : Bool) → leb x s ≡ t → (eqb (min x s) y || (eqb (max x s) y || b)) ≡ (eqb x y || (eqb s y || b))
exchanged true x s y b e = let h = leb-true x s e in rw (min-eq_left h, max-eq_right h)
exchanged false x s y b e =
    let h = le_of_lt (leb-false x s e) in
    rw (min-eq_right h, max-eq_left h) (or_swap (eqb s y) (eqb x y) b)

-- an insertion adds its number, and no number comes or goes with it
pub inserted_holds : (x y : ℕ) (l : List ℕ) → holds_of y (inserted x l) ≡ (eqb x y || holds_of y l)
unfolding inserted holds_of
inserted_holds x y [] = refl
inserted_holds x y (s ∷ l) =
    ap (λ (b : Bool). eqb (min x s) y || b) (inserted_holds (max x s) y l) ∙ exchanged (leb x s) x s y (holds_of y l) refl
