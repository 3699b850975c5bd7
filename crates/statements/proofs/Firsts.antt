-- The earliest of some refusals: none of them stands before it in 01's order, and it is one of them; there is none where each of them is none.
-- Assumes nothing.
use mathlib.Core.Path.{◌≡◌, refl}
use mathlib.Core.List.{List, [], ◌∷◌}
use mathlib.Core.Logic.{◌⊎◌, inl, inr, ⊎_elim}
use Prim.Native.Nat.{ℕ, ◌<◌, ◌≤◌}
use native.Mathlib.Omega.{arith}
use lib.Dec.{eqb, leb}
use lib.ListN.{length}
use borrow.Author.Tests.{leb-true, leb-false}
use Rattle.std.specs.Prelude.{Option, None, Some}
use Rattle.ground.specs.declared.refusals.Refusal.{Refusal}
use Rattle.ground.specs.Refusals.{number_of}
use Rattle.ground.proofs.Choices.{by_test, by_pick}
use Rattle.records.specs.Fine.{Each}
use Rattle.statements.specs.Order.{order, place_in, place_of, earlier, earliest}

abbrev pub Among : Option Refusal → List (Option Refusal) → Type 0
Among r [] = ⊥
Among r (m ∷ ms) = (r ≡ m) ⊎ Among r ms

-- ---- of two
pub earlier_left : (a b : Option Refusal) → place_of (earlier a b) ≤ place_of a
unfolding earlier
earlier_left a b =
    by_test (λ (r : Option Refusal). place_of r ≤ place_of a) (leb (place_of a) (place_of b))
    (λ _. omega arith)
    (λ e. omega (arith, leb-false (place_of a) (place_of b) e))

pub earlier_right : (a b : Option Refusal) → place_of (earlier a b) ≤ place_of b
unfolding earlier
earlier_right a b =
    by_test (λ (r : Option Refusal). place_of r ≤ place_of b) (leb (place_of a) (place_of b))
    (λ e. leb-true (place_of a) (place_of b) e)
    (λ _. omega arith)

-- ---- of all
-- none of them stands before it
pub first_of_all : (rs : List (Option Refusal)) (r : Option Refusal) → Among r rs → place_of (earliest rs) ≤ place_of r
first_of_all [] r m = absurd m
first_of_all (x ∷ xs) r (inl e) = rw e (earlier_left x (earliest xs))
first_of_all (x ∷ xs) r (inr m) =
    let here = earlier_right x (earliest xs) in
    let there = first_of_all xs r m in
    omega arith

-- and it is one of them, where there is any
pub one_of_them : (rs : List (Option Refusal)) → (earliest rs ≡ None) ⊎ Among (earliest rs) rs
unfolding earlier
one_of_them [] = inl refl
one_of_them (x ∷ xs) =
    by_pick (λ (r : Option Refusal). (r ≡ None) ⊎ ((r ≡ x) ⊎ Among r xs)) (leb (place_of x) (place_of (earliest xs)))
    (inr (inl refl))
    (⊎_elim (λ e. inl e) (λ m. inr (inr m)) (one_of_them xs))

-- ---- none at all
place_within : (l : List Refusal) (r : Refusal) → place_in l r ≤ length l
place_within [] r = omega arith
place_within (m ∷ ms) r =
    let more = place_within ms r in
    by_pick (λ (n : ℕ). n ≤ length (m ∷ ms)) (eqb (number_of r) (number_of m)) (omega arith) (omega arith)

last_none : (r : Option Refusal) → 14 ≤ place_of r → r ≡ None
unfolding place_of
last_none None h = refl
last_none (Some r) h = absurd (omega (arith, place_within order r))

place_none : (r : Option Refusal) → r ≡ None → place_of r ≡ 14
unfolding place_of
place_none r e = rw e

-- where the earlier of two is none, both are
pub neither : (a b : Option Refusal) → earlier a b ≡ None → (a ≡ None) × (b ≡ None)
neither a b e =
    let last = place_none (earlier a b) e in
    (last_none a (omega (arith, earlier_left a b)), last_none b (omega (arith, earlier_right a b)))

-- where the earliest is none, all are
pub none_of_them : (rs : List (Option Refusal)) → earliest rs ≡ None → Each (λ (r : Option Refusal). r ≡ None) rs
none_of_them [] e = tt
none_of_them (x ∷ xs) e =
    let both = neither x (earliest xs) e in
    (both.0, none_of_them xs both.1)

-- ---- no refusal, or one that the order has
abbrev pub Ordered : Option Refusal → Type 0
Ordered None = Unit
Ordered (Some r) = place_in order r < 13

pub earlier_ordered : (a b : Option Refusal) → Ordered a → Ordered b → Ordered (earlier a b)
unfolding earlier
earlier_ordered a b p q = by_pick Ordered (leb (place_of a) (place_of b)) p q

pub earliest_ordered : (rs : List (Option Refusal)) → Each Ordered rs → Ordered (earliest rs)
earliest_ordered [] h = tt
earliest_ordered (x ∷ xs) (p, ps) = earlier_ordered x (earliest xs) p (earliest_ordered xs ps)
