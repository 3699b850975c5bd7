-- The segment of an address holds the address: its left end is a start not above it, its right end one less than a start above it.
-- Assumes nothing.
use mathlib.Core.List.{List, [], ◌∷◌}
use Prim.Native.Nat.{ℕ, ◌≤◌}
use native.Mathlib.Omega.{arith}
use lib.Dec.{leb}
use lib.ListN.{take}
use borrow.Author.Tests.{leb-true, leb-false}
use Rattle.ground.proofs.Choices.{by_test}
use Rattle.segments.specs.Segments.{left_of, right_of, segment_of}

left_below : (a : ℕ) (l : List ℕ) → left_of a l ≤ a
unfolding left_of
left_below a [] = omega arith
left_below a (s ∷ l) =
    let h = left_below a l in
    by_test (λ (n : ℕ). n ≤ a) (leb s a) (λ e. omega (arith, leb-true s a e)) (λ e. h)

right_above : (a : ℕ) (l : List ℕ) → a ≤ 65535 → a ≤ right_of a l
unfolding right_of
right_above a [] h = h
right_above a (s ∷ l) h =
    let r = right_above a l h in
    by_test (λ (n : ℕ). a ≤ n) (leb s a) (λ e. r) (λ e. omega (arith, leb-false s a e))

pub segment_holds : (l : List ℕ) (count a : ℕ) → a ≤ 65535 → ((segment_of l count a).left ≤ a) × (a ≤ (segment_of l count a).right)
unfolding segment_of
segment_holds l count a h = (left_below a (take count l), right_above a (take count l) h)
