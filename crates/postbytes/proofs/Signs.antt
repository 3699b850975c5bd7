-- Two's complement: one law for every width, of the low bits of a number near 0, and one of a value's signed number for both of its widths.
-- Assumes nothing.
use mathlib.Core.Path.{◌≡◌, refl, ap, subst, ◌∙◌}
use mathlib.Core.Bool.{Bool, true, false, ◌||◌}
use Prim.Native.Nat.{ℕ, ◌+◌, ◌-◌, ◌*◌, ◌%◌, ◌^◌, ◌<◌, ◌≤◌}
use native.Mathlib.Nat.{mod-eq_of_lt}
use native.Mathlib.Omega.{arith}
use lib.Dec.{eqb, ltb, leb}
use lib.Pow.{high_ones, pow_mono, low}
use borrow.Author.Tests.{ltb-true, leb-true, lt-ltb, le-ltb}
use Rattle.ground.proofs.Choices.{pick_true, pick_false, by_pick}
use Rattle.values.specs.declared.Value.{Value}
use Rattle.values.specs.Widths.{bits_of, extended, sign_extended_of}
use Rattle.values.proofs.Laws.{extended_same, extended_fits}

-- a number of 16 bits from -half to half - 1 is its low k bits, sign-extended, where k bits count to twice the half
pub near_back :
    (j k half n : ℕ) →
    j + k ≡ 16 →
    2 ^ (k - 1) ≡ half →
    2 ^ k ≡ half + half →
    n < 2 ^ 16 →
    (ltb n half || leb (2 ^ 16 - half) n) ≡ true →
    extended k (n % 2 ^ k) ≡ n
unfolding extended
near_back j k half n e one two h t = go (ltb n half) refl t
  where
    go : (s : Bool) → ltb n half ≡ s → (s || leb (2 ^ 16 - half) n) ≡ true → extended k (n % 2 ^ k) ≡ n
    go true q _ =
        let l : n < half = ltb-true n half q in
        let m : n % 2 ^ k ≡ n = mod-eq_of_lt (omega arith) in
        pick_true _ _ (lt-ltb (n % 2 ^ k) (2 ^ (k - 1)) (omega arith)) ∙ m
    go false q r =
        let l : 2 ^ 16 - half ≤ n = leb-true (2 ^ 16 - half) n r in
        let p : 2 ^ k ≤ 2 ^ 16 = pow_mono {i = k} {j = 16} (omega arith) in
        let o : 2 ^ 16 - 2 ^ k ≡ (2 ^ j - 1) * 2 ^ k = subst (λ (w : ℕ). 2 ^ w - 2 ^ k ≡ (2 ^ j - 1) * 2 ^ k) e (high_ones j k) in
        let s : n ≡ (2 ^ j - 1) * 2 ^ k + (n - (2 ^ 16 - 2 ^ k)) = omega arith in
        let m : n % 2 ^ k ≡ n - (2 ^ 16 - 2 ^ k) = ap (λ (i : ℕ). i % 2 ^ k) s ∙ low (2 ^ j - 1) k (omega arith) in
        pick_false _ _ (le-ltb (n % 2 ^ k) (2 ^ (k - 1)) (omega arith)) ∙ omega arith

module _ (v : Value) where
  pub signed_fits : (sign_extended_of v).number < 2 ^ 16
  unfolding sign_extended_of bits_of
  signed_fits =
      by_pick (λ (k : ℕ). extended k (v.number % 2 ^ k) < 2 ^ 16) (eqb v.width 8)
      (extended_fits 8 (v.number % 2 ^ 8) (omega arith) (omega arith))
      (extended_fits 16 (v.number % 2 ^ 16) (omega arith) (omega arith))

  -- as many low bits of the signed number as the value is wide, sign-extended again
  pub signed_back : extended (bits_of v.width) ((sign_extended_of v).number % 2 ^ bits_of v.width) ≡ (sign_extended_of v).number
  unfolding sign_extended_of bits_of
  signed_back =
      by_pick (λ (k : ℕ). extended k (extended k (v.number % 2 ^ k) % 2 ^ k) ≡ extended k (v.number % 2 ^ k)) (eqb v.width 8)
      (ap (extended 8) (extended_same 8 8 (v.number % 2 ^ 8) refl (omega arith)))
      (ap (extended 16) (extended_same 0 16 (v.number % 2 ^ 16) refl (omega arith)))
