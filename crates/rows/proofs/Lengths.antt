-- What layers above need of sizes: a known operation has a size, a short branch has a long one. Operations are bytes.
-- Assumes nothing.
use mathlib.Core.Path.{◌≡◌, ◌∙◌, refl, sym}
use mathlib.Core.Bool.{Bool, true, false, ◌&&◌}
use Prim.Native.Nat.{ℕ, ◌<◌, ◌≤◌}
use native.Mathlib.Omega.{arith}
use lib.Dec.{T, eqb, ltb, ltb→lt, eqb→eq}
use borrow.Author.Tests.{eq-eqb, ne_eqb}
use Rattle.std.specs.Prelude.{Result, Ok, Err, is_ok}
use Rattle.ground.specs.Choice.{pick}
use Rattle.ground.proofs.Choices.{pick_true, pick_false, by_pick}
use Rattle.ground.proofs.Ranges.{upto, below, both_left, both_right}
use Rattle.ground.specs.declared.refusals.Refusal.{Refusal}
use Rattle.rows.specs.declared.Code.{Code}
use Rattle.rows.specs.Lookup.{merged_of, has_form_of, known_of, code_of}
use Rattle.rows.specs.Sizes.{number_at, of_code, number_size_of, smallest_size_of, long_from, long_of}
use Rattle.rows.specs.Quick.{digit_of, number_line, number_digit, number_bytes, page_of, row_bytes}
use Rattle.rows.proofs.Codes.{has_form_code}
use Rattle.rows.proofs.Bytes.{number_quick, size_quick, operand_small}

-- a known operation has from one to four bytes at the least, and an unknown one none
pub size_known : (o : ℕ) → o < 256 → known_of o ≡ true → (1 ≤ smallest_size_of o) × (smallest_size_of o ≤ 4)
unfolding row_bytes
size_known o h k =
    let e : row_bytes (merged_of o) ≡ smallest_size_of o = sym (size_quick o h ∙ pick_true _ _ k) in
    let s = operand_small (merged_of o) in
    let p : (1 ≤ pick (eqb (page_of (merged_of o)) 0x00) 1 2) × (pick (eqb (page_of (merged_of o)) 0x00) 1 2 ≤ 2) =
    by_pick (λ (n : ℕ). (1 ≤ n) × (n ≤ 2)) (eqb (page_of (merged_of o)) 0x00) (omega arith, omega arith) (omega arith, omega arith) in
    (omega (arith, p.0, e), omega (arith, p.1, e))

pub size_unknown : (o : ℕ) → o < 256 → known_of o ≡ false → smallest_size_of o ≡ 0
size_unknown o h k = size_quick o h ∙ pick_false _ _ k

-- where a number follows, there is a row
pub number_has_form : (o form : ℕ) → 0 < number_size_of o form → has_form_of o form ≡ true
unfolding number_size_of
number_has_form o form h = has_form_code o form ∙ from (code_of o form) h
  where
    from : (a : Result Code Refusal) → 0 < of_code (number_at form) a → is_ok a ≡ true
    from (Ok c) k = refl
    from (Err r) k = absurd (omega arith)

-- the branch's bytes as the code has them
abbrev distance : ℕ → ℕ
distance o = number_bytes (number_digit o) 5

long_right : ℕ → Bool
long_right o = pick (eqb (distance o) 1) (eqb (distance (long_of o)) 2) (eqb (long_of o) (merged_of o))

longs_right : T (upto (λ (o : ℕ). long_right o && ltb (long_of o) 256) 256)
unfolding long_right long_of long_from merged_of number_bytes number_digit number_line digit_of pick
longs_right = tt

right_at : (o : ℕ) → o < 256 → T (long_right o && ltb (long_of o) 256)
right_at o h = below (λ (n : ℕ). long_right n && ltb (long_of n) 256) 256 longs_right o h

pub long_small : (o : ℕ) → o < 256 → long_of o < 256
long_small o h = ltb→lt (long_of o) 256 (both_right (long_right o) (ltb (long_of o) 256) (right_at o h))

-- the long branch of a short one has a distance of two bytes
pub long_of_short : (o : ℕ) → o < 256 → number_size_of o 5 ≡ 1 → number_size_of (long_of o) 5 ≡ 2
unfolding long_right pick
long_of_short o h e =
    let t = both_left (long_right o) (ltb (long_of o) 256) (right_at o h) in
    sym (number_quick (long_of o) 5 (long_small o h))
    ∙ eqb→eq (distance (long_of o)) 2 (rw (eq-eqb (distance o) 1 (number_quick o 5 h ∙ e)) at t)

-- any other operation is its own, merged
pub long_of_other : (o : ℕ) → o < 256 → (number_size_of o 5 ≡ 1 → ⊥) → long_of o ≡ merged_of o
unfolding long_right pick
long_of_other o h n =
    let t = both_left (long_right o) (ltb (long_of o) 256) (right_at o h) in
    eqb→eq (long_of o) (merged_of o) (rw (ne_eqb (distance o) 1 (λ e. n (sym (number_quick o 5 h) ∙ e))) at t)
