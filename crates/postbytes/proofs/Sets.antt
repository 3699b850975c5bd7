-- The set of a list: naming one register more joins its set to it, and its bits are the registers in the list. So the boxes of the set are those of the list.
-- Assumes nothing.
use mathlib.Core.Path.{◌≡◌, refl, sym, ap, ap₂, ◌∙◌}
use mathlib.Core.Bool.{Bool, true, false, not, ◌&&◌, ◌||◌, or-false, or_assoc}
use mathlib.Core.List.{List, [], ◌∷◌}
use Prim.Native.Nat.{ℕ, zero, suc, ◌+◌, ◌*◌, ◌/◌, ◌%◌, ◌^◌, ◌<◌, ◌≤◌, max}
use native.Mathlib.Nat.{add-zero, zero-add, div-one}
use native.Mathlib.Omega.{arith}
use native.Mathlib.Numerals.{add-one}
use lib.Bits.{bit_or, or_step}
use lib.Dec.{T, eqb, ltb, ltb→lt}
use lib.ListN.{length, take, get_or}
use lib.Pow.{shr-shr}
use borrow.Author.Tests.{ne_eqb}
use Rattle.std.specs.List.{list_any}
use Rattle.ground.specs.Choice.{pick}
use Rattle.ground.proofs.Ranges.{both_left, both_right}
use Rattle.postbytes.specs.Registers.{A, B, D, X, Y, U, S, PC, CC, DP}
use Rattle.postbytes.specs.Lists.{covers, among, not_stack, other_of, boxes}
use Rattle.postbytes.specs.ListsWritten.{ticks, ticks_of_set, push_byte_of}
use Rattle.postbytes.specs.Reading.{flag}
use Rattle.postbytes.specs.Meanings.{set_of}
use Rattle.postbytes.proofs.Boxes.{by_stack, by_row}
use Rattle.postbytes.proofs.Told.{flag_told}

-- ---- numbers by their bits
flag_most : (b : Bool) → flag b ≤ 1
flag_most true = omega arith
flag_most false = omega arith

-- the number of n bits, which are those of f from k on, the lowest first
abbrev bits : (ℕ → Bool) → ℕ → ℕ → ℕ
bits f zero k = 0
bits f (suc n) k = bits f n (suc k) * 2 + flag (f k)

half : (n : ℕ) (b : Bool) → ((n * 2 + flag b) / 2 ≡ n) × ((n * 2 + flag b) % 2 ≡ flag b)
half n b =
    let h = flag_most b in
    (omega arith, omega arith)

either : (a b : Bool) → max (flag a) (flag b) ≡ flag (a || b)
either true true = refl
either true false = refl
either false true = refl
either false false = refl

bits_join :
    (f g h : ℕ → Bool) →
    ((q : ℕ) → h q ≡ (f q || g q)) →
    (n k : ℕ) →
    bits h n k ≡ bit_or (bits f n k) (bits g n k)
bits_join f g h e zero k = refl
bits_join f g h e (suc n) k =
    let x = half (bits f n (suc k)) (f k) in
    let y = half (bits g n (suc k)) (g k) in
    ap₂ (λ (m b : ℕ). m * 2 + b) (bits_join f g h e n (suc k)) (ap flag (e k) ∙ sym (either (f k) (g k)))
    ∙ sym (or_step (bits f (suc n) k) (bits g (suc n) k)
    ∙ ap₂ (λ (m b : ℕ). m * 2 + b) (ap₂ bit_or x.0 y.0) (ap₂ max x.1 y.1))

bit_at : (f : ℕ → Bool) (n k j : ℕ) → j < n → bits f n k / 2 ^ j % 2 ≡ flag (f (k + j))
bit_at f zero k j h = absurd (omega arith)
bit_at f (suc n) k zero h =
    ap (λ (m : ℕ). m % 2) (div-one (bits f (suc n) k)) ∙ (half (bits f n (suc k)) (f k)).1 ∙ ap (λ (m : ℕ). flag (f m)) (sym (add-zero k))
bit_at f (suc n) k (suc j) h =
    let e : suc j ≡ 1 + j = omega arith in
    ap (λ (p : ℕ). bits f (suc n) k / 2 ^ p % 2) e
    ∙ ap (λ (m : ℕ). m % 2) (sym (shr-shr (bits f (suc n) k) 1 j) ∙ ap (λ (m : ℕ). m / 2 ^ j) (half (bits f n (suc k)) (f k)).0)
    ∙ bit_at f n (suc k) j (omega arith)
    ∙ ap (λ (m : ℕ). flag (f m)) (omega arith)

-- ---- a set by its bits: each register's but D's
abbrev member : List ℕ → ℕ → Bool
member list r = not (eqb r D) && among r list

times : (b : Bool) (n : ℕ) → pick b n 0 ≡ n * flag b
unfolding pick
times true n = omega arith
times false n = omega arith

set_bits : (list : List ℕ) → set_of list ≡ bits (member list) 10 0
unfolding set_of pick
set_bits list =
    omega (
      arith,
      times (among A list) (2 ^ A),
      times (among B list) (2 ^ B),
      times (among X list) (2 ^ X),
      times (among Y list) (2 ^ Y),
      times (among U list) (2 ^ U),
      times (among S list) (2 ^ S),
      times (among PC list) (2 ^ PC),
      times (among CC list) (2 ^ CC),
      times (among DP list) (2 ^ DP),
    )

-- ---- naming one register more
any_more : (f : ℕ → Bool) (rs : List ℕ) (i : ℕ) → i < length rs → list_any f (take (suc i) rs) ≡ (list_any f (take i rs) || f (get_or rs i 0))
any_more f [] i h = absurd (omega arith)
any_more f (r ∷ rs) zero h = or-false (f r)
any_more f (r ∷ rs) (suc i) h =
    ap (λ (b : Bool). f r || b) (any_more f rs i (omega arith)) ∙ sym (or_assoc (f r) (list_any f (take i rs)) (f (get_or rs i 0)))

member_more :
    (rs : List ℕ) (i q : ℕ) →
    i < length rs →
    member (take (suc i) rs) q ≡ (member (take i rs) q || member (get_or rs i 0 ∷ []) q)
unfolding among
member_more rs i q h = go (eqb q D)
  where
    go :
        (t : Bool) →
        (not t && among q (take (suc i) rs)) ≡ ((not t && among q (take i rs)) || (not t && among q (get_or rs i 0 ∷ [])))
    go true = refl
    go false =
        any_more (covers q) rs i h
        ∙ ap (λ (b : Bool). list_any (covers q) (take i rs) || b) (sym (or-false (covers q (get_or rs i 0))))

-- a loop over the list joins the set of the register at its place
pub set_more : (rs : List ℕ) (i : ℕ) → i < length rs → set_of (take (i + 1) rs) ≡ bit_or (set_of (take i rs)) (set_of (get_or rs i 0 ∷ []))
set_more rs i h =
    let one = get_or rs i 0 ∷ [] in
    ap (λ (k : ℕ). set_of (take k rs)) (add-one i)
    ∙ set_bits (take (suc i) rs)
    ∙ bits_join (member (take i rs)) (member one) (member (take (suc i) rs)) (λ q. member_more rs i q h) 10 0
    ∙ sym (ap₂ bit_or (set_bits (take i rs)) (set_bits one))

-- ---- the bits of a set
-- a register that has a bit in sets
abbrev has_bit : ℕ → Bool
has_bit r = ltb r 10 && not (eqb r D)

in_set : (list : List ℕ) (r : ℕ) → T (has_bit r) → eqb (set_of list / 2 ^ r % 2) 1 ≡ among r list
in_set list r t =
    let h : r < 10 = ltb→lt r 10 (both_left (ltb r 10) (not (eqb r D)) t) in
    ap (λ (n : ℕ). eqb (n / 2 ^ r % 2) 1) (set_bits list)
    ∙ ap (λ (n : ℕ). eqb n 1) (bit_at (member list) 10 0 r h ∙ ap (λ (q : ℕ). flag (member list q)) (zero-add r))
    ∙ flag_told (member list r)
    ∙ plain (not (eqb r D)) (both_right (ltb r 10) (not (eqb r D)) t)
  where
    plain : (b : Bool) → T b → (b && among r list) ≡ among r list
    plain true _ = refl
    plain false z = absurd z

abbrev all_bits : List ℕ → Bool
all_bits [] = true
all_bits (r ∷ rs) = has_bit r && all_bits rs

ticks_of_set_lem : (list rs : List ℕ) → T (all_bits rs) → ticks_of_set rs (set_of list) ≡ ticks rs list
ticks_of_set_lem list [] t = refl
ticks_of_set_lem list (r ∷ rs) t =
    ap₂ (λ (b : Bool) (n : ℕ). pick b (2 ^ length rs) 0 + n) (in_set list r (both_left (has_bit r) (all_bits rs) t))
    (ticks_of_set_lem list rs (both_right (has_bit r) (all_bits rs) t))

-- the boxes of a list's set are those of the list
pub push_byte_of_set : (own : ℕ) (list : List ℕ) → ticks_of_set (boxes own) (set_of list) ≡ push_byte_of own list
unfolding push_byte_of other_of pick
push_byte_of_set own list = ticks_of_set_lem list (boxes own) (by_row (λ (row : List ℕ). T (all_bits row)) own tt tt)

-- a push's own pointer
pub stack_small : (own : ℕ) → not_stack own ≡ false → own < 16
stack_small own e = by_stack (λ (r : ℕ). r < 16) own e (omega arith) (omega arith)

pub stack_in_set : (own : ℕ) (list : List ℕ) → not_stack own ≡ false → eqb (set_of list / 2 ^ own % 2) 1 ≡ among own list
stack_in_set own list e = in_set list own (by_stack (λ (r : ℕ). T (has_bit r)) own e tt tt)

-- ---- one register
-- no register has the number n, so naming it puts nothing in the set
pub strange_named : (n : ℕ) → 10 ≤ n → set_of (n ∷ []) ≡ 0
unfolding set_of among pick
strange_named n h =
    let ne : (r : ℕ) → r < 10 → eqb n r ≡ false = λ r k. ne_eqb n r (λ e. omega (arith, e)) in
    rw (
      ne A (omega arith),
      ne B (omega arith),
      ne D (omega arith),
      ne X (omega arith),
      ne Y (omega arith),
      ne U (omega arith),
      ne S (omega arith),
      ne PC (omega arith),
      ne CC (omega arith),
      ne DP (omega arith),
    )
