-- Reading back a push byte gives the list's set, and a transfer byte its two registers. A walk of boxes ticks a bit for each, and a walk of the same
-- boxes reads that bit, whatever the boxes are; each register's code is read as that register.
-- Assumes nothing.
use mathlib.Core.Path.{◌≡◌, refl, sym, ap, ◌∙◌}
use mathlib.Core.Bool.{Bool, true, false, not, ◌||◌}
use mathlib.Core.List.{List, [], ◌∷◌}
use Prim.Native.Nat.{ℕ, zero, suc, ◌+◌, ◌*◌, ◌/◌, ◌%◌, ◌^◌, ◌<◌}
use native.Mathlib.Nat.{pow-succ', mul-add-div_right, mul_assoc}
use native.Mathlib.Omega.{arith}
use lib.Dec.{eqb, ltb, eqb→eq, ltb→lt}
use lib.ListN.{length, take, get_or, get_or-eq_default}
use lib.Pow.{pow_pos, high}
use borrow.Author.Tests.{ltb-true, ltb-false, eqb-true, leb-false, not-false}
use Rattle.std.specs.Prelude.{Option, Some, None, Result, Ok, IfOk}
use Rattle.ground.specs.Choice.{pick}
use Rattle.ground.specs.declared.refusals.Refusal.{Refusal}
use Rattle.ground.proofs.Choices.{by_test}
use Rattle.ground.proofs.Ranges.{below}
use Rattle.postbytes.specs.Registers.{unknown_register}
use Rattle.postbytes.specs.Lists.{any_unknown, strange_list, among, not_stack, other_of, boxes, size_of}
use Rattle.postbytes.specs.ListsWritten.{ticks, push_byte_of, push_of, codes, code_of, paired_of}
use Rattle.postbytes.specs.ListsRead.{ticked, registers_of, coded, pair_of}
use Rattle.postbytes.specs.Meanings.{marks, set_of}
use Rattle.ground.proofs.Tests.{neither_left, neither_right}
use Rattle.postbytes.proofs.Boxes.{by_stack, boxes_low}

-- n boxes make a number of n bits
pub ticks_low : (rs list : List ℕ) → ticks rs list < 2 ^ length rs
ticks_low rs list = boxes_low (λ r. among r list) (λ l. ticks l list) refl (λ r l. refl) rs

even : (h q : ℕ) → (h * 2 + q) % 2 ≡ q % 2
even h q = omega arith

-- n boxes are read from the low n bits
ticked_low : (rs : List ℕ) (hi lo : ℕ) → ticked rs (hi * 2 ^ length rs + lo) ≡ ticked rs lo
ticked_low [] hi lo = refl
ticked_low (r ∷ rs) hi lo =
    let n = length rs in
    let w : hi * 2 ^ suc n ≡ (hi * 2) * 2 ^ n = ap (λ (p : ℕ). hi * p) (pow-succ' 2 n) ∙ sym (mul_assoc hi 2 (2 ^ n)) in
    let d : ((hi * 2) * 2 ^ n + lo) / 2 ^ n % 2 ≡ lo / 2 ^ n % 2 =
    ap (λ (q : ℕ). q % 2) (mul-add-div_right (pow_pos n) (hi * 2) lo) ∙ even hi (lo / 2 ^ n)
    in
    rw (w, d) (ap (λ (k : ℕ). pick (eqb (lo / 2 ^ n % 2) 1) (2 ^ r) 0 + k) (ticked_low rs (hi * 2) lo))

-- what is ticked is read, and nothing else: t is whether the first of n + 1 boxes is ticked, lo the others
first_box :
    (t : Bool) (r : ℕ) (rs : List ℕ) (lo : ℕ) →
    lo < 2 ^ length rs →
    ticked (r ∷ rs) (pick t (2 ^ length rs) 0 + lo) ≡ pick t (2 ^ r) 0 + ticked rs lo
unfolding pick
first_box true r rs lo h =
    let n = length rs in
    let w : 2 ^ n + lo ≡ 1 * 2 ^ n + lo = omega arith in
    rw (w, high 1 n h) (ap (λ (k : ℕ). 2 ^ r + k) (ticked_low rs 1 lo))
first_box false r rs lo h =
    let n = length rs in
    let w : 0 + lo ≡ 0 * 2 ^ n + lo = omega arith in
    rw (w, high 0 n h) (ap (λ (k : ℕ). 0 + k) (ticked_low rs 0 lo))

pub boxes_back : (rs list : List ℕ) → ticked rs (ticks rs list) ≡ marks rs list
boxes_back [] list = refl
boxes_back (r ∷ rs) list =
    first_box (among r list) r rs (ticks rs list) (ticks_low rs list)
    ∙ ap (λ (k : ℕ). pick (among r list) (2 ^ r) 0 + k) (boxes_back rs list)

-- the eight boxes are all registers but D, which has no bit, and the own stack pointer, which is not in the list
all_but : (own : ℕ) (list : List ℕ) → not_stack own ≡ false → among own list ≡ false → marks (boxes own) list ≡ set_of list
unfolding set_of other_of pick
all_but own list s a =
    by_stack (λ (r : ℕ). among r list ≡ false → marks (boxes r) list ≡ set_of list) own s (λ m. rw m (omega arith)) (λ m. rw m (omega arith)) a

-- reading the push byte of a list gives the list's set
pub push_back :
    (own : ℕ) (registers : List ℕ) (count : ℕ) →
    IfOk (push_of own registers count) (λ b. registers_of own b ≡ set_of (take count registers))
unfolding push_of push_byte_of registers_of
push_back own registers count =
    let list = take count registers in
    let P : Result ℕ Refusal → Type 0 = λ r. IfOk r (λ b. registers_of own b ≡ set_of list) in
    by_test P (not_stack own || strange_list registers count) (λ _. tt)
    (λ s. by_test P (eqb count 0 || among own list) (λ _. tt)
    (λ a. boxes_back (boxes own) list
    ∙ all_but own list (neither_left (not_stack own) (strange_list registers count) s) (neither_right (eqb count 0) (among own list) a)))

-- each of a list's registers is known, where none is unknown
known_at : (registers : List ℕ) (n i : ℕ) → any_unknown (take n registers) ≡ false → i < n → unknown_register (get_or registers i 0) ≡ false
unfolding any_unknown
known_at [] n i e h = refl
known_at (r ∷ rs) zero i e h = absurd (omega arith)
known_at (r ∷ rs) (suc n) zero e h = neither_left (unknown_register r) (any_unknown (take n rs)) e
known_at (r ∷ rs) (suc n) (suc i) e h = known_at rs n i (neither_right (unknown_register r) (any_unknown (take n rs)) e) (omega arith)

-- a code has four bits
pub code_small : (r : ℕ) → code_of r < 16
unfolding code_of
code_small r = go (ltb r 10) refl
  where
    go : (t : Bool) → ltb r 10 ≡ t → code_of r < 16
    go true e = ltb→lt (code_of r) 16 (below (λ (k : ℕ). ltb (code_of k) 16) 10 tt r (ltb-true r 10 e))
    go false e =
        let d : code_of r ≡ 0 = get_or-eq_default codes 0 {n = r} (ltb-false r 10 e) in
        omega arith

-- each register's code is read as that register
-- a code's register as a number; one past the codes is of none
abbrev numbered : Option ℕ → ℕ
numbered (Some r) = suc r
numbered None = 0

numbered_once : (x : Option ℕ) (r : ℕ) → numbered x ≡ suc r → x ≡ Some r
numbered_once (Some q) r e = ap Some (omega (arith, e))
numbered_once None r e = absurd (omega (arith, e))

code_back : (r : ℕ) → unknown_register r ≡ false → get_or coded (code_of r) None ≡ Some r
unfolding code_of
code_back r e =
    let x : ℕ → Option ℕ = λ k. get_or coded (code_of k) None in
    numbered_once (x r) r (eqb→eq (numbered (x r)) (suc r) (below (λ (k : ℕ). eqb (numbered (x k)) (suc k)) 10 tt r (leb-false 10 r e)))

bytes_back : (x y : ℕ) → y < 16 → ((x * 16 + y) / 16 ≡ x) × ((x * 16 + y) % 16 ≡ y)
bytes_back x y h = (omega arith, omega arith)

pair_back_of :
    (s d : ℕ) →
    unknown_register s ≡ false →
    unknown_register d ≡ false →
    not (eqb (size_of s) (size_of d)) ≡ false →
    pair_of (code_of s * 16 + code_of d) ≡ Ok (record { source = s; destination = d })
unfolding pair_of pick
pair_back_of s d hs hd e =
    let p = bytes_back (code_of s) (code_of d) (code_small d) in
    rw (p.0, p.1, code_back s hs, code_back d hd, not-false _ e)

-- reading the transfer byte of two registers gives them, source first
pub pair_back :
    (registers : List ℕ) (count : ℕ) →
    IfOk (paired_of registers count) (λ b. pair_of b ≡ Ok (record { source = get_or registers 0 0; destination = get_or registers 1 0 }))
unfolding paired_of strange_list
pair_back registers count =
    let s = get_or registers 0 0 in
    let d = get_or registers 1 0 in
    let P : Result ℕ Refusal → Type 0 = λ r. IfOk r (λ b. pair_of b ≡ Ok (record { source = s; destination = d })) in
    let unlike = not (eqb (size_of s) (size_of d)) in
    by_test P (strange_list registers count) (λ _. tt)
    (λ k. by_test P (not (eqb count 2) || unlike) (λ _. tt)
    (λ a.
    let n : count ≡ 2 = eqb-true count 2 (not-false (eqb count 2) (neither_left (not (eqb count 2)) unlike a)) in
    let u = neither_right (ltb 8 count) (any_unknown (take count registers)) k in
    pair_back_of s d (known_at registers count 0 u (omega arith)) (known_at registers count 1 u (omega arith))
    (neither_right (not (eqb count 2)) unlike a)))
