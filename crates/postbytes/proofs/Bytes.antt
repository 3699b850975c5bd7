-- Every byte that is written is below 256: the bases and the register's and indirect bits leave room for one another, and a number's two bytes are its own.
-- Assumes nothing.
use mathlib.Core.Path.{◌≡◌}
use mathlib.Core.Bool.{Bool, false, ◌&&◌, ◌||◌, not}
use mathlib.Core.List.{List, [], ◌∷◌}
use Prim.Native.Nat.{ℕ, zero, suc, ◌+◌, ◌%◌, ◌^◌, ◌<◌, ◌≤◌}
use native.Mathlib.Omega.{arith}
use lib.Dec.{eqb}
use lib.ListN.{take, get_or}
use Rattle.std.specs.Prelude.{Result, IfOk}
use Rattle.ground.specs.declared.refusals.Refusal.{Refusal}
use Rattle.ground.specs.Words.{plus, minus, low}
use Rattle.ground.proofs.Choices.{by_test, by_pick}
use Rattle.values.specs.Widths.{valid_of, sign_extended_of}
use Rattle.postbytes.specs.declared.Encoded.{Encoded}
use Rattle.postbytes.specs.declared.Index.{Index}
use Rattle.postbytes.specs.declared.Index.TheVariants.{Offset, Counter, Accumulator, Step, Address}
use Rattle.postbytes.specs.Registers.{unknown_register, unknown_step, not_indexing, not_accumulator}
use Rattle.postbytes.specs.Lists.{not_stack, strange_list, among, boxes, size_of}
use Rattle.postbytes.specs.Writing.{alone, with_byte, with_word, register_bits, marked, sized_of, five_bits, constant_of, offset_of, counter_of, accumulator_base, accumulator_of, step_of, encode_of, near_of, relative_of}
use Rattle.postbytes.specs.ListsWritten.{push_byte_of, push_of, paired_of}
use Rattle.ground.proofs.Tests.{neither_left, neither_right}
use Rattle.postbytes.proofs.Tests.{indexing, known_step}
use Rattle.postbytes.proofs.Signs.{signed_fits}
use Rattle.postbytes.proofs.ListsRound.{ticks_low, code_small}

abbrev pub Bytes : Encoded → Type 0
Bytes e = (k : ℕ) → get_or e.bytes k 0 < 256

three : (a b c : ℕ) → a < 256 → b < 256 → c < 256 → (k : ℕ) → get_or (a ∷ b ∷ c ∷ []) k 0 < 256
three a b c ha hb hc zero = ha
three a b c ha hb hc (suc zero) = hb
three a b c ha hb hc (suc (suc zero)) = hc
three a b c ha hb hc (suc (suc (suc k))) = omega arith

one : (p : ℕ) → p < 256 → Bytes (alone p)
one p h = three p 0 0 h (omega arith) (omega arith)

narrow : (p n : ℕ) → p < 256 → Bytes (with_byte p (low n))
narrow p n h = three p (low n) 0 h (omega arith) (omega arith)

wide : (p n : ℕ) → p < 256 → n < 2 ^ 16 → Bytes (with_word p n)
wide p n h hn = three p _ _ h (omega arith) (omega arith)

sized : (p q width n : ℕ) → p < 256 → q < 256 → n < 2 ^ 16 → Bytes (sized_of p q width n)
unfolding sized_of
sized p q width n hp hq hn = by_pick Bytes (eqb width 8) (narrow p n hp) (wide q n hq hn)

marked_fits : (ind : Bool) (p : ℕ) → p ≤ 239 → marked ind p < 256
unfolding marked
marked_fits ind p h = by_pick (λ (n : ℕ). n < 256) ind (omega arith) (omega arith)

-- a postbyte on X, Y, U or S
on_fits : (r base : ℕ) (ind : Bool) → not_indexing r ≡ false → base ≤ 143 → marked ind (base + register_bits r) < 256
on_fits r base ind hr h = let b = indexing r hr in marked_fits ind (base + register_bits r) (omega arith)

constant_bytes : (r : ℕ) (ind : Bool) (width n : ℕ) → not_indexing r ≡ false → n < 2 ^ 16 → Bytes (constant_of r ind width n)
unfolding constant_of
constant_bytes r ind width n hr hn =
    let b = indexing r hr in
    by_pick Bytes (eqb n 0) (one _ (on_fits r 0x84 ind hr (omega arith)))
    (by_pick Bytes (five_bits ind n) (one (n % 32 + register_bits r) (omega arith))
    (sized _ _ width n (on_fits r 0x88 ind hr (omega arith)) (on_fits r 0x89 ind hr (omega arith)) hn))

base_fits : (a : ℕ) → accumulator_base a ≤ 143
unfolding accumulator_base
base_fits a =
    by_pick (λ (n : ℕ). n ≤ 143) (eqb a 0) (omega arith) (by_pick (λ (n : ℕ). n ≤ 143) (eqb a 1) (omega arith) (omega arith))

-- the address of an operand that holds one
abbrev pub address_in : Index → ℕ
address_in (Offset r ind v) = 0
address_in (Counter ind v) = 0
address_in (Accumulator r ind a) = 0
address_in (Step r ind k) = 0
address_in (Address address) = address

-- of an answer, which may be a refusal
abbrev Fit : Result Encoded Refusal → Type 0
Fit r = IfOk r Bytes

pub bytes_fit : (i : Index) → address_in i < 2 ^ 16 → IfOk (encode_of i) Bytes
unfolding offset_of counter_of accumulator_of step_of
bytes_fit (Offset r ind v) _ =
    by_pick Fit (unknown_register r || not (valid_of v)) tt
    (by_test Fit (not_indexing r) (λ _. tt) (λ hr. constant_bytes r ind v.width (sign_extended_of v).number hr (signed_fits v)))
bytes_fit (Counter ind v) _ =
    by_pick Fit (not (valid_of v)) tt
    (sized _ _ v.width (sign_extended_of v).number (marked_fits ind 0x8C (omega arith)) (marked_fits ind 0x8D (omega arith)) (signed_fits v))
bytes_fit (Accumulator r ind a) _ =
    by_pick Fit (unknown_register r || unknown_register a) tt
    (by_test Fit (not_indexing r || not_accumulator a) (λ _. tt)
    (λ h. one _ (on_fits r (accumulator_base a) ind (neither_left (not_indexing r) (not_accumulator a) h) (base_fits a))))
bytes_fit (Step r ind k) _ =
    by_test Fit (unknown_register r || unknown_step k) (λ _. tt)
    (λ h. by_pick Fit (ind && (eqb k 1 || eqb k 3)) tt
    (by_test Fit (not_indexing r) (λ _. tt)
    (λ hr.
    let b = known_step k (neither_right (unknown_register r) (unknown_step k) h) in
    one _ (on_fits r (0x7F + k) ind hr (omega arith)))))
bytes_fit (Address address) h = wide 0x9F address (omega arith) h

pub relative_bytes_fit : (target after : ℕ) (ind : Bool) → Bytes (relative_of target after ind)
unfolding relative_of
relative_bytes_fit target after ind =
    by_pick Bytes (near_of (minus target (plus after 2)))
    (narrow _ (minus target (plus after 2)) (marked_fits ind 0x8C (omega arith)))
    (wide _ (minus target (plus after 3)) (marked_fits ind 0x8D (omega arith)) (omega arith))

-- the byte of a list
abbrev Byte : Result ℕ Refusal → Type 0
Byte r = IfOk r (λ b. b < 256)

pub push_byte_fits : (own : ℕ) (registers : List ℕ) (count : ℕ) → IfOk (push_of own registers count) (λ b. b < 256)
unfolding push_of push_byte_of
push_byte_fits own registers count =
    by_pick Byte (not_stack own || strange_list registers count) tt
    (by_pick Byte (eqb count 0 || among own (take count registers)) tt (ticks_low (boxes own) (take count registers)))

pub pair_byte_fits : (registers : List ℕ) (count : ℕ) → IfOk (paired_of registers count) (λ b. b < 256)
unfolding paired_of
pair_byte_fits registers count =
    let unlike = not (eqb (size_of (get_or registers 0 0)) (size_of (get_or registers 1 0))) in
    by_pick Byte (strange_list registers count) tt
    (by_pick Byte (not (eqb count 2) || unlike) tt
    (let s = code_small (get_or registers 0 0) in
    let d = code_small (get_or registers 1 0) in
    omega arith))
