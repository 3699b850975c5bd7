-- Reading back what was written gives the operand's meaning, whatever stands after it. By cases on the form: a postbyte with bit 7 set is read by
-- its parts (`read_high`), five bits and one byte by their sign (`near_back`, `signed_back`).
-- Assumes nothing.
use mathlib.Core.Path.{◌≡◌, refl, sym, ap, ◌∙◌}
use mathlib.Core.Bool.{Bool, true, false, not, ◌&&◌, ◌||◌, false≢true, true≢false}
use mathlib.Core.List.{List, [], ◌++◌}
use Prim.Native.Nat.{ℕ, zero, suc, ◌+◌, ◌-◌, ◌/◌, ◌%◌, ◌^◌, ◌<◌}
use native.Mathlib.Nat.{div-add-mod', min-le_left}
use native.Mathlib.Omega.{arith}
use lib.Dec.{eqb}
use lib.ListN.{length, get_or, length-append, length-take}
use borrow.Author.Tests.{eqb-true, leb-false, le-ltb}
use Rattle.std.specs.Prelude.{Result, Ok, IfOk}
use Rattle.ground.specs.Choice.{pick}
use Rattle.ground.specs.declared.refusals.Refusal.{Refusal}
use Rattle.ground.specs.Words.{plus, minus, high, low, word}
use Rattle.ground.proofs.Choices.{by_test, by_pick}
use Rattle.values.specs.declared.Value.{Value}
use Rattle.values.specs.Widths.{bits_of, extended, valid_of, sign_extended_of}
use Rattle.postbytes.specs.declared.Encoded.{Encoded}
use Rattle.postbytes.specs.declared.Index.{Index}
use Rattle.postbytes.specs.declared.Index.TheVariants as index
use Rattle.postbytes.specs.declared.Shape.{Shape}
use Rattle.postbytes.specs.declared.Shape.TheVariants as shape
use Rattle.postbytes.specs.declared.Addressing.{Addressing}
use Rattle.postbytes.specs.declared.Addressing.TheVariants.{Offset, Counter, Accumulator, Step, Address}
use Rattle.postbytes.specs.Registers.{X, unknown_register, unknown_step, not_indexing, not_accumulator}
use Rattle.postbytes.specs.Writing.{alone, with_byte, with_word, written, register_bits, marked, sized_of, five_bits, constant_of, offset_of, counter_of, accumulator_base, accumulator_of, step_of, encode_of, near_of, relative_of}
use Rattle.postbytes.specs.Reading.{direct_only, address_only, high_of, shape_of, extra_of, fill_of}
use Rattle.postbytes.specs.Meanings.{meaning_of, Means}
use Rattle.ground.proofs.Tests.{neither_left, neither_right}
use Rattle.postbytes.proofs.Tests.{indexing, known_step}
use Rattle.postbytes.proofs.FiveBits.{Has, five_shape}
use Rattle.postbytes.proofs.Signs.{near_back, signed_fits, signed_back}

-- what was written is read as m
abbrev pub Back : Encoded → Addressing → Type 0
Back e m = (t : List ℕ) → Means (written e ++ t) e.length m

-- the same of an answer, which may be a refusal
abbrev Backs : Addressing → Result Encoded Refusal → Type 0
Backs m r = IfOk r (λ e. Back e m)

back_alone : {m : Addressing} {s : Shape} (p : ℕ) → Has p 0 s → ((b c : ℕ) → fill_of s b c ≡ m) → Back (alone p) m
back_alone {m} {s} p h f t = record {
  some = omega arith;
  most = omega arith;
  there = omega arith;
  shape = s;
  defined = h.shape;
  extra = ap (λ (n : ℕ). 1 + n) h.extra;
  reads = (f (get_or t 0 0) (get_or t 1 0));
}

back_byte : {m : Addressing} {s : Shape} (p b : ℕ) → Has p 1 s → ((c : ℕ) → fill_of s b c ≡ m) → Back (with_byte p b) m
back_byte {m} {s} p b h f t = record {
  some = omega arith;
  most = omega arith;
  there = omega arith;
  shape = s;
  defined = h.shape;
  extra = ap (λ (n : ℕ). 1 + n) h.extra;
  reads = (f (get_or t 0 0));
}

back_word : {m : Addressing} {s : Shape} (p n : ℕ) → Has p 2 s → fill_of s (high n) (low n) ≡ m → Back (with_word p n) m
back_word {m} {s} p n h f t = record {
  some = omega arith;
  most = omega arith;
  there = omega arith;
  shape = s;
  defined = h.shape;
  extra = ap (λ (n : ℕ). 1 + n) h.extra;
  reads = f;
}

-- one law for every postbyte with bit 7 set: its register bits, its indirect bit, and its low four bits
pub read_high :
    (r four : ℕ) (ind : Bool) →
    not_indexing r ≡ false →
    four < 16 →
    shape_of (marked ind (128 + four + register_bits r)) ≡ high_of (r - X) ind four
unfolding shape_of marked pick
read_high r four true hr hf =
    let b = indexing r hr in
    let p = 128 + four + register_bits r + 16 in
    let e₁ : p / 32 % 4 ≡ r - X = omega arith in
    let e₂ : p / 16 % 2 ≡ 1 = omega arith in
    let e₃ : p % 16 ≡ four = omega arith in
    simp (le-ltb p 128 (omega arith), e₁, e₂, e₃)
read_high r four false hr hf =
    let b = indexing r hr in
    let p = 128 + four + register_bits r in
    let e₁ : p / 32 % 4 ≡ r - X = omega arith in
    let e₂ : p / 16 % 2 ≡ 0 = omega arith in
    let e₃ : p % 16 ≡ four = omega arith in
    simp (le-ltb p 128 (omega arith), e₁, e₂, e₃)

-- the register of a postbyte is the one that was named
back_register : (r : ℕ) → not_indexing r ≡ false → X + (r - X) ≡ r
back_register r h = let b = indexing r h in omega arith

module _ (r : ℕ) (ind : Bool) (hr : not_indexing r ≡ false) where
  -- a line of the sheet that names a register
  line :
      (four n : ℕ) (s : ℕ → Shape) →
      four < 16 →
      high_of (r - X) ind four ≡ Ok (s (X + (r - X))) →
      extra_of (s r) ≡ n →
      Has (marked ind (128 + four + register_bits r)) n (s r)
  line four n s hf e x = record {
    shape = read_high r four ind hr hf ∙ e ∙ ap (λ (k : ℕ). Ok (s k)) (back_register r hr);
    extra = x;
  }

-- a form with a number in one byte or two, by the value's width
narrow_back : (v : Value) → eqb v.width 8 ≡ true → extended 8 (low (sign_extended_of v).number) ≡ (sign_extended_of v).number
unfolding bits_of pick
narrow_back v w = rw w at (signed_back v)

back_sized :
    (v : Value) {p q : ℕ} {s t : Shape} (m : ℕ → Addressing) →
    Has p 1 s →
    Has q 2 t →
    ((b c : ℕ) → fill_of s b c ≡ m (extended 8 b)) →
    ((b c : ℕ) → fill_of t b c ≡ m (word b c)) →
    Back (sized_of p q v.width (sign_extended_of v).number) (m (sign_extended_of v).number)
unfolding sized_of
back_sized v {p} {q} m hp hq f g =
    let n = (sign_extended_of v).number in
    by_test (λ (e : Encoded). Back e (m n)) (eqb v.width 8)
    (λ w. back_byte p (low n) hp (λ c. f (low n) c ∙ ap m (narrow_back v w)))
    (λ w. back_word q n hq (g (high n) (low n) ∙ ap m (div-add-mod' n 256)))

back_five : (r n : ℕ) (ind : Bool) → not_indexing r ≡ false → n < 2 ^ 16 → five_bits ind n ≡ true → Back (alone (n % 32 + register_bits r)) (Offset r ind n)
back_five r n true hr h e = absurd (false≢true e)
back_five r n false hr h e =
    back_alone (n % 32 + register_bits r) (five_shape r n hr) (λ b c. ap (Offset r false) (near_back 11 5 16 n refl refl refl h e))

back_constant :
    (r : ℕ) (ind : Bool) (v : Value) →
    not_indexing r ≡ false →
    Back (constant_of r ind v.width (sign_extended_of v).number) (Offset r ind (sign_extended_of v).number)
unfolding constant_of high_of pick
back_constant r ind v hr =
    let n = (sign_extended_of v).number in
    let P : Encoded → Type 0 = λ e. Back e (Offset r ind n) in
    by_test P (eqb n 0)
    (λ z. back_alone _ (line r ind hr 4 0 (λ k. shape.NoOffset k ind) (omega arith) refl refl) (λ b c. ap (Offset r ind) (sym (eqb-true n 0 z))))
    (λ _. by_test P (five_bits ind n) (back_five r n ind hr (signed_fits v))
    (λ _. back_sized v (Offset r ind)
    (line r ind hr 8 1 (λ k. shape.OneByte k ind) (omega arith) refl refl)
    (line r ind hr 9 2 (λ k. shape.TwoBytes k ind) (omega arith) refl refl)
    (λ b c. refl)
    (λ b c. refl)))

back_offset : (r : ℕ) (ind : Bool) (v : Value) → Backs (meaning_of (index.Offset r ind v)) (offset_of r ind v)
unfolding offset_of
back_offset r ind v =
    let P = Backs (Offset r ind (sign_extended_of v).number) in
    by_pick P (unknown_register r || not (valid_of v)) tt (by_test P (not_indexing r) (λ _. tt) (back_constant r ind v))

-- a PC form is written with its two open bits clear
counter_shape : (ind : Bool) → Has (marked ind 0x8C) 1 (shape.CounterByte ind) × Has (marked ind 0x8D) 2 (shape.CounterWord ind)
unfolding high_of pick
counter_shape ind = (
  record { shape = read_high X 12 ind refl (omega arith); extra = refl },
  record { shape = read_high X 13 ind refl (omega arith); extra = refl },
)

back_counter : (ind : Bool) (v : Value) → Backs (meaning_of (index.Counter ind v)) (counter_of ind v)
unfolding counter_of
back_counter ind v =
    let s = counter_shape ind in
    by_pick (Backs (Counter ind (sign_extended_of v).number)) (not (valid_of v)) tt (back_sized v (Counter ind) s.0 s.1 (λ b c. refl) (λ b c. refl))

-- A 86, B 85, D 8B
accumulator_shape :
    (r a : ℕ) (ind : Bool) →
    not_indexing r ≡ false →
    a < 3 →
    Has (marked ind (accumulator_base a + register_bits r)) 0 (shape.Accumulator r ind a)
unfolding accumulator_base high_of pick
accumulator_shape r zero ind hr h = line r ind hr 6 0 (λ k. shape.Accumulator k ind 0) (omega arith) refl refl
accumulator_shape r (suc zero) ind hr h = line r ind hr 5 0 (λ k. shape.Accumulator k ind 1) (omega arith) refl refl
accumulator_shape r (suc (suc zero)) ind hr h = line r ind hr 11 0 (λ k. shape.Accumulator k ind 2) (omega arith) refl refl
accumulator_shape r (suc (suc (suc a))) ind hr h = absurd (omega arith)

back_accumulator : (r : ℕ) (ind : Bool) (a : ℕ) → Backs (meaning_of (index.Accumulator r ind a)) (accumulator_of r ind a)
unfolding accumulator_of
back_accumulator r ind a =
    let P = Backs (Accumulator r ind a) in
    by_pick P (unknown_register r || unknown_register a) tt
    (by_test P (not_indexing r || not_accumulator a) (λ _. tt)
    (λ h. back_alone _
    (accumulator_shape r a ind (neither_left (not_indexing r) (not_accumulator a) h) (leb-false 3 a (neither_right (not_indexing r) (not_accumulator a) h)))
    (λ b c. refl)))

-- `,R+` 80, `,R++` 81, `,-R` 82, `,--R` 83
step_shape :
    (r k : ℕ) (ind : Bool) →
    not_indexing r ≡ false →
    unknown_step k ≡ false →
    (ind && (eqb k 1 || eqb k 3)) ≡ false →
    Has (marked ind (0x7F + k + register_bits r)) 0 (shape.Step r ind k)
unfolding high_of direct_only pick
step_shape r zero ind hr hk s = absurd (true≢false hk)
step_shape r (suc zero) false hr hk s = line r false hr 0 0 (λ k. shape.Step k false 1) (omega arith) refl refl
step_shape r (suc zero) true hr hk s = absurd (true≢false s)
step_shape r (suc (suc zero)) ind hr hk s = line r ind hr 1 0 (λ k. shape.Step k ind 2) (omega arith) refl refl
step_shape r (suc (suc (suc zero))) false hr hk s = line r false hr 2 0 (λ k. shape.Step k false 3) (omega arith) refl refl
step_shape r (suc (suc (suc zero))) true hr hk s = absurd (true≢false s)
step_shape r (suc (suc (suc (suc zero)))) ind hr hk s = line r ind hr 3 0 (λ k. shape.Step k ind 4) (omega arith) refl refl
step_shape r (suc (suc (suc (suc (suc k))))) ind hr hk s = let b = known_step (suc (suc (suc (suc (suc k))))) hk in absurd (omega arith)

back_step : (r : ℕ) (ind : Bool) (k : ℕ) → Backs (meaning_of (index.Step r ind k)) (step_of r ind k)
unfolding step_of
back_step r ind k =
    let P = Backs (Step r ind k) in
    by_test P (unknown_register r || unknown_step k) (λ _. tt)
    (λ h. by_test P (ind && (eqb k 1 || eqb k 3)) (λ _. tt)
    (λ s. by_test P (not_indexing r) (λ _. tt)
    (λ hr. back_alone _ (step_shape r k ind hr (neither_right (unknown_register r) (unknown_step k) h) s) (λ b c. refl))))

back_address : (address : ℕ) → Back (with_word 0x9F address) (Address address)
unfolding shape_of high_of address_only pick
back_address address =
    back_word 0x9F address (record { shape = refl; extra = refl }) (ap Address (div-add-mod' address 256))

-- reading what was written of an operand, whatever stands after it, gives the operand's meaning
pub read_back : (i : Index) → IfOk (encode_of i) (λ e. Back e (meaning_of i))
read_back (index.Offset r ind v) = back_offset r ind v
read_back (index.Counter ind v) = back_counter ind v
read_back (index.Accumulator r ind a) = back_accumulator r ind a
read_back (index.Step r ind k) = back_step r ind k
read_back (index.Address address) = back_address address

-- what was written has as many bytes as its length says
pub back_length : {m : Addressing} (e : Encoded) → Back e m → length (written e) ≡ e.length
back_length e b =
    let w = (b []).there in
    omega (arith, length-append (written e) [], length-take e.length e.bytes, min-le_left e.length (length e.bytes))

-- what was written is read as the offset from PC that leads from its end to the target
pub record Leads (e : Encoded) (ind : Bool) (after target : ℕ) : Type 0 where
  pub offset : ℕ
  pub back : Back e (Counter ind offset)
  pub lands : (after + e.length + offset) % 65536 ≡ target

pub read_back_relative :
    (target after : ℕ) (ind : Bool) → target < 65536 → after < 65536 → Leads (relative_of target after ind) ind after target
unfolding relative_of
read_back_relative target after ind ht ha =
    let s = counter_shape ind in
    let d₁ = minus target (plus after 2) in
    let d₂ = minus target (plus after 3) in
    by_test (λ (e : Encoded). Leads e ind after target) (near_of d₁)
    (λ q. record {
      offset = d₁;
      back = back_byte _ (low d₁) s.0 (λ c. ap (Counter ind) (near_back 8 8 128 d₁ refl refl refl (omega arith) q));
      lands = omega arith;
    })
    (λ _. record {
      offset = d₂;
      back = back_word _ d₂ s.1 (ap (Counter ind) (div-add-mod' d₂ 256));
      lands = omega arith;
    })
