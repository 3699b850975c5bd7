-- What an operand and two evaluations need so that nothing blames their mode, their registers or their values.
-- Assumes nothing.
use mathlib.Core.Path.{◌≡◌, refl}
use mathlib.Core.Bool.{Bool, true, false, ◌&&◌, ◌||◌, not}
use mathlib.Core.List.{List, [], ◌∷◌}
use Prim.Native.Nat.{ℕ, ◌%◌, ◌<◌}
use native.Mathlib.Omega.{arith}
use lib.Dec.{eqb, ltb}
use borrow.Author.Tests.{eqb-true, lt-ltb, eq-eqb}
use Rattle.std.specs.Prelude.{Result, is_err}
use Rattle.ground.specs.Choice.{pick}
use Rattle.ground.specs.declared.refusals.Refusal.{Refusal}
use Rattle.ground.proofs.Choices.{by_pick}
use Rattle.values.specs.declared.Value.{Value}
use Rattle.values.specs.declared.pages.Page.{Page}
use Rattle.values.specs.Widths.{bits_of, valid_of}
use Rattle.rows.specs.Forms.{register}
use Rattle.rows.specs.Lookup.{has_form_of}
use Rattle.postbytes.specs.Registers.{A, X, PC}
use Rattle.postbytes.specs.Lists.{any_unknown, strange_list, among, size_of}
use Rattle.postbytes.specs.ListsWritten.{push_of, paired_of}
use Rattle.instruction.specs.declared.Operand.{Operand}
use Rattle.instruction.specs.declared.Values.{Values}
use Rattle.instruction.specs.Names.{mode_register, mode_pc_relative, mode_inherent, pshs, puls}
use Rattle.instruction.specs.Records.{narrower, agreeing, lawful}
use Rattle.instruction.specs.Forms.{form_of, strays, lacks, needs_value}
use Rattle.instruction.specs.Choosing.{is_pair, own_stack, listed_of}
use Rattle.why.proofs.Causes.{bad_registers}

-- ---- the mode
-- the row has the form that is asked for, and it is one of the mode's
pub not_lacking : (o : Operand) (form : ℕ) → strays o.mode form ≡ false → has_form_of o.operation form ≡ true → lacks o form ≡ false
unfolding lacks
not_lacking o form fits has = rw has fits

-- ---- the registers
-- two, and zeros after them
abbrev pub listed : ℕ → ℕ → List ℕ
listed a b = a ∷ b ∷ 0 ∷ 0 ∷ 0 ∷ 0 ∷ 0 ∷ 0 ∷ []

module _ (o : Operand) where
  -- A with itself is a pair of one size, and a list without either stack pointer
  listed_fine : o.registers ≡ listed A A → o.count ≡ 2 → is_err (listed_of o) ≡ false
  unfolding listed_of paired_of push_of own_stack strange_list any_unknown among size_of pick
  listed_fine e c =
      rw (e, c)
      (by_pick (λ (l : Result ℕ Refusal). is_err l ≡ false) (is_pair o.operation) refl
      (by_pick (λ (own : ℕ). is_err (push_of own (listed A A) 2) ≡ false) (eqb o.operation pshs || eqb o.operation puls) refl refl))

  pub list_fine : o.mode ≡ mode_register → has_form_of o.operation register ≡ true → o.registers ≡ listed A A → o.count ≡ 2 → bad_registers o ≡ false
  unfolding bad_registers pick
  list_fine m h e c = rw (listed_fine e c, m, h)

  pub added_fine : o.mode ≡ mode_register → has_form_of o.operation register ≡ false → o.registers ≡ listed A X → o.count ≡ 2 → bad_registers o ≡ false
  unfolding bad_registers pick
  added_fine m h e c = rw (m, h, e, c)

  pub counter_fine : o.mode ≡ mode_pc_relative → o.registers ≡ listed PC 0 → o.count ≡ 1 → bad_registers o ≡ false
  unfolding bad_registers pick
  counter_fine m e c = rw (m, e, c)

  pub pointer_fine : eqb o.mode mode_register ≡ false → eqb o.mode mode_pc_relative ≡ false → o.registers ≡ listed X 0 → o.count ≡ 1 → bad_registers o ≡ false
  unfolding bad_registers pick
  pointer_fine m k e c = rw (m, k, e, c)

-- ---- the values
-- 8 bits for a zero, so that no forced Direct under page 0 is wide
unfoldable pub width_for : ℕ → ℕ
width_for n = pick (eqb n 0) 8 16

abbrev pub value_for : ℕ → Value
value_for n = record { number = n; width = width_for n }

pub width_byte : (n : ℕ) → pick (ltb (width_for n) 256) (width_for n) 255 ≡ width_for n
unfolding width_for pick
width_byte n = by_pick (λ (w : ℕ). pick (ltb w 256) w 255 ≡ w) (eqb n 0) refl refl

pub width_small : (n : ℕ) → width_for n < 65536
unfolding width_for
width_small n = by_pick (λ (w : ℕ). w < 65536) (eqb n 0) (omega arith) (omega arith)

pub value_valid : (n : ℕ) → n < 65536 → valid_of (value_for n) ≡ true
unfolding width_for valid_of bits_of pick
value_valid n h = go (eqb n 0) refl
  where
    go : (t : Bool) → eqb n 0 ≡ t → valid_of (value_for n) ≡ true
    go true q = rw (eqb-true n 0 q)
    go false q = rw q (lt-ltb n 65536 h)

-- two evaluations alike agree
pub alike_lawful : (given : Bool) (x : Value) → valid_of x ≡ true → lawful (record { given = given; unsigned = x; signed = x }) ≡ true
unfolding lawful agreeing
alike_lawful given x h = go given
  where
    v : Values
    v = record { given = given; unsigned = x; signed = x }

    go : (g : Bool) → (not g || (valid_of x && (valid_of x && eqb (x.number % narrower v) (x.number % narrower v)))) ≡ true
    go false = refl
    go true = rw (h, eq-eqb (x.number % narrower v) (x.number % narrower v) refl)

-- Inherent takes no value
pub needs_none : (o : Operand) (v : Values) (page : Page) → o.mode ≡ mode_inherent → needs_value o.mode (form_of o v page) ≡ false
unfolding form_of needs_value pick
needs_none o v page m = rw m
