-- The distance of a PCRelative operand decides between one byte and two, and the bits of an offset tell how many bytes stand after the postbyte.
-- Assumes nothing.
use mathlib.Core.Path.{◌≡◌, refl, sym, ap, subst, ◌∙◌}
use mathlib.Core.Bool.{Bool, true, false, not, ◌&&◌, ◌||◌, false≢true}
use mathlib.Core.Logic.{◌⊎◌, inl, inr}
use Prim.Native.Nat.{ℕ, ◌+◌}
use native.Mathlib.Omega.{arith}
use lib.Dec.{eqb}
use borrow.Author.Tests.{eqb-true}
use Rattle.std.specs.Prelude.{Result, IfOk}
use Rattle.ground.specs.Choice.{pick}
use Rattle.ground.specs.declared.refusals.Refusal.{Refusal}
use Rattle.ground.specs.Words.{plus, minus}
use Rattle.ground.proofs.Choices.{by_test, by_pick}
use Rattle.ground.proofs.Tests.{both_first}
use Rattle.values.specs.declared.Value.{Value}
use Rattle.values.specs.Widths.{valid_of}
use Rattle.rows.specs.Forms.{indexed}
use Rattle.rows.specs.Lookup.{has_form_of}
use Rattle.postbytes.specs.declared.Encoded.{Encoded}
use Rattle.postbytes.specs.declared.Index.TheVariants.{Offset, Counter}
use Rattle.postbytes.specs.Registers.{PC, not_indexing}
use Rattle.postbytes.specs.Writing.{five_bits, sized_of, constant_of, offset_of, counter_of, near_of, relative_of}
use Rattle.instruction.specs.declared.Record.{Record}
use Rattle.instruction.specs.declared.Chosen.{Chosen}
use Rattle.instruction.specs.declared.Built.{Built}
use Rattle.instruction.specs.declared.Argument.{Argument}
use Rattle.instruction.specs.declared.Argument.TheVariants.{Indexed, Relative}
use Rattle.instruction.specs.Names.{mode_offset, mode_pc_relative}
use Rattle.instruction.specs.Forms.{form_of}
use Rattle.instruction.specs.Choosing.{settled, register_at, offset_value, offset_index, target_index, index_of, choose_of}
use Rattle.instruction.specs.Bytes.{operand_bytes, laid_of}
use Rattle.instruction.specs.Building.{instruction_of, accepted_of}
use Rattle.instruction.proofs.Fits.{offset_valid, known_index}
use Rattle.why.specs.Reasons.{code_bytes, relative_distance, relative_reason, offset_number, offset_bits, offset_reason, reason_for}
use Rattle.why.specs.Exactly.{RelativeTold, RelativeDecided, bytes_for, OffsetTold, OffsetHeld}
use Rattle.why.proofs.Fresh.{makes, chosen_of, Accepts, accepted, laid_length}
use Rattle.instruction.proofs.Results.{of_ok}

-- an accepted indexed operand: the code, and the bytes of its argument
indexed_length :
    (r : Record) (address : ℕ) (b : Built) (k : Accepts r address b) (a : Argument) →
    k.choice ≡ settled (makes r) indexed a →
    b.length
    ≡ code_bytes r.operand.operation indexed
    + (operand_bytes r.operand.operation indexed a (plus address (code_bytes r.operand.operation indexed))).length
unfolding instruction_of accepted_of
indexed_length r address b k a e =
    ap (λ (b : Built). b.length) k.built
    ∙ ap (λ (c : Chosen). (laid_of c address).length) e
    ∙ laid_length (settled (makes r) indexed a) address (subst (λ (c : Chosen). has_form_of c.operation c.form ≡ true) e k.fits.row)

-- ---- PCRelative
module _ (r : Record) (address : ℕ) (m : r.operand.mode ≡ mode_pc_relative) where
  abbrev target : Argument
  target = Relative r.values.unsigned.number r.operand.indirect

  Targets : Result Chosen Refusal → Type 0
  Targets x = IfOk x (λ c. c ≡ settled (makes r) indexed target)

  to_target : chosen_of r address ≡ target_index (makes r) r.values
  unfolding instruction_of form_of choose_of index_of pick
  to_target = rw m

  relative_chosen : Targets (chosen_of r address)
  unfolding Targets instruction_of target_index
  relative_chosen =
      subst Targets (sym to_target)
      (by_pick Targets (eqb r.operand.count 1 && eqb (register_at r.operand 0) PC) refl tt)

  relative_size : (n after : ℕ) (ind : Bool) → (relative_of n after ind).length ≡ pick (near_of (minus n (plus after 2))) 2 3
  unfolding relative_of pick
  relative_size n after ind = by_test (λ (e : Encoded). e.length ≡ pick (near_of (minus n (plus after 2))) 2 3) (near_of (minus n (plus after 2))) (λ t. rw t) (λ t. rw t)

  relative_told : (b : Built) → Accepts r address b → RelativeTold r address b
  unfolding Targets reason_for relative_reason relative_distance operand_bytes pick
  relative_told b k =
      let after = plus address (code_bytes r.operand.operation indexed) in
      record {
        reason = rw m;
        length =
            indexed_length r address b k target (of_ok (λ (c : Chosen). c ≡ settled (makes r) indexed target) relative_chosen k.chosen)
            ∙ ap (λ (n : ℕ). code_bytes r.operand.operation indexed + n) (relative_size r.values.unsigned.number after r.operand.indirect);
      }

pub relative_decided : RelativeDecided
relative_decided r address m = accepted r address (RelativeTold r address) (relative_told r address m)

-- ---- an offset
-- a width is 8 or 16
either_width : (x : Value) → valid_of x ≡ true → (x.width ≡ 8) ⊎ (x.width ≡ 16)
unfolding valid_of
either_width x v = go (eqb x.width 8) refl (eqb x.width 16) refl (both_first (eqb x.width 8 || eqb x.width 16) _ v)
  where
    go : (a : Bool) → eqb x.width 8 ≡ a → (b : Bool) → eqb x.width 16 ≡ b → (a || b) ≡ true → (x.width ≡ 8) ⊎ (x.width ≡ 16)
    go true p b q t = inl (eqb-true x.width 8 p)
    go false p true q t = inr (eqb-true x.width 16 q)
    go false p false q t = absurd (false≢true t)

sized_size : (p q width n : ℕ) → (width ≡ 8) ⊎ (width ≡ 16) → (sized_of p q width n).length ≡ 1 + bytes_for width
unfolding sized_of bytes_for pick
sized_size p q width n (inl e) = rw e
sized_size p q width n (inr e) = rw e

-- the postbyte, and the bytes that the bits tell: on X, Y, U and S, and on PC
constant_size :
    (reg : ℕ) (ind : Bool) (width n : ℕ) → (width ≡ 8) ⊎ (width ≡ 16) →
    (constant_of reg ind width n).length ≡ 1 + bytes_for (pick (eqb n 0) 0 (pick (five_bits ind n) 5 width))
unfolding constant_of bytes_for pick
constant_size reg ind width n w =
    go (eqb n 0) refl (five_bits ind n) refl
  where
    go : (a : Bool) → eqb n 0 ≡ a → (b : Bool) → five_bits ind n ≡ b → (constant_of reg ind width n).length ≡ 1 + bytes_for (pick (eqb n 0) 0 (pick (five_bits ind n) 5 width))
    go true p b q = rw p
    go false p true q = rw (p, q)
    go false p false q = rw (p, q) (sized_size _ _ width n w)

module _ (r : Record) (address : ℕ) (m : r.operand.mode ≡ mode_offset) (b : Built) (k : Accepts r address b) where
  abbrev by : Value
  by = offset_value r.values

  width : (by.width ≡ 8) ⊎ (by.width ≡ 16)
  width = either_width by (offset_valid r.values k.early.right)

  to_offset : chosen_of r address ≡ offset_index (makes r) r.values
  unfolding instruction_of form_of choose_of index_of pick
  to_offset = rw m

  -- what was chosen: an operand of so many bytes
  record Holds (c : Chosen) : Type 0 where
    argument : Argument
    whole : c ≡ settled (makes r) indexed argument
    size : (after : ℕ) → (operand_bytes r.operand.operation indexed argument after).length ≡ 1 + bytes_for (offset_bits r.operand r.values)

  on_counter : eqb (register_at r.operand 0) PC ≡ true → Holds (settled (makes r) indexed (Indexed (Counter r.operand.indirect by)))
  unfolding operand_bytes counter_of offset_bits offset_number pick
  on_counter t = record {
    argument = Indexed (Counter r.operand.indirect by);
    whole = refl;
    size = λ _. rw (offset_valid r.values k.early.right, t) (sized_size _ _ by.width (offset_number r.values) width);
  }

  on_register : eqb (register_at r.operand 0) PC ≡ false → not_indexing (register_at r.operand 0) ≡ false → Holds (settled (makes r) indexed (Indexed (Offset (register_at r.operand 0) r.operand.indirect by)))
  unfolding operand_bytes offset_of offset_bits offset_number pick
  on_register t h = record {
    argument = Indexed (Offset (register_at r.operand 0) r.operand.indirect by);
    whole = refl;
    size = λ _. rw (known_index (register_at r.operand 0) h, offset_valid r.values k.early.right, h, t) (constant_size (register_at r.operand 0) r.operand.indirect by.width (offset_number r.values) width);
  }

  Held : Result Chosen Refusal → Type 0
  Held x = IfOk x Holds

  offset_chosen : Held (chosen_of r address)
  unfolding Held instruction_of offset_index
  offset_chosen =
      subst Held (sym to_offset)
      (by_pick Held (not (eqb r.operand.count 1)) tt
      (by_test Held (eqb (register_at r.operand 0) PC) on_counter
      (λ t. by_test Held (not_indexing (register_at r.operand 0)) (λ _. tt) (λ h. on_register t h))))

  abbrev Bits : ℕ → Type 0
  Bits n = (n ≡ 0) ⊎ ((n ≡ 5) ⊎ ((n ≡ 8) ⊎ (n ≡ 16)))

  some_bits : Bits (offset_bits r.operand r.values)
  unfolding offset_bits
  some_bits =
      by_pick Bits (eqb (register_at r.operand 0) PC) (inr (inr width))
      (by_pick Bits (eqb (offset_number r.values) 0) (inl refl)
      (by_pick Bits (five_bits r.operand.indirect (offset_number r.values)) (inr (inl refl)) (inr (inr width))))

  offset_told : OffsetTold r address b
  unfolding Held reason_for offset_reason pick
  offset_told =
      let h = of_ok Holds offset_chosen k.chosen in
      let code = code_bytes r.operand.operation indexed in
      record {
        reason = rw m;
        length = omega (arith, indexed_length r address b k h.argument h.whole, h.size (plus address code));
        bits = some_bits;
      }

pub offset_held : OffsetHeld
offset_held r address m = accepted r address (OffsetTold r address) (offset_told r address m)
