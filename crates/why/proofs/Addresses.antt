-- An address is extended exactly if one of the three facts holds, and a byte longer exactly then.
-- Assumes nothing.
use mathlib.Core.Path.{◌≡◌, refl, sym, ap, ◌∙◌}
use mathlib.Core.Bool.{Bool, true, false, not, ◌&&◌, ◌||◌, false≢true}
use Prim.Native.Nat.{ℕ, ◌+◌, ◌/◌}
use lib.Dec.{eqb}
use borrow.Author.Tests.{eqb-true}
use Rattle.std.specs.Prelude.{Ok}
use Rattle.ground.specs.Choice.{pick}
use Rattle.ground.proofs.Choices.{by_test, by_pick}
use Rattle.values.specs.declared.pages.Page.{Page}
use Rattle.values.specs.declared.pages.Page.TheVariants.{Unknown, Known}
use Rattle.values.specs.Pages.{reaches, is_unknown}
use Rattle.rows.specs.Forms.{direct, extended, relative}
use Rattle.rows.specs.Lookup.{has_form_of}
use Rattle.rows.specs.Sizes.{number_size_of}
use Rattle.instruction.specs.declared.Record.{Record}
use Rattle.instruction.specs.declared.Chosen.{Chosen}
use Rattle.instruction.specs.declared.Built.{Built}
use Rattle.instruction.specs.Names.{mode_offset, mode_pc_relative, mode_extended}
use Rattle.instruction.specs.Forms.{becomes_direct, extended_form, form_of, needs_value}
use Rattle.instruction.specs.Choosing.{anew_as, anew_of, address_of, choose_of}
use Rattle.instruction.specs.Bytes.{operand_bytes, laid_of}
use Rattle.instruction.specs.Building.{instruction_of, accepted_of}
use Rattle.rows.proofs.Bytes.{number_size_small}
use Rattle.instruction.proofs.Rows.{direct_extended, direct_size, extended_size}
use Rattle.instruction.proofs.Sizes.{number_length}
use Rattle.why.specs.declared.Reason.{Reason}
use Rattle.why.specs.declared.Reason.TheVariants.{Plain, Address, Branch, PcRelative, Offset, Refused}
use Rattle.why.specs.Reasons.{elsewhere, address_reason, code_bytes, branch_reason, relative_reason, offset_reason, extended_reason, reason_for}
use Rattle.why.specs.Exactly.{IsAddress, some_named, AddressTold, NamesExactly, NamesOnly}
use Rattle.why.proofs.Fresh.{makes, chosen_of, Accepts, accepted, laid_length}

-- ---- the facts
-- an address is on the page exactly if the page is known and not elsewhere
on_page_lem : (page : Page) (n : ℕ) → reaches page n ≡ not (is_unknown page || elsewhere page n)
on_page_lem Unknown n = refl
on_page_lem (Known high) n = twice (eqb high (n / 256))
  where
    twice : (b : Bool) → b ≡ not (not b)
    twice true = refl
    twice false = refl

one_page_fact : (page : Page) (n : ℕ) → (is_unknown page && elsewhere page n) ≡ false
one_page_fact Unknown n = refl
one_page_fact (Known high) n = refl

-- where there is a value, it is Direct exactly if no fact is named
none_named : (r : Record) → r.values.given ≡ true → becomes_direct r.operand r.values r.page ≡ not (some_named r)
unfolding becomes_direct
none_named r g = rw (g, on_page_lem r.page r.values.unsigned.number) (neither r.operand.forced (is_unknown r.page || elsewhere r.page r.values.unsigned.number))
  where
    neither : (a b : Bool) → (not a && not b) ≡ not (a || b)
    neither true b = refl
    neither false b = refl

turned : (t : Bool) → pick (not t) direct extended ≡ pick t extended direct
unfolding pick
turned true = refl
turned false = refl

-- ---- what is chosen for an address
module _ (r : Record) (address : ℕ) (a : IsAddress r.operand) where
  abbrev form : ℕ
  form = pick (becomes_direct r.operand r.values r.page) direct extended

  address_form : form_of r.operand r.values r.page ≡ form
  unfolding form_of extended_form pick
  address_form = rw (a.mode, a.straight, a.row)

  address_chosen : chosen_of r address ≡ Ok (anew_as (makes r) r.values form)
  unfolding instruction_of choose_of address_of anew_of pick
  address_chosen = go (becomes_direct r.operand r.values r.page) refl
    where
      go : (t : Bool) → becomes_direct r.operand r.values r.page ≡ t → chosen_of r address ≡ Ok (anew_as (makes r) r.values form)
      go true q = rw (address_form, q, a.mode)
      go false q = rw (address_form, q, a.mode)

  -- its row has both forms, with a number of one byte and of two
  has_both : (t : Bool) → has_form_of r.operand.operation (pick t extended direct) ≡ true
  unfolding pick
  has_both true = a.row
  has_both false = direct_extended r.operand.operation ∙ a.row

  number_sized : (t : Bool) → number_size_of r.operand.operation (pick t extended direct) ≡ pick t 2 1
  unfolding pick
  number_sized true = extended_size r.operand.operation a.row
  number_sized false = direct_size r.operand.operation (has_both false)

  laid_number : (f : ℕ) → has_form_of r.operand.operation f ≡ true → (laid_of (anew_as (makes r) r.values f) address).length ≡ code_bytes r.operand.operation f + number_size_of r.operand.operation f
  unfolding instruction_of anew_as operand_bytes
  laid_number f h =
      laid_length (anew_as (makes r) r.values f) address h
      ∙ ap (λ (n : ℕ). code_bytes r.operand.operation f + n)
      (number_length (number_size_of r.operand.operation f) r.values.unsigned.number (number_size_small r.operand.operation f))

  address_told : (b : Built) → Accepts r address b → AddressTold r address b
  unfolding reason_for extended_reason address_reason needs_value instruction_of accepted_of anew_as pick
  address_told b k =
      let same : k.choice ≡ anew_as (makes r) r.values form = cc (k.chosen, address_chosen) in
      let given : r.values.given ≡ true = k.early.present (rw a.mode) in
      let e : form ≡ pick (some_named r) extended direct = ap (λ (t : Bool). pick t direct extended) (none_named r given) ∙ turned (some_named r) in
      let f : k.choice.form ≡ pick (some_named r) extended direct = ap (λ (c : Chosen). c.form) same ∙ e in
      record {
        reason = rw (a.mode, a.straight, a.row);
        form = ap (λ (b : Built). b.instruction.form) k.built ∙ f;
        length =
            ap (λ (b : Built). b.length) k.built
            ∙ ap (λ (c : Chosen). (laid_of c address).length) (same ∙ ap (anew_as (makes r) r.values) e)
            ∙ laid_number (pick (some_named r) extended direct) (has_both (some_named r))
            ∙ ap (λ (n : ℕ). code_bytes r.operand.operation (pick (some_named r) extended direct) + n) (number_sized (some_named r));
        single = one_page_fact r.page r.values.unsigned.number;
      }

pub names_exactly : NamesExactly
names_exactly r address a = accepted r address (AddressTold r address) (address_told r address a)

-- ---- and of nothing else
-- a choice that says Address says it in the one case that does
pub names_only : NamesOnly
unfolding reason_for extended_reason branch_reason relative_reason offset_reason
names_only r address f u e =
    let o = r.operand in
    let P : Reason → Type 0 = λ w. w ≡ Address f u e → IsAddress o in
    by_test P (eqb o.mode mode_extended)
    (λ m. by_test P o.indirect (λ _ z. absurd (other refl z))
    (λ s. by_test P (has_form_of o.operation extended) (λ h _. record { mode = eqb-true o.mode mode_extended m; straight = s; row = h })
    (λ _. by_pick P (has_form_of o.operation relative) (λ z. absurd (other refl z)) (λ z. absurd (other refl z)))))
    (λ _. by_pick P (eqb o.mode mode_pc_relative) (λ z. absurd (other refl z)) (by_pick P (eqb o.mode mode_offset) (λ z. absurd (other refl z)) (λ z. absurd (other refl z))))
  where
    is_none : Reason → Bool
    is_none Plain = true
    is_none (Address forced unknown elsewhere) = false
    is_none (Branch distance near) = true
    is_none (PcRelative distance near) = true
    is_none (Offset number bits) = true
    is_none (Refused field) = true

    other : {w : Reason} → is_none w ≡ true → w ≡ Address f u e → ⊥
    other n z = false≢true (sym (ap is_none z) ∙ n)
