-- For each field a row that differs in it alone, in which it is right and no refusal blames it.
-- Assumes nothing.
use mathlib.Core.Path.{◌≡◌, refl, sym, ap, ◌∙◌}
use mathlib.Core.Bool.{Bool, true, false, ◌&&◌, not, false≢true, true≢false}
use mathlib.Core.List.{List, [], ◌∷◌}
use mathlib.Core.Logic.{⊎_elim}
use Prim.Native.Nat.{ℕ, ◌*◌, ◌/◌, ◌%◌, ◌<◌}
use native.Mathlib.Omega.{arith}
use lib.Dec.{eqb, ltb, leb}
use lib.ListN.{length, get_or}
use borrow.Author.Tests.{ltb-true, eqb-true, lt-ltb, le-leb, eq-eqb, leb-true}
use Rattle.ground.specs.Choice.{pick}
use Rattle.ground.proofs.Choices.{by_test, by_pick}
use Rattle.ground.proofs.Tests.{both_second}
use Rattle.values.specs.declared.pages.Page.TheVariants.{Known}
use Rattle.values.specs.declared.pages.Page.{Page as AnyPage}
use Rattle.values.specs.Pages.{reaches, is_unknown, is_zero, is_page, page_numbered}
use Rattle.rows.specs.Forms.{inherent, immediate, direct, indexed, relative, register}
use Rattle.rows.specs.Sheet.{page0, page10, page11, table_of}
use Rattle.rows.specs.Lookup.{merged_of, placed, has_form_of, known_of}
use Rattle.postbytes.specs.Registers.{A, X, PC}
use Rattle.postbytes.specs.Lists.{any_unknown, strange_list}
use Rattle.instruction.specs.declared.Operand.{Operand}
use Rattle.instruction.specs.Names.{mode_register, mode_offset, mode_pc_relative, mode_inc_dec, mode_extended, mode_direct, mode_immediate, mode_inherent}
use Rattle.instruction.specs.Records.{stepped}
use Rattle.instruction.specs.Forms.{register_form, form_of, strays}
use Rattle.instruction.proofs.Tests.{or_right}
use Rattle.instruction.proofs.Rows.{direct_extended, branch_only}
use Rattle.instruction.proofs.Formed.{IsBranch, branch_form}
use Rattle.entries.specs.Entries.{byte_in, is_flag, flag_in, is_page_in, page_in, registers_in, fields_in, value_in, values_in}
use Rattle.why.specs.declared.Field.{Field}
use Rattle.why.specs.declared.Field.TheVariants.{Operation, Mode, Indirect, Forced, Step, Widening, Registers, Page, Values}
use Rattle.why.specs.Fields.{is_right}
use Rattle.why.specs.Mending.{AlikeBut}
use Rattle.why.proofs.Causes.{asked_of, Missing, bad_registers, BadWidth, not_taken, too_large, too_wide, Beyond}
use Rattle.why.proofs.Faults.{plain_of, Blamed}
use Rattle.why.proofs.Changes.{changed, Place, one_place, more_places, AllSmall, alike}
use Rattle.why.proofs.Fine.{not_lacking, listed, list_fine, added_fine, counter_fine, pointer_fine, width_for, value_for, width_byte, width_small, value_valid, alike_lawful, needs_none}

-- what mends a row in a field
pub record Cured (field : Field) (row : List ℕ) : Type 0 where
  pub other : List ℕ
  pub alike_but : AlikeBut field row other
  pub right : is_right field other ≡ true
  pub blameless : Blamed field other → ⊥

-- by other cells in the field's place
unfoldable pub cured_by :
    (field : Field) (row : List ℕ) (at : ℕ) (news : List ℕ) →
    Place field at (length news) →
    AllSmall news →
    is_right field (changed at news row) ≡ true →
    (Blamed field (changed at news row) → ⊥) →
    Cured field row
cured_by field row at news place small right blameless =
    record { other = changed at news row; alike_but = alike field at news row place small; right = right; blameless = blameless }

-- ---- the operation, the flags and the step
module _ (row : List ℕ) where
  -- LDA
  pub operation_cured : Cured Operation row
  unfolding byte_in pick table_of page0 page10 page11 merged_of placed has_form_of known_of
  operation_cured = cured_by Operation row 0 (54 ∷ []) (one_place Operation 0 (λ k. refl)) (omega arith) refl (λ b. b)

  pub indirect_cured : Cured Indirect row
  unfolding is_flag flag_in
  indirect_cured = cured_by Indirect row 2 (0 ∷ []) (one_place Indirect 2 (λ k. refl)) (omega arith) refl false≢true

  pub forced_cured : Cured Forced row
  unfolding is_flag
  forced_cured = cured_by Forced row 3 (0 ∷ []) (one_place Forced 3 (λ k. refl)) (omega arith) refl (λ b. b)

  -- a step that IncDec takes
  pub step_cured : Cured Step row
  unfolding stepped fields_in byte_in pick
  step_cured = cured_by Step row 4 (1 ∷ []) (one_place Step 4 (λ k. refl)) (omega arith) (or_right (not (eqb (byte_in row 1) mode_inc_dec)) true refl) (λ b. b)

  pub widening_cured : Cured Widening row
  unfolding is_flag flag_in
  widening_cured = cured_by Widening row 5 (1 ∷ []) (one_place Widening 5 (λ k. refl)) (omega arith) refl true≢false

-- ---- the page
-- the high byte of the number
abbrev pub high_in : List ℕ → ℕ
high_in row = get_or row 17 0 / 256 % 256

pub page_known : (row : List ℕ) → get_or row 15 0 < 256 → page_in row 15 ≡ Known (get_or row 15 0)
unfolding page_in page_numbered pick
page_known row h = rw (lt-ltb (get_or row 15 0) 256 h)

unfoldable pub page_cured : (row : List ℕ) → Cured Page row
unfolding is_page_in is_page
page_cured row =
    let news = high_in row ∷ [] in
    cured_by Page row 15 news (one_place Page 15 (λ k. refl)) (omega arith) (le-leb (high_in row) 256 (omega arith))
    (λ b. false≢true (rw (page_known (changed 15 news row) (omega arith)) at b))

-- ---- the mode
mode_place : Place Mode 1 1
mode_place = one_place Mode 1 (λ k. refl)

module _ (row : List ℕ) where
  abbrev in_mode : ℕ → List ℕ
  in_mode mode = changed 1 (mode ∷ []) row

  -- one that asks for a form of the row
  by_mode :
      (mode form : ℕ) → mode < 8 →
      asked_of (plain_of (in_mode mode)) ≡ form →
      strays (byte_in (in_mode mode) 1) form ≡ false →
      has_form_of (byte_in row 0) form ≡ true →
      Cured Mode row
  unfolding fields_in byte_in pick
  by_mode mode form small asks fits has =
      cured_by Mode row 1 (mode ∷ []) mode_place (omega arith) (rw (lt-ltb mode 256 (omega arith)) (lt-ltb mode 8 small))
      (λ b. false≢true (sym (not_lacking (fields_in (in_mode mode)) form fits has) ∙ (rw asks at b)))

  -- a known operation has a form, and each form has a mode; Relative's is Extended, not indirect
  pub mode_cured : is_right Operation row ≡ true → (has_form_of (byte_in row 0) relative ≡ true → flag_in row 2 ≡ false) → Cured Mode row
  unfolding known_of form_of register_form strays fields_in byte_in flag_in pick
  mode_cured known straight =
      go (has_form_of o inherent) refl (has_form_of o immediate) refl (has_form_of o direct) refl (has_form_of o indexed) refl (has_form_of o relative) refl (has_form_of o register) refl
    where
      o : ℕ
      o = byte_in row 0

      none :
          has_form_of o inherent ≡ false →
          has_form_of o immediate ≡ false →
          has_form_of o direct ≡ false →
          has_form_of o indexed ≡ false →
          has_form_of o relative ≡ false →
          has_form_of o register ≡ false →
          false ≡ true
      none p q r s t u = rw (p, q, r, s, sym (direct_extended o) ∙ r, t, u) at known

      branching : has_form_of o relative ≡ true → IsBranch (fields_in (in_mode mode_extended))
      branching t = record {
        mode = refl;
        straight = ap (λ (n : ℕ). eqb n 1) ((alike Mode 1 (mode_extended ∷ []) row mode_place (omega arith)).kept 2 refl) ∙ straight t;
        rows = rw (branch_only o t) t;
      }

      go :
          (a : Bool) → has_form_of o inherent ≡ a →
          (b : Bool) → has_form_of o immediate ≡ b →
          (c : Bool) → has_form_of o direct ≡ c →
          (d : Bool) → has_form_of o indexed ≡ d →
          (e : Bool) → has_form_of o relative ≡ e →
          (f : Bool) → has_form_of o register ≡ f →
          Cured Mode row
      go true p b q c r d s e t f u = by_mode mode_inherent inherent (omega arith) refl refl p
      go false p true q c r d s e t f u = by_mode mode_immediate immediate (omega arith) refl refl q
      go false p false q true r d s e t f u = by_mode mode_direct direct (omega arith) refl refl r
      go false p false q false r true s e t f u = by_mode mode_offset indexed (omega arith) refl refl s
      go false p false q false r false s true t f u =
          let other = in_mode mode_extended in
          by_mode mode_extended relative (omega arith) (branch_form (fields_in other) (branching t) (values_in other) (page_in other 15)) refl t
      go false p false q false r false s false t true u = by_mode mode_register register (omega arith) (rw u) refl u
      go false p false q false r false s false t false u = absurd (false≢true (none p q r s t u))

-- ---- the registers
-- A twice for a list, A and X for an accumulator, PC for PCRelative, X for every other mode
module _ (row : List ℕ) where
  with_registers :
      (count a b : ℕ) → (count < 9) × ((a < 9) × (b < 9)) →
      is_right Registers (changed 6 (count ∷ listed a b) row) ≡ true →
      bad_registers (fields_in (changed 6 (count ∷ listed a b) row)) ≡ false →
      Cured Registers row
  with_registers count a b small right fine =
      cured_by Registers row 6 (count ∷ listed a b) (more_places Registers 6 14 (λ k. refl) (omega arith)) (omega arith) right (λ bad. false≢true (sym fine ∙ bad))

  pub registers_cured : Cured Registers row
  unfolding strange_list any_unknown fields_in registers_in byte_in pick
  registers_cured =
      go (eqb (byte_in row 1) mode_register) refl (has_form_of (byte_in row 0) register) refl (eqb (byte_in row 1) mode_pc_relative) refl
    where
      with_them : ℕ → ℕ → ℕ → Operand
      with_them count a b = fields_in (changed 6 (count ∷ listed a b) row)

      go :
          (a : Bool) → eqb (byte_in row 1) mode_register ≡ a →
          (b : Bool) → has_form_of (byte_in row 0) register ≡ b →
          (c : Bool) → eqb (byte_in row 1) mode_pc_relative ≡ c →
          Cured Registers row
      go true p true q c r =
          with_registers 2 A A (omega arith) refl (list_fine (with_them 2 A A) (eqb-true (byte_in row 1) mode_register p) q refl refl)
      go true p false q c r =
          with_registers 2 A X (omega arith) refl (added_fine (with_them 2 A X) (eqb-true (byte_in row 1) mode_register p) q refl refl)
      go false p b q true r =
          with_registers 1 PC 0 (omega arith) refl (counter_fine (with_them 1 PC 0) (eqb-true (byte_in row 1) mode_pc_relative r) refl refl)
      go false p b q false r =
          with_registers 1 X 0 (omega arith) refl (pointer_fine (with_them 1 X 0) p r refl refl)

-- ---- the values
-- the first address of the page for a Direct under a known one, else 0
unfoldable number_for : List ℕ → ℕ
number_for row = pick (eqb (byte_in row 1) mode_direct && ltb (get_or row 15 0) 256) (get_or row 15 0 * 256) 0

-- given, but in mode Inherent
unfoldable given_for : List ℕ → ℕ
given_for row = pick (eqb (byte_in row 1) mode_inherent) 0 1

number_small : (row : List ℕ) → number_for row < 65536
unfolding number_for
number_small row =
    by_test (λ (n : ℕ). n < 65536) (eqb (byte_in row 1) mode_direct && ltb (get_or row 15 0) 256)
    (λ t. omega (arith, ltb-true (get_or row 15 0) 256 (both_second (eqb (byte_in row 1) mode_direct) (ltb (get_or row 15 0) 256) t)))
    (λ _. omega arith)

module _ (row : List ℕ) where
  abbrev new_values : List ℕ
  new_values = given_for row ∷ number_for row ∷ width_for (number_for row) ∷ number_for row ∷ width_for (number_for row) ∷ []

  abbrev revalued : List ℕ
  revalued = changed 16 new_values row

  values_are : values_in revalued ≡ record { given = eqb (given_for row) 1; unsigned = value_for (number_for row); signed = value_for (number_for row) }
  unfolding values_in value_in flag_in byte_in
  values_are = rw (width_byte (number_for row))

  given_small : leb (given_for row) 1 ≡ true
  unfolding given_for
  given_small = by_pick (λ (g : ℕ). leb g 1 ≡ true) (eqb (byte_in row 1) mode_inherent) refl refl

  mode_same : (fields_in revalued).mode ≡ byte_in row 1
  unfolding fields_in byte_in
  mode_same = refl

  page_same : page_in revalued 15 ≡ page_in row 15
  unfolding page_in
  page_same = refl

  -- no 3
  given_there : eqb (byte_in row 1) mode_inherent ≡ false → eqb (given_for row) 1 ≡ true
  unfolding given_for pick
  given_there q = rw q

  not_missing : Missing (plain_of revalued) → ⊥
  not_missing m = go (eqb (byte_in row 1) mode_inherent) refl
    where
      go : (t : Bool) → eqb (byte_in row 1) mode_inherent ≡ t → ⊥
      go true q =
          false≢true
          (sym (needs_none (fields_in revalued) (values_in revalued) (page_in revalued 15) (mode_same ∙ eqb-true (byte_in row 1) mode_inherent q)) ∙ m.needed)
      go false q = false≢true (sym (rw values_are at m.absent) ∙ given_there q)

  -- no 6
  given_none : byte_in row 1 ≡ mode_inherent → eqb (given_for row) 1 ≡ false
  unfolding given_for pick
  given_none m = rw m

  number_none : byte_in row 1 ≡ mode_immediate → number_for row ≡ 0
  unfolding number_for pick
  number_none m = rw m

  zero_page : is_zero (page_in row 15) ≡ true → get_or row 15 0 ≡ 0
  unfolding page_in page_numbered
  zero_page =
      let p = get_or row 15 0 in
      by_test (λ (q : AnyPage). is_zero q ≡ true → p ≡ 0) (ltb p 256) (λ _ e. eqb-true p 0 e) (λ _ e. absurd (false≢true e))

  number_zero : get_or row 15 0 ≡ 0 → number_for row ≡ 0
  unfolding number_for
  number_zero z = by_pick (λ (n : ℕ). n ≡ 0) (eqb (byte_in row 1) mode_direct && ltb (get_or row 15 0) 256) (omega arith) refl

  width_zero : number_for row ≡ 0 → eqb (width_for (number_for row)) 16 ≡ false
  unfolding width_for pick
  width_zero z = rw z

  not_wide : BadWidth (plain_of revalued) → ⊥
  not_wide (not_taken m g) = false≢true (sym (given_none (sym mode_same ∙ m)) ∙ (rw values_are at g))
  not_wide (too_large m t) =
      let l = ltb-true 255 (number_for row) (rw values_are at t) in
      omega (arith, l, number_none (sym mode_same ∙ m))
  not_wide (too_wide m w z) = false≢true (sym (width_zero (number_zero (zero_page (rw page_same at z)))) ∙ (rw values_are at w))

  -- no 7 but for an unknown page
  known_small : is_unknown (page_in row 15) ≡ false → get_or row 15 0 < 256
  unfolding page_in page_numbered
  known_small =
      let p = get_or row 15 0 in
      by_test (λ (q : AnyPage). is_unknown q ≡ false → p < 256) (ltb p 256) (λ l _. ltb-true p 256 l) (λ _ e. absurd (true≢false e))

  number_direct : byte_in row 1 ≡ mode_direct → get_or row 15 0 < 256 → number_for row ≡ get_or row 15 0 * 256
  unfolding number_for pick
  number_direct m h = rw (m, lt-ltb (get_or row 15 0) 256 h)

  reached : byte_in row 1 ≡ mode_direct → get_or row 15 0 < 256 → reaches (page_in row 15) (number_for row) ≡ true
  reached m h = rw (page_known row h, number_direct m h) (eq-eqb (get_or row 15 0) (get_or row 15 0 * 256 / 256) (omega arith))

  not_beyond : Beyond (plain_of revalued) → is_unknown (page_in revalued 15) ≡ false → ⊥
  not_beyond b k =
      false≢true (sym (rw (values_are, page_same) at b.unreached) ∙ reached (sym mode_same ∙ b.mode) (known_small (rw page_same at k)))

  pub values_cured : Cured Values row
  unfolding is_flag
  values_cured =
      cured_by Values row 16 new_values (more_places Values 16 20 (λ k. refl) (omega arith))
      (omega (arith, leb-true (given_for row) 1 given_small, number_small row, width_small (number_for row)))
      (rw (given_small, values_are) (alike_lawful (eqb (given_for row) 1) (value_for (number_for row)) (value_valid (number_for row) (number_small row))))
      (λ b. ⊎_elim not_missing (λ c. ⊎_elim not_wide (λ d. not_beyond d.0 d.1) c) b)
