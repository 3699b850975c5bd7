-- Every refused row can be mended in the field that is named, but for the mode of an indirect branch; and there no mode helps.
-- Assumes nothing.
use mathlib.Core.Path.{◌≡◌, refl, sym, ap, ◌∙◌, subst}
use mathlib.Core.Bool.{Bool, true, false, ◌&&◌, ◌||◌, not, false≢true}
use mathlib.Core.List.{List}
use mathlib.Core.Logic.{◌⊎◌, inl, inr, ⊎_elim}
use Prim.Native.Nat.{ℕ, ◌/◌, ◌<◌}
use native.Mathlib.Omega.{arith}
use lib.Dec.{T, eqb}
use lib.ListN.{get_or}
use borrow.Author.Tests.{eqb-true, eqb-false, eq-eqb, ne_eqb}
use Rattle.ground.specs.Choice.{pick}
use Rattle.ground.specs.Refusals.{unknown, no_such_mode, direct_not_allowed}
use Rattle.ground.proofs.Ranges.{upto, below}
use Rattle.ground.proofs.Tests.{both_second}
use Rattle.values.specs.Pages.{reaches}
use Rattle.rows.specs.Forms.{relative}
use Rattle.rows.specs.Sheet.{page0, page10, page11, table_of}
use Rattle.rows.specs.Lookup.{merged_of, placed, has_form_of}
use Rattle.rows.proofs.Codes.{form_small}
use Rattle.instruction.specs.declared.Record.{Record}
use Rattle.instruction.specs.Records.{recognised, lawful}
use Rattle.instruction.specs.Forms.{lacks}
use Rattle.instruction.specs.Building.{made_as, make_of, fresh_of, told}
use Rattle.instruction.proofs.Rows.{operation_small}
use Rattle.instruction.proofs.Formed.{relative_branch}
use Rattle.instruction.proofs.Fits.{unsigned_word}
use Rattle.entries.specs.Entries.{byte_in, flag_in, page_in, fields_in, value_in, values_in, entry_of}
use Rattle.why.specs.declared.Field.{Field}
use Rattle.why.specs.declared.Field.TheVariants.{Operation, Mode, Indirect, Forced, Step, Widening, Registers, Page, Values}
use Rattle.why.specs.Fields.{is_right, first_wrong, page_or_values, field_of}
use Rattle.why.specs.Explaining.{answer_of}
use Rattle.why.specs.Mending.{is_of, AlikeBut, named_of, Elsewhere, Mended, IndirectBranch, CanMend, NoModeHelps}
use Rattle.why.proofs.Causes.{asked_of, Beyond, seven_beyond}
use Rattle.why.proofs.Wrong.{is_whole, whole_right, broken_one, first_named}
use Rattle.why.proofs.Faults.{plain_of, entry_plain, row_cause, Faulty, named_faulty}
use Rattle.why.proofs.Cures.{Cured, cured_by, operation_cured, mode_cured, indirect_cured, forced_cured, step_cured, widening_cured, registers_cured, high_in, page_known, page_cured, values_cured}

-- ---- a cure mends
-- the number of a refusal names the field by itself, but for 1, which has its own order, and 7, which hangs on the page
same_field : (row other : List ℕ) (n : ℕ) → eqb n unknown ≡ false → eqb n direct_not_allowed ≡ false → field_of other n ≡ field_of row n
unfolding field_of pick
same_field row other n p q = rw (p, q)

-- so two rows that are both refused 7 must not name two fields
abbrev Seven : List ℕ → List ℕ → ℕ → Type 0
Seven row other address =
    (told (answer_of row address)) ≡ direct_not_allowed →
    (told (answer_of other address)) ≡ direct_not_allowed →
    (named_of other address ≡ named_of row address → ⊥) → ⊥

-- under one page 7 names one field
same_page : (row other : List ℕ) (address : ℕ) → get_or other 15 0 ≡ get_or row 15 0 → Seven row other address
unfolding field_of page_or_values page_in pick
same_page row other address e p q differs = differs (rw (p, q, e))

module _ (row : List ℕ) (address : ℕ) (field : Field) (named : named_of row address ≡ field) (c : Cured field row) (seven : Seven row c.other address) where
  other_field : ((told (answer_of c.other address)) ≡ 0 → ⊥) → named_of c.other address ≡ named_of row address → ⊥
  other_field refused same =
      ⊎_elim
      (λ (w : is_right field c.other ≡ false). false≢true (sym w ∙ c.right))
      c.blameless
      (subst (λ (f : Field). Faulty f c.other) (same ∙ named) (named_faulty c.other address refused))

  other_number :
      (named_of c.other address ≡ named_of row address → ⊥) →
      ((told (answer_of row address)) ≡ unknown) ⊎ ((told (answer_of c.other address)) ≡ (told (answer_of row address)) → ⊥)
  other_number differs = go (eqb n unknown) refl (eqb n direct_not_allowed) refl
    where
      n : ℕ
      n = (told (answer_of row address))

      go : (a : Bool) → eqb n unknown ≡ a → (b : Bool) → eqb n direct_not_allowed ≡ b → (n ≡ unknown) ⊎ ((told (answer_of c.other address)) ≡ n → ⊥)
      go true p b q = inl (eqb-true n unknown p)
      go false p true q = inr (λ same. let e = eqb-true n direct_not_allowed q in seven e (same ∙ e) differs)
      go false p false q = inr (λ same. differs (ap (field_of c.other) same ∙ same_field row c.other n p q))

  mended : Mended row address
  mended = record {
    other = c.other;
    alike = subst (λ (f : Field). AlikeBut f row c.other) (sym named) c.alike_but;
    rid = go (eqb n 0) refl;
  }
    where
      n : ℕ
      n = (told (answer_of c.other address))

      go : (t : Bool) → eqb n 0 ≡ t → (n ≡ 0) ⊎ Elsewhere row c.other address
      go true q = inl (eqb-true n 0 q)
      go false q = let differs = other_field (eqb-false n 0 q) in inr (record { field = differs; number = other_number differs })

-- ---- the page
-- the high byte of a lawful number is its page, so that it is reached
page_seven : (row : List ℕ) (address : ℕ) → Seven row (page_cured row).other address
unfolding page_cured cured_by values_in value_in
page_seven row address p q differs = false≢true (sym b.unreached ∙ reached)
  where
    other : List ℕ
    other = (page_cured row).other

    whole : (r : List ℕ) → (told (answer_of r address)) ≡ direct_not_allowed → is_whole r ≡ true
    whole r e = go (is_whole r) refl
      where
        go : (t : Bool) → is_whole r ≡ t → is_whole r ≡ true
        go true w = w
        go false w = absurd (omega (arith, e, broken_one r address w))

    a : Beyond (plain_of row)
    a = seven_beyond (row_cause row address (whole row p)) p

    b : Beyond (plain_of other)
    b = seven_beyond (row_cause other address (whole other q)) q

    small : get_or row 17 0 < 65536
    small = unsigned_word (values_in row) (both_second (recognised (entry_of row).operand) (lawful (values_in row)) (whole row p)) a.given

    reached : reaches (page_in other 15) (get_or other 17 0) ≡ true
    reached =
        rw (page_known other (omega arith), (page_cured row).alike_but.kept 17 refl)
        (eq-eqb (high_in row) (get_or row 17 0 / 256) (omega (arith, small)))

-- ---- the mode
-- a mode is named only where the operation is known
mode_known : (row : List ℕ) (address : ℕ) → named_of row address ≡ Mode → is_right Operation row ≡ true
unfolding field_of pick
mode_known row address named = go (is_whole row) refl
  where
    go : (t : Bool) → is_whole row ≡ t → is_right Operation row ≡ true
    go true w = whole_right row w Operation
    go false w =
        let first : first_wrong row ≡ Mode = ap (field_of row) (sym (broken_one row address w)) ∙ named in
        first_named row Operation (rw first (omega arith))

mode_straight : (row : List ℕ) → (IndirectBranch row → ⊥) → has_form_of (byte_in row 0) relative ≡ true → flag_in row 2 ≡ false
mode_straight row none h = go (flag_in row 2) refl
  where
    go : (t : Bool) → flag_in row 2 ≡ t → flag_in row 2 ≡ false
    go false q = q
    go true q = absurd (none (record { branch = h; indirect = q }))

-- ---- every field
pub can_mend : CanMend
can_mend row address _ exception = go (named_of row address) refl
  where
    -- where the page is kept
    by : (field : Field) → is_of field 15 ≡ false → named_of row address ≡ field → Cured field row → Mended row address
    by field kept e c = mended row address field e c (same_page row c.other address (c.alike_but.kept 15 kept))

    go : (field : Field) → named_of row address ≡ field → Mended row address
    go Operation e = by Operation refl e (operation_cured row)
    go Mode e = by Mode refl e (mode_cured row (mode_known row address e) (mode_straight row (exception e)))
    go Indirect e = by Indirect refl e (indirect_cured row)
    go Forced e = by Forced refl e (forced_cured row)
    go Step e = by Step refl e (step_cured row)
    go Widening e = by Widening refl e (widening_cured row)
    go Registers e = by Registers refl e (registers_cured row)
    go Page e = mended row address Page e (page_cured row) (page_seven row address)
    go Values e = by Values refl e (values_cured row)

-- ---- the exception
-- a row of a branch has no other form, by a test over every operation in every form
abbrev branch_alone : ℕ → ℕ → Bool
branch_alone o form = not (has_form_of o relative) || (eqb form relative || not (has_form_of o form))

all_alone : T (upto (λ (o : ℕ). upto (branch_alone o) 7) 256)
unfolding has_form_of placed merged_of table_of page0 page10 page11 pick
all_alone = tt

no_other_form : (o form : ℕ) → has_form_of o relative ≡ true → (form ≡ relative → ⊥) → has_form_of o form ≡ false
no_other_form o form h n = go (has_form_of o form) refl
  where
    alone : (t u : Bool) → t ≡ true → eqb form relative ≡ false → u ≡ true → T (not t || (eqb form relative || not u)) → ⊥
    alone t u p q r test = rw (p, q, r) at test

    go : (t : Bool) → has_form_of o form ≡ t → has_form_of o form ≡ false
    go false q = q
    go true q =
        absurd
        (alone (has_form_of o relative) (has_form_of o form) h (ne_eqb form relative n) q
        (below (branch_alone o) 7 (below (λ (k : ℕ). upto (branch_alone k) 7) 256 all_alone o (operation_small o relative h)) form (form_small o form q)))

-- so that one which is indirect lacks whatever form is asked for
branch_lacks : (r : Record) → has_form_of r.operand.operation relative ≡ true → r.operand.indirect ≡ true → lacks r.operand (asked_of r) ≡ true
unfolding lacks
branch_lacks r h i =
    let o = r.operand in
    rw (no_other_form o.operation (asked_of r) h (λ z. false≢true (sym (relative_branch o r.values r.page z).straight ∙ i)))

lacking_two : (r : Record) (address : ℕ) → (recognised r.operand && lawful r.values) ≡ true → lacks r.operand (asked_of r) ≡ true → (told (fresh_of r address)) ≡ no_such_mode
unfolding fresh_of make_of made_as pick
lacking_two r address w l = rw (w, l)

pub no_mode_helps : NoModeHelps
unfolding fields_in byte_in flag_in entry_of
no_mode_helps row other address branch alike = go (is_whole other) refl
  where
    operation : byte_in other 0 ≡ byte_in row 0
    operation = rw (alike.kept 0 refl)

    indirect : flag_in other 2 ≡ flag_in row 2
    indirect = rw (alike.kept 2 refl)

    go : (t : Bool) → is_whole other ≡ t → ((told (answer_of other address)) ≡ unknown) ⊎ ((told (answer_of other address)) ≡ no_such_mode)
    go false w = inl (broken_one other address w)
    go true w =
        let e = entry_plain other w in
        let l = branch_lacks (plain_of other) (ap (λ (o : ℕ). has_form_of o relative) operation ∙ branch.branch) (indirect ∙ branch.indirect) in
        inr (lacking_two (entry_of other) address w (subst (λ (r : Record). lacks r.operand (asked_of r) ≡ true) (sym e) l))
