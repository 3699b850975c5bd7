-- Refusal 1 comes exactly if a field is wrong, and the field that is named is then the first of them.
-- Assumes nothing.
use mathlib.Core.Path.{◌≡◌, refl, sym, ap, ◌∙◌, subst}
use mathlib.Core.Bool.{Bool, true, false, ◌&&◌, not, false≢true}
use mathlib.Core.List.{List}
use mathlib.Core.Logic.{◌⊎◌, inl, inr, ⊎_elim}
use Prim.Native.Nat.{ℕ, ◌+◌, ◌<◌}
use native.Mathlib.Nat.{eq-or-lt_of_le}
use native.Mathlib.Omega.{arith}
use lib.Dec.{eqb, ltb}
use Rattle.ground.specs.Choice.{pick}
use Rattle.ground.specs.Refusals.{unknown}
use Rattle.ground.proofs.Choices.{by_test}
use Rattle.ground.proofs.Tests.{both_first, both_second}
use Rattle.rows.specs.Lookup.{known_of}
use Rattle.postbytes.specs.Lists.{strange_list}
use Rattle.instruction.specs.Records.{stepped, recognised, lawful}
use Rattle.instruction.specs.Building.{make_of, fresh_of, told}
use Rattle.entries.specs.Entries.{byte_in, is_flag, is_page_in, flagged_in, registers_in, fields_in, told_in, values_in, all_flagged, entry_of}
use Rattle.entries.proofs.Unknown.{unrecognised}
use Rattle.why.specs.declared.Field.{Field}
use Rattle.why.specs.declared.Field.TheVariants.{Operation, Mode, Indirect, Forced, Step, Widening, Registers, Page, Values}
use Rattle.why.specs.Numbers.{field_number}
use Rattle.why.specs.Fields.{is_right, if_wrong, first_wrong}
use Rattle.why.specs.Explaining.{answer_of}
use Rattle.why.specs.Exactly.{OneExactly, FirstNamed}
use Rattle.why.proofs.Causes.{cause, not_one}

-- ---- the order of the fields
-- the field of a number
abbrev field_at : ℕ → Field
field_at n =
    pick (eqb n 1) Operation
    (pick (eqb n 2) Mode
    (pick (eqb n 3) Indirect
    (pick (eqb n 4) Forced
    (pick (eqb n 5) Step
    (pick (eqb n 6) Widening
    (pick (eqb n 7) Registers
    (pick (eqb n 8) Page Values)))))))

at_number : (field : Field) → field_at (field_number field) ≡ field
unfolding pick
at_number Operation = refl
at_number Mode = refl
at_number Indirect = refl
at_number Forced = refl
at_number Step = refl
at_number Widening = refl
at_number Registers = refl
at_number Page = refl
at_number Values = refl

module _ (row : List ℕ) where
  -- the fields below a number are right
  abbrev Before : ℕ → Type 0
  Before n = (field : Field) → field_number field < n → is_right field row ≡ true

  -- no field is below the first
  none_before : Before 1
  unfolding pick
  none_before field h =
      let z : field_number field ≡ 0 = omega arith in
      let last : Values ≡ field = ap field_at (sym z) ∙ at_number field in
      absurd (omega (arith, ap field_number last))

  one_more : (field : Field) → Before (field_number field) → is_right field row ≡ true → Before (field_number field + 1)
  one_more field b r other h =
      ⊎_elim
      (λ (e : field_number other ≡ field_number field).
      subst (λ (f : Field). is_right f row ≡ true) (sym (at_number field) ∙ ap field_at (sym e) ∙ at_number other) r)
      (λ (l : field_number other < field_number field). b other l)
      (eq-or-lt_of_le (omega arith))

  -- a field that is named: none before it is wrong, and it is, unless it is the last
  record FirstAt (field : Field) : Type 0 where
    before : Before (field_number field)
    wrong : (is_right field row ≡ false) ⊎ (field ≡ Values)

  first_at : FirstAt (first_wrong row)
  unfolding first_wrong if_wrong
  first_at =
      step Operation none_before
      (λ a. step Mode a
      (λ b. step Indirect b
      (λ c. step Forced c
      (λ d. step Step d
      (λ e. step Widening e
      (λ f. step Registers f
      (λ g. step Page g
      (λ h. record { before = h; wrong = inr refl }))))))))
    where
      step :
          (field : Field) {later : Field} → Before (field_number field) → (Before (field_number field + 1) → FirstAt later) → FirstAt (pick (is_right field row) later field)
      step field b next =
          by_test FirstAt (is_right field row) (λ r. next (one_more field b r)) (λ w. record { before = b; wrong = inl w })

pub first_named : FirstNamed
first_named row = (first_at row).before

-- ---- what 1 asks of a row
-- that its operand is recognised and its values are lawful
abbrev pub is_whole : List ℕ → Bool
is_whole row = recognised (entry_of row).operand && lawful (values_in row)

module _ (row : List ℕ) where
  -- a row with a flag that is none, or with a page that is none, has an operand that is not recognised
  whole_flagged : is_whole row ≡ true → all_flagged row ≡ true
  unfolding entry_of
  whole_flagged = go (all_flagged row) refl
    where
      go : (t : Bool) → all_flagged row ≡ t → is_whole row ≡ true → all_flagged row ≡ true
      go true q w = q
      go false q w = absurd (false≢true (rw (q, unrecognised row) at w))

  pub whole_told : is_whole row ≡ true → (entry_of row).operand ≡ fields_in row
  unfolding entry_of told_in pick
  whole_told w = rw (whole_flagged w)

  -- where it is whole, every field is right
  pub whole_right : is_whole row ≡ true → (field : Field) → is_right field row ≡ true
  unfolding recognised fields_in all_flagged flagged_in
  whole_right w = from
    where
      known : Bool
      known = known_of (byte_in row 0)

      mode : Bool
      mode = ltb (byte_in row 1) 8

      named : Bool
      named = not (strange_list (registers_in row) (byte_in row 6))

      step : Bool
      step = stepped (fields_in row)

      flags : all_flagged row ≡ true
      flags = whole_flagged w

      operand : (known && (mode && (named && step))) ≡ true
      operand = rw (whole_told w) at (both_first (recognised (entry_of row).operand) (lawful (values_in row)) w)

      three : (is_flag row 2 && (is_flag row 3 && is_flag row 5)) ≡ true
      three = both_first (flagged_in row) (is_page_in row 15 && is_flag row 16) flags

      two : (is_page_in row 15 && is_flag row 16) ≡ true
      two = both_second (flagged_in row) (is_page_in row 15 && is_flag row 16) flags

      from : (field : Field) → is_right field row ≡ true
      from Operation = both_first known (mode && (named && step)) operand
      from Mode = both_first mode (named && step) (both_second known (mode && (named && step)) operand)
      from Indirect = both_first (is_flag row 2) (is_flag row 3 && is_flag row 5) three
      from Forced = both_first (is_flag row 3) (is_flag row 5) (both_second (is_flag row 2) (is_flag row 3 && is_flag row 5) three)
      from Step = both_second named step (both_second mode (named && step) (both_second known (mode && (named && step)) operand))
      from Widening = both_second (is_flag row 3) (is_flag row 5) (both_second (is_flag row 2) (is_flag row 3 && is_flag row 5) three)
      from Registers = both_first named step (both_second mode (named && step) (both_second known (mode && (named && step)) operand))
      from Page = both_first (is_page_in row 15) (is_flag row 16) two
      from Values =
          rw (both_second (is_page_in row 15) (is_flag row 16) two) (both_second (recognised (entry_of row).operand) (lawful (values_in row)) w)

  -- and the other way round
  right_whole : Before row 10 → is_whole row ≡ true
  unfolding entry_of told_in pick recognised fields_in all_flagged flagged_in
  right_whole b =
      let values = b Values (omega arith) in
      rw (b Indirect (omega arith), b Forced (omega arith), b Widening (omega arith), b Page (omega arith), both_first (is_flag row 16) (lawful (values_in row)) values)
      (rw (b Operation (omega arith), b Mode (omega arith), b Registers (omega arith), b Step (omega arith))
      (both_second (is_flag row 16) (lawful (values_in row)) values))

  module _ (address : ℕ) where
    pub broken_one : is_whole row ≡ false → (told (answer_of row address)) ≡ unknown
    unfolding entry_of fresh_of make_of pick
    broken_one w = rw w

    whole_other : is_whole row ≡ true → (told (answer_of row address)) ≡ unknown → ⊥
    unfolding entry_of
    whole_other w = not_one (cause (entry_of row) address w)

    one_wrong : (told (answer_of row address)) ≡ unknown → is_right (first_wrong row) row ≡ false
    one_wrong one = ⊎_elim (λ w. w) (λ last. go last (is_right (first_wrong row) row) refl) (first_at row).wrong
      where
        go : first_wrong row ≡ Values → (t : Bool) → is_right (first_wrong row) row ≡ t → is_right (first_wrong row) row ≡ false
        go last false q = q
        go last true q =
            absurd (whole_other (right_whole (subst (λ (f : Field). Before row (field_number f + 1)) last (one_more row (first_wrong row) (first_at row).before q))) one)

    wrong_one : (field : Field) → is_right field row ≡ false → (told (answer_of row address)) ≡ unknown
    wrong_one field wrong = go (is_whole row) refl
      where
        go : (t : Bool) → is_whole row ≡ t → (told (answer_of row address)) ≡ unknown
        go true w = absurd (false≢true (sym wrong ∙ whole_right w field))
        go false w = broken_one w

pub one_exactly : OneExactly
one_exactly row address = (one_wrong row address, wrong_one row address)
