-- What is wrong with the field that is named of a refused row: 1 asks it to be right, and every other refusal blames it for something of its own.
-- Assumes nothing.
use mathlib.Core.Path.{◌≡◌, refl, sym, ap, subst}
use mathlib.Core.Bool.{Bool, true, false}
use mathlib.Core.List.{List}
use mathlib.Core.Logic.{◌⊎◌, inl, inr}
use Prim.Native.Nat.{ℕ}
use Rattle.ground.specs.Choice.{pick}
use Rattle.ground.proofs.Choices.{by_test}
use Rattle.values.specs.Pages.{is_unknown}
use Rattle.instruction.specs.declared.Operand.{Operand}
use Rattle.instruction.specs.declared.Record.{Record}
use Rattle.instruction.specs.Forms.{lacks}
use Rattle.instruction.specs.Building.{told}
use Rattle.entries.specs.Entries.{flag_in, page_in, fields_in, values_in, entry_of}
use Rattle.why.specs.declared.Field.{Field}
use Rattle.why.specs.declared.Field.TheVariants.{Operation, Mode, Indirect, Forced, Step, Widening, Registers, Page, Values}
use Rattle.why.specs.Fields.{is_right, page_or_values, field_of}
use Rattle.why.specs.Explaining.{answer_of}
use Rattle.why.specs.Mending.{named_of}
use Rattle.why.proofs.Causes.{asked_of, Missing, bad_registers, BadWidth, Beyond, Cause, accepted, lacking, missing, misnamed, indirect, misfit, beyond, far, cause}
use Rattle.why.proofs.Wrong.{is_whole, whole_told, broken_one, one_exactly}

-- the record of a row's cells as they stand: the row's own, unless 1 comes of a flag or of the page
abbrev pub plain_of : List ℕ → Record
plain_of row = record { operand = fields_in row; page = page_in row 15; values = values_in row }

pub entry_plain : (row : List ℕ) → is_whole row ≡ true → entry_of row ≡ plain_of row
unfolding entry_of
entry_plain row w = ap {B = Record} (λ (o : Operand). record { operand = o; page = page_in row 15; values = values_in row }) (whole_told row w)

pub row_cause : (row : List ℕ) (address : ℕ) → is_whole row ≡ true → Cause (plain_of row) (told (answer_of row address))
unfolding entry_of
row_cause row address w = subst (λ (r : Record). Cause r (told (answer_of row address))) (entry_plain row w) (cause (entry_of row) address w)

-- what the refusals but 1 blame each field for: 2 the mode, 5 indirect, 8 widening, 4 the registers, 7 the page or the values, 3 and 6 the values
abbrev pub Blamed : Field → List ℕ → Type 0
Blamed Operation row = ⊥
Blamed Mode row = lacks (fields_in row) (asked_of (plain_of row)) ≡ true
Blamed Indirect row = flag_in row 2 ≡ true
Blamed Forced row = ⊥
Blamed Step row = ⊥
Blamed Widening row = flag_in row 5 ≡ false
Blamed Registers row = bad_registers (fields_in row) ≡ true
Blamed Page row = is_unknown (page_in row 15) ≡ true
Blamed Values row = Missing (plain_of row) ⊎ (BadWidth (plain_of row) ⊎ (Beyond (plain_of row) × (is_unknown (page_in row 15) ≡ false)))

abbrev pub Faulty : Field → List ℕ → Type 0
Faulty field row = (is_right field row ≡ false) ⊎ Blamed field row

caused_faulty : (row : List ℕ) {n : ℕ} → Cause (plain_of row) n → (n ≡ 0 → ⊥) → Faulty (field_of row n) row
unfolding fields_in field_of page_or_values pick
caused_faulty row (accepted e) z = absurd (z e)
caused_faulty row (lacking e l) z = rw e (inr l)
caused_faulty row (missing e m) z = rw e (inr (inl m))
caused_faulty row (misnamed e b) z = rw e (inr b)
caused_faulty row (indirect e i) z = rw e (inr i)
caused_faulty row (misfit e b) z = rw e (inr (inr (inl b)))
caused_faulty row (beyond e b) z =
    rw e (by_test (λ (f : Field). Faulty f row) (is_unknown (page_in row 15)) (λ u. inr u) (λ k. inr (inr (inr (b, k)))))
caused_faulty row (far e w) z = rw e (inr w)

pub named_faulty : (row : List ℕ) (address : ℕ) → ((told (answer_of row address)) ≡ 0 → ⊥) → Faulty (named_of row address) row
unfolding field_of pick
named_faulty row address refused = go (is_whole row) refl
  where
    go : (t : Bool) → is_whole row ≡ t → Faulty (named_of row address) row
    go true w = caused_faulty row (row_cause row address w) refused
    go false w =
        let one = broken_one row address w in
        subst (λ (n : ℕ). Faulty (field_of row n) row) (sym one) (inl ((one_exactly row address).0 one))
