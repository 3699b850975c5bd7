-- What an operand that was read from a row has, whatever the row's flags are; and the order of the fields.
-- Assumes nothing.
use mathlib.Core.Path.{◌≡◌, refl}
use mathlib.Core.Bool.{Bool}
use mathlib.Core.List.{List}
use Prim.Native.Nat.{ℕ}
use Rattle.ground.specs.Choice.{pick}
use Rattle.ground.specs.Refusals.{number_of}
use Rattle.ground.specs.declared.refusals.Refusal.{Refusal}
use Rattle.ground.specs.declared.refusals.Refusal.TheVariants.{Unknown, NoSuchMode, ValueMissing, BadRegister, SingleStepIndirect, BadWidth, DirectNotAllowed, BranchTooFar, NoRoom, BadLabel, TooDeep, SegmentRepeated, NotSettled, Undefined, CutShort, BrokenText, OverLimit, Beyond}
use Rattle.ground.proofs.Choices.{by_pick}
use Rattle.postbytes.specs.Lists.{strange_list}
use Rattle.instruction.specs.declared.Operand.{Operand}
use Rattle.instruction.specs.Records.{stepped}
use Rattle.entries.specs.Entries.{byte_in, flagged_in, registers_in, fields_in, told_in, operand_of}
use Rattle.why.specs.declared.Field.{Field}
use Rattle.why.specs.declared.Field.TheVariants.{Values}
use Rattle.why.specs.Fields.{if_wrong, field_of}

pub step_told : (row : List ℕ) {o : Operand} → o ≡ operand_of row → stepped o ≡ stepped (fields_in row)
unfolding operand_of told_in stepped
step_told row e = rw e (by_pick (λ (o : Operand). stepped o ≡ stepped (fields_in row)) (flagged_in row) refl refl)

pub registers_told : (row : List ℕ) {o : Operand} → o ≡ operand_of row → strange_list o.registers o.count ≡ strange_list (registers_in row) (byte_in row 6)
unfolding operand_of told_in fields_in
registers_told row e =
    rw e (by_pick (λ (o : Operand). strange_list o.registers o.count ≡ strange_list (registers_in row) (byte_in row 6)) (flagged_in row) refl refl)

-- one field of the order, by what is known of its test and of the fields after it
pub by : (field : Field) {right test : Bool} {r later rest : Field} → r ≡ if_wrong right field later → right ≡ test → later ≡ rest → r ≡ if_wrong test field rest
by field e t l = cc

-- the refusals that blame the values
pub values_blamed :
    (row : List ℕ) (n : Refusal) →
    (n ≡ Unknown → ⊥) → (n ≡ NoSuchMode → ⊥) → (n ≡ BadRegister → ⊥) → (n ≡ SingleStepIndirect → ⊥) → (n ≡ DirectNotAllowed → ⊥) → (n ≡ BranchTooFar → ⊥) →
    field_of row (number_of n) ≡ Values
unfolding field_of pick
values_blamed row Unknown a b c d e f = absurd (a refl)
values_blamed row NoSuchMode a b c d e f = absurd (b refl)
values_blamed row ValueMissing a b c d e f = refl
values_blamed row BadRegister a b c d e f = absurd (c refl)
values_blamed row SingleStepIndirect a b c d e f = absurd (d refl)
values_blamed row BadWidth a b c d e f = refl
values_blamed row DirectNotAllowed a b c d e f = absurd (e refl)
values_blamed row BranchTooFar a b c d e f = absurd (f refl)
values_blamed row NoRoom a b c d e f = refl
values_blamed row BadLabel a b c d e f = refl
values_blamed row TooDeep a b c d e f = refl
values_blamed row SegmentRepeated a b c d e f = refl
values_blamed row NotSettled a b c d e f = refl
values_blamed row Undefined a b c d e f = refl
values_blamed row CutShort a b c d e f = refl
values_blamed row BrokenText a b c d e f = refl
values_blamed row OverLimit a b c d e f = refl
values_blamed row Beyond a b c d e f = refl
