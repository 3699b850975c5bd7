-- 02 a: what the reasons promise of an accepted build, and the field of a refused one.
use Rattle.std.specs.Prelude.{◌≡◌, Bool, true, false, ◌&&◌, ◌||◌, not, List, ◌⊎◌, Err, IfOk, ℕ, ◌+◌, ◌<◌, eqb}
use Rattle.ground.specs.Choice.{pick}
use Rattle.ground.specs.Refusals.{unknown}
use Rattle.ground.specs.declared.refusals.Refusal.TheVariants.{BranchTooFar}
use Rattle.postbytes.specs.Writing.{near_of}
use Rattle.rows.specs.Forms.{direct, indexed, extended, relative}
use Rattle.rows.specs.Lookup.{has_form_of}
use Rattle.rows.specs.Sizes.{number_size_of}
use Rattle.instruction.specs.declared.Operand.{Operand}
use Rattle.instruction.specs.declared.Record.{Record}
use Rattle.instruction.specs.Names.{mode_offset, mode_pc_relative, mode_extended}
use Rattle.instruction.specs.declared.Built.{Built}
use Rattle.instruction.specs.Building.{fresh_of, told}
use Rattle.why.specs.declared.Field.{Field}
use Rattle.why.specs.declared.Reason.TheVariants.{Address, Branch, PcRelative, Offset}
use Rattle.why.specs.Numbers.{field_number}
use Rattle.why.specs.Fields.{is_right, first_wrong}
use Rattle.why.specs.Reasons.{is_forced, is_page_unknown, is_elsewhere, code_bytes, branch_distance, relative_distance, offset_number, offset_bits, reason_for}
use Rattle.why.specs.Explaining.{answer_of}

-- ---- an address
-- "in Extended mode, not indirect, on a row with Extended"
pub record IsAddress (o : Operand) : Type 0 where
  pub mode : o.mode ≡ mode_extended
  pub straight : o.indirect ≡ false
  pub row : has_form_of o.operation extended ≡ true

-- "at least one is named"
abbrev pub some_named : Record → Bool
some_named r = is_forced r || (is_page_unknown r || is_elsewhere r)

-- "it is proved that the extended form is given exactly when at least one is named": else it is Direct, and one byte shorter; at most one is of the page
pub record AddressTold (r : Record) (address : ℕ) (b : Built) : Type 0 where
  pub reason : reason_for r address ≡ Address (is_forced r) (is_page_unknown r) (is_elsewhere r)
  pub form : b.instruction.form ≡ pick (some_named r) extended direct
  pub length : b.length ≡ code_bytes r.operand.operation (pick (some_named r) extended direct) + pick (some_named r) 2 1
  pub single : (is_page_unknown r && is_elsewhere r) ≡ false

abbrev pub NamesExactly : Type 0
NamesExactly = (r : Record) (address : ℕ) → IsAddress r.operand → IfOk (fresh_of r address) (AddressTold r address)

-- facts are named of such an operand alone
abbrev pub NamesOnly : Type 0
NamesOnly = (r : Record) (address : ℕ) (f u e : Bool) → reason_for r address ≡ Address f u e → IsAddress r.operand

-- ---- a branch
pub record IsBranch (o : Operand) : Type 0 where
  pub mode : o.mode ≡ mode_extended
  pub straight : o.indirect ≡ false
  pub row : has_form_of o.operation relative ≡ true

abbrev pub is_near : Record → ℕ → Bool
is_near r address = near_of (branch_distance r address)

-- the distance decided: a short branch stayed short exactly if it is in range; out of range it was made long, or is 8. A long one has the one form, whatever its distance.
pub record BranchTold (r : Record) (address : ℕ) : Type 0 where
  pub reason : reason_for r address ≡ Branch (branch_distance r address) (is_near r address)
  pub short : IfOk (fresh_of r address) (λ b. number_size_of r.operand.operation relative ≡ 1 → b.instruction.widened ≡ not (is_near r address))
  pub long : IfOk (fresh_of r address) (λ b. number_size_of r.operand.operation relative ≡ 2 → b.instruction.widened ≡ false)
  pub far : fresh_of r address ≡ Err BranchTooFar → (is_near r address ≡ false) × (r.operand.widening ≡ false)

abbrev pub BranchDecided : Type 0
BranchDecided = (r : Record) (address : ℕ) → IsBranch r.operand → BranchTold r address

-- ---- a PCRelative operand: one byte of distance exactly if it is in range
pub record RelativeTold (r : Record) (address : ℕ) (b : Built) : Type 0 where
  pub reason : reason_for r address ≡ PcRelative (relative_distance r address) (near_of (relative_distance r address))
  pub length : b.length ≡ code_bytes r.operand.operation indexed + pick (near_of (relative_distance r address)) 2 3

abbrev pub RelativeDecided : Type 0
RelativeDecided = (r : Record) (address : ℕ) → r.operand.mode ≡ mode_pc_relative → IfOk (fresh_of r address) (RelativeTold r address)

-- ---- an offset
-- the bytes after the postbyte: none for zero and for five bits
unfoldable pub bytes_for : ℕ → ℕ
bytes_for bits = pick (eqb bits 16) 2 (pick (eqb bits 8) 1 0)

pub record OffsetTold (r : Record) (address : ℕ) (b : Built) : Type 0 where
  pub reason : reason_for r address ≡ Offset (offset_number r.values) (offset_bits r.operand r.values)
  pub length : b.length ≡ code_bytes r.operand.operation indexed + 1 + bytes_for (offset_bits r.operand r.values)
  pub bits : (offset_bits r.operand r.values ≡ 0) ⊎ ((offset_bits r.operand r.values ≡ 5) ⊎ ((offset_bits r.operand r.values ≡ 8) ⊎ (offset_bits r.operand r.values ≡ 16)))

abbrev pub OffsetHeld : Type 0
OffsetHeld = (r : Record) (address : ℕ) → r.operand.mode ≡ mode_offset → IfOk (fresh_of r address) (OffsetTold r address)

-- ---- refusal 1
-- it comes exactly if a field is wrong
abbrev pub OneExactly : Type 0
OneExactly =
    (row : List ℕ) (address : ℕ) →
    (told (answer_of row address) ≡ unknown → is_right (first_wrong row) row ≡ false)
    × ((field : Field) → is_right field row ≡ false → told (answer_of row address) ≡ unknown)

-- and no field before the one that is named is at fault
abbrev pub FirstNamed : Type 0
FirstNamed = (row : List ℕ) (field : Field) → field_number field < field_number (first_wrong row) → is_right field row ≡ true
