-- The number of a field, and a number and values for each case of a reason (docs/ROWS.md).
use Rattle.std.specs.Prelude.{ℕ, Bool, false}
use Rattle.why.specs.declared.Field.{Field}
use Rattle.why.specs.declared.Field.TheVariants.{Operation, Mode, Indirect, Forced, Step, Widening, Registers, Page, Values}
use Rattle.why.specs.declared.Reason.{Reason}
use Rattle.why.specs.declared.Reason.TheVariants.{Plain, Address, Branch, PcRelative, Offset, Refused}
use Rattle.why.specs.declared.Parts.{Parts}

-- in the order of the row; 0 is no field
abbrev pub field_number : Field → ℕ
field_number Operation = 1
field_number Mode = 2
field_number Indirect = 3
field_number Forced = 4
field_number Step = 5
field_number Widening = 6
field_number Registers = 7
field_number Page = 8
field_number Values = 9

abbrev pub parts : ℕ → Bool → Bool → Bool → ℕ → Bool → ℕ → ℕ → Parts
parts kind forced unknown elsewhere number near bits field = record {
  kind = kind;
  forced = forced;
  unknown = unknown;
  elsewhere = elsewhere;
  number = number;
  near = near;
  bits = bits;
  field = field;
}

abbrev pub parts_of : Reason → Parts
parts_of Plain = parts 0 false false false 0 false 0 0
parts_of (Address forced unknown elsewhere) = parts 1 forced unknown elsewhere 0 false 0 0
parts_of (Branch distance near) = parts 2 false false false distance near 0 0
parts_of (PcRelative distance near) = parts 3 false false false distance near 0 0
parts_of (Offset number bits) = parts 4 false false false number false bits 0
parts_of (Refused field) = parts 5 false false false 0 false 0 (field_number field)
