-- Rows of numbers (docs/ROWS.md): an operand record is 15 of the operand, then the page, values given, and the two values; a kept instruction is the 15, then its
-- form and its two marks. What lies past a row's end is 0.
use Rattle.std.specs.Prelude.{ℕ, zero, suc, ◌+◌, Bool, ◌&&◌, List, [], ◌∷◌, eqb, ltb, leb, get_or}
use Rattle.ground.specs.Choice.{pick}
use Rattle.values.specs.declared.Value.{Value}
use Rattle.values.specs.declared.pages.Page.{Page}
use Rattle.values.specs.Pages.{is_page, page_numbered}
use Rattle.instruction.specs.declared.Operand.{Operand}
use Rattle.instruction.specs.declared.Values.{Values}
use Rattle.instruction.specs.declared.Record.{Record}
use Rattle.instruction.specs.declared.Instruction.{Instruction}
use Rattle.instruction.specs.Records.{with_operation}

-- a number of 8 bits that is unknown as an operation, a mode, a register, a step and a width, and "over 8 registers" as a count
abbrev pub nowhere : ℕ
nowhere = 255

-- ---- a cell
-- a number of 8 bits in a cell of 16; one that does not fit is unknown
unfoldable pub byte_in : List ℕ → ℕ → ℕ
byte_in row at = pick (ltb (get_or row at 0) 256) (get_or row at 0) nowhere

-- a cell that is a flag holds 0 or 1, and 1 is set
unfoldable pub is_flag : List ℕ → ℕ → Bool
is_flag row at = leb (get_or row at 0) 1

unfoldable pub flag_in : List ℕ → ℕ → Bool
flag_in row at = eqb (get_or row at 0) 1

-- a cell that is a page holds its number: 0 to 255, and 256 for unknown
unfoldable pub is_page_in : List ℕ → ℕ → Bool
is_page_in row at = is_page (get_or row at 0)

unfoldable pub page_in : List ℕ → ℕ → Page
page_in row at = page_numbered (get_or row at 0)

-- the cells of a row, from a place on
abbrev pub cells_from : List ℕ → ℕ → ℕ → List ℕ
cells_from row at zero = []
cells_from row at (suc n) = get_or row at 0 ∷ cells_from row (at + 1) n

-- those of a record, zeros past the row's end
unfoldable pub cells_of : List ℕ → List ℕ
cells_of row = cells_from row 0 21

-- ---- the operand
-- each of its flags is one: indirect, forced, widening allowed
unfoldable pub flagged_in : List ℕ → Bool
flagged_in row = is_flag row 2 && (is_flag row 3 && is_flag row 5)

unfoldable pub registers_in : List ℕ → List ℕ
registers_in row =
    byte_in row 7
    ∷ byte_in row 8
    ∷ byte_in row 9
    ∷ byte_in row 10
    ∷ byte_in row 11
    ∷ byte_in row 12
    ∷ byte_in row 13
    ∷ byte_in row 14
    ∷ []

-- what its cells hold
unfoldable pub fields_in : List ℕ → Operand
fields_in row = record {
  operation = byte_in row 0;
  mode = byte_in row 1;
  indirect = flag_in row 2;
  forced = flag_in row 3;
  registers = registers_in row;
  count = byte_in row 6;
  step = byte_in row 4;
  widening = flag_in row 5;
}

-- an operand of no known operation
abbrev pub unknown_as : Operand → Operand
unknown_as o = with_operation nowhere o

-- "field number unknown": the operand of a row with a flag that is neither 0 nor 1 is one of no known operation
unfoldable pub told_in : Bool → List ℕ → Operand
told_in flags row = pick flags (fields_in row) (unknown_as (fields_in row))

unfoldable pub operand_of : List ℕ → Operand
operand_of row = told_in (flagged_in row) row

-- ---- the kept instruction: its operand, its form, its trial mark and its widening
-- the two marks are flags too
unfoldable pub kept_flagged : List ℕ → Bool
kept_flagged row = is_flag row 16 && (is_flag row 17 && flagged_in row)

unfoldable pub kept_of : List ℕ → Instruction
kept_of row =
    record { operand = told_in (kept_flagged row) row; form = byte_in row 15; trial = flag_in row 16; widened = flag_in row 17 }

-- ---- the record
-- a number and its width
unfoldable pub value_in : List ℕ → ℕ → Value
value_in row at = record { number = get_or row at 0; width = byte_in row (at + 1) }

unfoldable pub values_in : List ℕ → Values
values_in row = record { given = flag_in row 16; unsigned = value_in row 17; signed = value_in row 19 }

-- the page is one, and values given is a flag too
unfoldable pub all_flagged : List ℕ → Bool
all_flagged row = flagged_in row && (is_page_in row 15 && is_flag row 16)

unfoldable pub entry_of : List ℕ → Record
entry_of row = record { operand = told_in (all_flagged row) row; page = page_in row 15; values = values_in row }
