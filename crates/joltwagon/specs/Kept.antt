-- A kept instruction as a row of 18 cells, and what a build takes anew as one of 6 (docs/ROWS.md).
use Rattle.std.specs.Prelude.{ℕ, Bool, ◌&&◌, List, [], ◌∷◌, leb, length, get_or}
use Rattle.answers.specs.Sizes.{flag_cell}
use Rattle.instruction.specs.declared.Values.{Values}
use Rattle.instruction.specs.declared.Instruction.{Instruction}
use Rattle.entries.specs.Entries.{is_flag, flag_in, is_page_in, value_in}

-- ---- the kept instruction
-- the row is long enough; a flag of it that is neither 0 nor 1 is unknown in what `kept_of` reads
unfoldable pub is_kept : List ℕ → Bool
is_kept row = leb 18 (length row)

-- the row that `kept_of` reads, handed out
unfoldable pub kept_cells : Instruction → List ℕ
kept_cells i =
    i.operand.operation
    ∷ i.operand.mode
    ∷ flag_cell i.operand.indirect
    ∷ flag_cell i.operand.forced
    ∷ i.operand.step
    ∷ flag_cell i.operand.widening
    ∷ i.operand.count
    ∷ get_or i.operand.registers 0 0
    ∷ get_or i.operand.registers 1 0
    ∷ get_or i.operand.registers 2 0
    ∷ get_or i.operand.registers 3 0
    ∷ get_or i.operand.registers 4 0
    ∷ get_or i.operand.registers 5 0
    ∷ get_or i.operand.registers 6 0
    ∷ get_or i.operand.registers 7 0
    ∷ i.form
    ∷ flag_cell i.trial
    ∷ flag_cell i.widened
    ∷ []

-- ---- what a build takes anew: the page, and the values
-- the row is long enough, its first cell is a page, and its flag is 0 or 1
unfoldable pub is_present : List ℕ → Bool
is_present row = leb 6 (length row) && (is_page_in row 0 && is_flag row 1)

unfoldable pub present_of : List ℕ → Values
present_of row = record { given = flag_in row 1; unsigned = value_in row 2; signed = value_in row 4 }
