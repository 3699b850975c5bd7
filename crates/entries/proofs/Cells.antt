-- A row that is shorter than a record is read as its cells with zeros after them: each definition reads the same cells of both.
-- Assumes nothing.
use mathlib.Core.Path.{◌≡◌, refl}
use mathlib.Core.List.{List}
use Prim.Native.Nat.{ℕ}
use Rattle.entries.specs.Entries.{byte_in, is_flag, flag_in, is_page_in, page_in, flagged_in, cells_of, registers_in, fields_in, told_in, operand_of, kept_flagged, kept_of, value_in, values_in, all_flagged, entry_of}

pub operand_of_cells : (row : List ℕ) → operand_of (cells_of row) ≡ operand_of row
unfolding cells_of operand_of told_in flagged_in is_flag fields_in registers_in flag_in byte_in
operand_of_cells row = refl

pub kept_of_cells : (row : List ℕ) → kept_of (cells_of row) ≡ kept_of row
unfolding cells_of kept_of told_in kept_flagged flagged_in is_flag fields_in registers_in flag_in byte_in
kept_of_cells row = refl

pub entry_of_cells : (row : List ℕ) → entry_of (cells_of row) ≡ entry_of row
unfolding cells_of entry_of told_in all_flagged flagged_in is_flag is_page_in page_in fields_in registers_in values_in value_in flag_in byte_in
entry_of_cells row = refl
