-- Parser modes, and rows of register lists, by number (docs/ROWS.md).
use Rattle.std.specs.Prelude.{ℕ}

abbrev pub mode_register : ℕ
mode_register = 0

abbrev pub mode_offset : ℕ
mode_offset = 1

abbrev pub mode_pc_relative : ℕ
mode_pc_relative = 2

abbrev pub mode_inc_dec : ℕ
mode_inc_dec = 3

abbrev pub mode_extended : ℕ
mode_extended = 4

abbrev pub mode_direct : ℕ
mode_direct = 5

abbrev pub mode_immediate : ℕ
mode_immediate = 6

abbrev pub mode_inherent : ℕ
mode_inherent = 7

abbrev pub exg : ℕ
exg = 136

abbrev pub tfr : ℕ
tfr = 137

abbrev pub pshs : ℕ
pshs = 138

abbrev pub puls : ℕ
puls = 139

abbrev pub pulu : ℕ
pulu = 141
