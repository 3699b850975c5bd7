-- The forms of opcode rows, as docs/ROWS.md numbers them.
use Rattle.std.specs.Prelude.{ℕ}

abbrev pub inherent : ℕ
inherent = 0

abbrev pub immediate : ℕ
immediate = 1

abbrev pub direct : ℕ
direct = 2

abbrev pub indexed : ℕ
indexed = 3

abbrev pub extended : ℕ
extended = 4

abbrev pub relative : ℕ
relative = 5

abbrev pub register : ℕ
register = 6
