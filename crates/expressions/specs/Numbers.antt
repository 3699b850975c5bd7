-- What the lent tables hold, where a statement asks it of them: numbers of 16 bits.
use Rattle.std.specs.Prelude.{List, ℕ, ◌<◌, get_or}

-- every number of a table is a Q
abbrev pub Cells : (ℕ → Type 0) → List ℕ → Type 0
Cells Q l = (k : ℕ) → Q (get_or l k 0)

-- a number of 16 bits
abbrev pub Short : ℕ → Type 0
Short n = n < 65536
