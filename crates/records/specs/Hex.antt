-- Intel's text is in hexadecimal: "two hexadecimal digits to the byte"; 01: "upper-case".
use Rattle.std.specs.Prelude.{ℕ, ◌+◌, ◌/◌, ◌%◌, List, [], ◌∷◌, ltb}
use Rattle.ground.specs.Choice.{pick}

-- the character of a digit: '0' is 48 and 'A' is 65
unfoldable pub hex_of : ℕ → ℕ
hex_of n = pick (ltb n 10) (48 + n) (55 + n)

-- the digits of bytes, two to the byte, the high one first
abbrev pub hexes : List ℕ → List ℕ
hexes [] = []
hexes (b ∷ bs) = hex_of (b / 16) ∷ hex_of (b % 16) ∷ hexes bs
