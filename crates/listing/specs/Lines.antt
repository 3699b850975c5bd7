-- 01, the read-back program: its lines, as characters. '0' is 48, a blank 32, and each line ends in a line feed, 10.
use Rattle.std.specs.Prelude.{ℕ, ◌+◌, ◌/◌, ◌%◌, List, [], ◌∷◌, ◌++◌, leb}
use Rattle.ground.specs.Choice.{pick}
use Rattle.ground.specs.Words.{high, low}
use Rattle.records.specs.Hex.{hexes}

-- bytes as two digits each, a blank before each
abbrev pub spaced : List ℕ → List ℕ
spaced [] = []
spaced (b ∷ bs) = 32 ∷ (hexes (b ∷ []) ++ spaced bs)

-- `0100 A6 84`: the address of an instruction as four digits, and its bytes
unfoldable pub line_of : ℕ → List ℕ → List ℕ
line_of address bytes = hexes (high address ∷ low address ∷ []) ++ (spaced bytes ++ (10 ∷ []))

-- the digit of a number at the place of that weight, none where it would lead with a zero
unfoldable pub place_of : ℕ → ℕ → List ℕ
place_of weight n = pick (leb weight n) ((48 + n / weight % 10) ∷ []) []

-- a number below 100,000 in decimal digits
unfoldable pub decimal : ℕ → List ℕ
decimal n = place_of 10000 n ++ (place_of 1000 n ++ (place_of 100 n ++ (place_of 10 n ++ ((48 + n % 10) ∷ []))))

-- a word and a number
unfoldable pub last_line : List ℕ → ℕ → List ℕ
last_line word n = word ++ (decimal n ++ (10 ∷ []))

-- `end ` and `refused `
abbrev pub end : List ℕ
end = 101 ∷ 110 ∷ 100 ∷ 32 ∷ []

abbrev pub refused : List ℕ
refused = 114 ∷ 101 ∷ 102 ∷ 117 ∷ 115 ∷ 101 ∷ 100 ∷ 32 ∷ []
