-- A line of Intel's format: "`:` count address type data check, all but the colon as two hexadecimal digits to the byte, the address high byte first".
use Rattle.std.specs.Prelude.{ℕ, ◌+◌, ◌-◌, ◌%◌, List, [], ◌∷◌, ◌++◌, length}
use Rattle.ground.specs.Words.{high, low}
use Rattle.records.specs.Hex.{hexes}

abbrev pub sum : List ℕ → ℕ
sum [] = 0
sum (b ∷ bs) = b + sum bs

-- "the two's complement of the sum of all bytes from the count to the last data byte, modulo 256"
unfoldable pub check_of : List ℕ → ℕ
check_of bs = (256 - sum bs % 256) % 256

-- count, address, type, data
unfoldable pub body : ℕ → ℕ → List ℕ → List ℕ
body kind address bytes = length bytes ∷ high address ∷ low address ∷ kind ∷ bytes

-- the colon (58), the digits of all bytes and of their check, and 01's line feed (10)
unfoldable pub line : ℕ → ℕ → List ℕ → List ℕ
line kind address bytes = 58 ∷ hexes (body kind address bytes ++ (check_of (body kind address bytes) ∷ [])) ++ (10 ∷ [])
