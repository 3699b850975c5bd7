-- Twins of a text that must read alike: "either case, LF or CR LF".
use Rattle.std.specs.Prelude.{ℕ, ◌+◌, ◌&&◌, List, [], ◌∷◌, leb, eqb}
use Rattle.ground.specs.Choice.{pick}

-- an upper-case digit ('A' is 65, 'F' 70) in lower case ('a' is 97)
unfoldable pub lower : ℕ → ℕ
lower c = pick (leb 65 c && leb c 70) (c + 32) c

-- a carriage return (13) before each line feed (10)
abbrev pub crlf : List ℕ → List ℕ
crlf [] = []
crlf (c ∷ s) = pick (eqb c 10) (13 ∷ 10 ∷ crlf s) (c ∷ crlf s)
