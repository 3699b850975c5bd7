-- Intel's text is in hexadecimal, "two hexadecimal digits to the byte"; 01: "either case".
use Rattle.std.specs.Prelude.{ℕ, ◌+◌, ◌-◌, ◌*◌, ◌&&◌, List, [], ◌∷◌, length, drop, ltb, leb, Option, Some, None}
use Rattle.ground.specs.Choice.{pick}

-- the value of a digit, where '0' is 48, 'A' is 65 and 'a' is 97; 16 where it is none
unfoldable pub digit_of : ℕ → ℕ
digit_of c =
    pick
    (leb 48 c && leb c 57)
    (c - 48)
    (pick (leb 65 c && leb c 70) (c - 55) (pick (leb 97 c && leb c 102) (c - 87) 16))

-- the byte of two digits, the high one first, where both are digits
unfoldable pub pair_of : ℕ → ℕ → Option ℕ
pair_of h l = pick (ltb (digit_of h) 16 && ltb (digit_of l) 16) (Some (16 * digit_of h + digit_of l)) None

-- the bytes that the pairs of digits at the front of a text are; what is no pair ends them
abbrev pub led_by : Option ℕ → List ℕ → List ℕ
led_by (Some b) bs = b ∷ bs
led_by None bs = []

abbrev pub bytes_in : List ℕ → List ℕ
bytes_in [] = []
bytes_in (h ∷ []) = []
bytes_in (h ∷ l ∷ s) = led_by (pair_of h l) (bytes_in s)

-- the text behind them
unfoldable pub behind : List ℕ → List ℕ
behind s = drop (2 * length (bytes_in s)) s
