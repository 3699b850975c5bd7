-- What a text says, line by line: "`:` count address type data check, all but the colon as two hexadecimal digits to the byte, the address high byte first".
use Rattle.std.specs.Prelude.{ℕ, zero, suc, ◌+◌, ◌%◌, Bool, ◌&&◌, ◌||◌, List, [], ◌∷◌, length, get_or, take, drop, ltb, eqb}
use Rattle.ground.specs.Choice.{pick}
use Rattle.ground.specs.Words.{word}
use Rattle.records.specs.Line.{sum}
use Rattle.records.specs.Text.{Rec}
use Rattle.reader.specs.Digits.{bytes_in, behind}

-- the parts of a line's bytes: one of count, two of address, one of type, the data
unfoldable pub count_of : List ℕ → ℕ
count_of bs = get_or bs 0 0

unfoldable pub address_of : List ℕ → ℕ
address_of bs = word (get_or bs 1 0) (get_or bs 2 0)

unfoldable pub type_of : List ℕ → ℕ
type_of bs = get_or bs 3 0

unfoldable pub data_of : List ℕ → List ℕ
data_of bs = take (count_of bs) (drop 4 bs)

-- the data is as long as the count says, and "all bytes with the check add up to 0 modulo 256"
unfoldable pub sound : List ℕ → Bool
sound bs = eqb (length bs) (count_of bs + 5) && eqb (sum bs % 256) 0

-- a line ends in LF (10), in CR LF (13, 10), or with the text: "only the last line end may be missing"
unfoldable pub ends_line : List ℕ → Bool
ends_line s = eqb (length s) 0 || (eqb (get_or s 0 0) 10 || (eqb (get_or s 0 0) 13 && eqb (get_or s 1 0) 10))

-- the text after the line end
unfoldable pub after_end : List ℕ → List ℕ
after_end s = drop (pick (eqb (get_or s 0 0) 13) 2 1) s

-- what stands at the front of a text: a data record and the text after its line, the end record with nothing after it, or no such line
pub data Front : Type 0 where
  Record : Rec → List ℕ → Front
  EndRecord : Front
  NoRecord : Front

-- "types 00 and 01, 1 to 255 data bytes, .. and nothing after the end record, which must be there with address 0"
unfoldable pub record_of : List ℕ → List ℕ → Front
record_of bs after =
    pick
    (eqb (type_of bs) 0 && ltb 0 (count_of bs))
    (Record (record { address = address_of bs; bytes = data_of bs }) after)
    (pick (eqb (type_of bs) 1 && (eqb (count_of bs + address_of bs) 0 && eqb (length after) 0)) EndRecord NoRecord)

-- the line at the front of a text: the colon (58), the bytes of its digits, its end
unfoldable pub line_in : List ℕ → Front
line_in [] = NoRecord
line_in (c ∷ s) =
    pick
    (eqb c 58 && (sound (bytes_in s) && ends_line (behind s)))
    (record_of (bytes_in s) (after_end (behind s)))
    NoRecord

-- what a text holds: its data records, or it is broken
pub data Found : Type 0 where
  Good : List Rec → Found
  Bad : Found

abbrev pub more : Rec → Found → Found
more r (Good rs) = Good (r ∷ rs)
more r Bad = Bad

abbrev pub found : Front → (List ℕ → Found) → Found
found (Record r after) rest = more r (rest after)
found EndRecord rest = Good []
found NoRecord rest = Bad

-- the records of at most n lines
abbrev pub records_from : ℕ → List ℕ → Found
records_from zero s = Bad
records_from (suc n) s = found (line_in s) (records_from n)

-- the records of a text, which has no more lines than characters
unfoldable pub records_in : List ℕ → Found
records_in s = records_from (length s) s
