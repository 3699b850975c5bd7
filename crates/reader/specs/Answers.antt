-- What the reader answers, and what it hands out.
use Rattle.std.specs.Prelude.{◌≡◌, ℕ, ◌+◌, ◌-◌, ◌/◌, Bool, false, ◌||◌, List, [], ◌∷◌, ◌++◌, length, drop, ltb, Result, Ok, Err}
use Rattle.ground.specs.Choice.{pick}
use Rattle.ground.specs.declared.refusals.Refusal.{Refusal}
use Rattle.ground.specs.declared.refusals.Refusal.TheVariants.{BrokenText, Beyond, NoRoom}
use Rattle.records.specs.Text.{Rec}
use Rattle.records.specs.Runs.{runs_of}
use Rattle.reader.specs.Lines.{Found, Good, Bad, records_in}
use Rattle.reader.specs.declared.Read.{Read}

-- "a byte beyond 65535"
abbrev pub too_far : List Rec → Bool
too_far [] = false
too_far (r ∷ rs) = ltb 65536 (r.address + length r.bytes) || too_far rs

-- the bytes of runs, one run after the other
abbrev pub bytes_of : List Rec → List ℕ
bytes_of [] = []
bytes_of (r ∷ rs) = r.bytes ++ bytes_of rs

-- their rows: the address of a run's first byte and that of its last
abbrev pub rows_of : List Rec → List ℕ
rows_of [] = []
rows_of (r ∷ rs) = r.address ∷ (r.address + length r.bytes - 1) ∷ rows_of rs

-- "Text: 16 before 18 ..": what a text comes to; "records whose addresses follow on, none after 65535, are one run"
abbrev pub size_of : Found → Result Read Refusal
size_of Bad = Err BrokenText
size_of (Good rs) = pick (too_far rs) (Err Beyond) (Ok (record { bytes = length (bytes_of (runs_of rs)); runs = length (runs_of rs) }))

-- ".. before 9": the room for bytes, and the cells for runs, two to the row
abbrev pub room_of : ℕ → ℕ → Result Read Refusal → Result Read Refusal
room_of room cells (Ok r) = pick (ltb room r.bytes || ltb (cells / 2) r.runs) (Err NoRoom) (Ok r)
room_of room cells (Err e) = Err e

-- the answer for a text
unfoldable pub read_of : List ℕ → ℕ → ℕ → Result Read Refusal
read_of text room cells = room_of room cells (size_of (records_in text))

-- the runs of a text
abbrev pub runs_found : Found → List Rec
runs_found (Good rs) = runs_of rs
runs_found Bad = []

unfoldable pub runs_in : List ℕ → List Rec
runs_in text = runs_found (records_in text)

-- the runs that an answer hands out: all, and none beside a refusal
abbrev pub handed : Result Read Refusal → List ℕ → List Rec
handed (Ok r) text = runs_in text
handed (Err e) text = []

-- a lent buffer with something at its front, and the rest as it was
unfoldable pub onto : List ℕ → List ℕ → List ℕ
onto xs d = xs ++ drop (length xs) d

-- a text read into bytes d and rows t: the answer, and what the two hold then
pub record ReadIs (text d t : List ℕ) (r : Result Read Refusal) (d' t' : List ℕ) : Type 0 where
  pub answer : r ≡ read_of text (length d) (length t)
  pub bytes : d' ≡ onto (bytes_of (handed (read_of text (length d) (length t)) text)) d
  pub rows : t' ≡ onto (rows_of (handed (read_of text (length d) (length t)) text)) t
