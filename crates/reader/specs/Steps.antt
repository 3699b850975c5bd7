-- What the reader's own parts answer. No contract of a public function needs it.
use Rattle.std.specs.Prelude.{◌≡◌, ℕ, ◌+◌, ◌-◌, ◌*◌, ◌%◌, ◌≤◌, ◌<◌, Bool, true, false, not, ◌&&◌, ◌||◌, List, [], ◌∷◌, length, get_or, take, drop, set, ltb, eqb, Option, Some, None, Result, Ok, Err, IsSome}
use Rattle.ground.specs.Choice.{pick}
use Rattle.ground.specs.Stores.{put}
use Rattle.ground.specs.declared.refusals.Refusal.{Refusal}
use Rattle.ground.specs.declared.refusals.Refusal.TheVariants.{BrokenText, Beyond}
use Rattle.records.specs.Line.{sum}
use Rattle.records.specs.Text.{Rec}
use Rattle.reader.specs.Digits.{pair_of, bytes_in}
use Rattle.reader.specs.Lines.{count_of, ends_line, after_end, Front, Record, EndRecord, NoRecord, record_of, line_in, Found, Good, Bad, records_in}
use Rattle.reader.specs.Answers.{too_far, bytes_of}
use Rattle.reader.specs.declared.Read.{Read}
use Rattle.reader.specs.declared.Pairs.{Pairs}
use Rattle.reader.specs.declared.Line.{Line}
use Rattle.reader.specs.Ahead.{follow_in, handed_run}
use Rattle.reader.specs.declared.runs.Run.{Run}
use Rattle.reader.specs.declared.Tally.{Tally}
use Rattle.reader.specs.declared.runs.Stretch.{Stretch}

-- the byte of the two characters at a place
unfoldable pub pair_at : List ℕ → ℕ → Option ℕ
pair_at s i = pair_of (get_or s i 0) (get_or s (i + 1) 0)

-- two digits stand there
pub record ByteAt (s : List ℕ) (i : ℕ) : Type 0 where
  pub there : i ≤ length s
  pub some : IsSome (pair_at s i)

-- the digits from a place on
pub record PairsIs (s : List ℕ) (from : ℕ) (r : Pairs) : Type 0 where
  pub ended : r.end ≡ from + 2 * length (bytes_in (drop from s))
  pub summed : r.sum ≡ sum (bytes_in (drop from s)) % 256
  pub within : r.end ≤ length s

-- a line end at a place, and the place after it
pub record Ends (s : List ℕ) (at next : ℕ) : Type 0 where
  pub ends : ends_line (drop at s) ≡ true
  pub after : after_end (drop at s) ≡ drop next s
  pub within : next ≤ length s
  pub past : at ≤ next

abbrev pub EndIs : List ℕ → ℕ → Option ℕ → Type 0
EndIs s at (Some next) = Ends s at next
EndIs s at None = ends_line (drop at s) ≡ false

-- what a line found in a text says
abbrev pub meant : List ℕ → Result (Option Line) Refusal → Front
meant s (Ok (Some l)) = Record (record { address = l.address; bytes = take l.count (bytes_in (drop l.first s)) }) (drop l.next s)
meant s (Ok None) = EndRecord
meant s (Err e) = NoRecord

-- where a data line's bytes and the next line are
pub record DataFits (s : List ℕ) (at : ℕ) (l : Line) : Type 0 where
  pub some : 0 < l.count
  pub few : l.count < 256
  pub there : l.count ≤ length (bytes_in (drop l.first s))
  pub long : at + 2 * l.count < l.next
  pub within : l.next ≤ length s

abbrev pub Fits : List ℕ → ℕ → Result (Option Line) Refusal → Type 0
Fits s at (Ok (Some l)) = DataFits s at l
Fits s at (Ok None) = Unit
Fits s at (Err e) = e ≡ BrokenText

-- a line by its type, where its digits and its end are right
unfoldable pub line_by : ℕ → Line → ℕ → Result (Option Line) Refusal
line_by kind l size =
    pick
    (eqb kind 0 && ltb 0 l.count)
    (Ok (Some l))
    (pick (eqb kind 1 && (eqb (l.count + l.address) 0 && eqb l.next size)) (Ok None) (Err BrokenText))

-- where a sound line stands: its digits are those of its count and five bytes more
pub record SoundAt (s : List ℕ) (at count next : ℕ) : Type 0 where
  pub given : count_of (bytes_in (drop (at + 1) s)) ≡ count
  pub full : length (bytes_in (drop (at + 1) s)) ≡ count + 5
  pub long : at + 11 + 2 * count ≤ next
  pub within : next ≤ length s
  pub says : line_in (drop at s) ≡ record_of (bytes_in (drop (at + 1) s)) (drop next s)

-- a line stands at the front of a text: a data record or the end record
abbrev pub is_line : Front → Bool
is_line (Record r after) = true
is_line EndRecord = true
is_line NoRecord = false

pub record LineIs (s : List ℕ) (at : ℕ) (r : Result (Option Line) Refusal) : Type 0 where
  pub says : line_in (drop at s) ≡ meant s r
  pub fits : Fits s at r

-- what records come to, one more counted at a time
unfoldable pub begins : Tally → ℕ → Bool
begins t address = eqb t.runs 0 || not (eqb address t.next)

unfoldable pub runs_with : Tally → ℕ → ℕ
runs_with t address = pick (begins t address) (t.runs + 1) t.runs

unfoldable pub counted : Tally → ℕ → ℕ → Tally
counted t address count = record {
  bytes = t.bytes + count;
  runs = runs_with t address;
  next = address + count;
  far = t.far || ltb 65536 (address + count);
}

abbrev pub counts : Tally → List Rec → Tally
counts t [] = t
counts t (r ∷ rs) = counts (counted t r.address (length r.bytes)) rs

-- the answer that a tally comes to
unfoldable pub total : Tally → Result Read Refusal
total t = pick t.far (Err Beyond) (Ok (record { bytes = t.bytes; runs = t.runs }))

abbrev pub totalled : Tally → Found → Result Read Refusal
totalled t (Good rs) = total (counts t rs)
totalled t Bad = Err BrokenText

-- the rows of runs with one more record: a new row, or the present one with a later last address
unfoldable pub rowed : Tally → ℕ → ℕ → List ℕ → List ℕ
rowed t address count d =
    pick
    (begins t address)
    (set (set d (2 * t.runs) address) (2 * t.runs + 1) (address + count - 1))
    (set d (2 * t.runs - 1) (address + count - 1))

-- the rows with all of them
abbrev pub rows : Tally → List Rec → List ℕ → List ℕ
rows t [] d = d
rows t (r ∷ rs) d = rows (counted t r.address (length r.bytes)) rs (rowed t r.address (length r.bytes) d)

-- the records that were found
abbrev pub records_of : Found → List Rec
records_of (Good rs) = rs
records_of Bad = []

-- a text that is neither broken nor has a byte beyond 65535
abbrev pub fine : Found → Bool
fine (Good rs) = not (too_far rs)
fine Bad = false

-- nothing read yet
unfoldable pub start : Tally
start = record { bytes = 0; runs = 0; next = 0; far = false }

-- bytes d and rows t with all records of a text
pub record StoredIs (text d t d' t' : List ℕ) : Type 0 where
  pub bytes : d' ≡ put d 0 (bytes_of (records_of (records_in text)))
  pub rows : t' ≡ rows start (records_of (records_in text)) t

-- a run that had reached an address and a place, with all lines that follow on
pub record Reached (s : List ℕ) (at : ℕ) (p : Rec) (r : Stretch) : Type 0 where
  pub place : (follow_in p (drop at s)).run.address ≡ p.address
  pub ended : r.end ≡ (follow_in p (drop at s)).run.address + length (follow_in p (drop at s)).run.bytes
  pub rest : (follow_in p (drop at s)).rest ≡ drop r.next s

pub record StretchIs (s : List ℕ) (at reached : ℕ) (r : Stretch) : Type 0 where
  pub each : (p : Rec) → p.address + length p.bytes ≡ reached → Reached s at p r
  pub within : r.next ≤ length s
  pub longer : reached ≤ r.end

-- the line at a place, where a run that has reached an address goes on with it; else that run ends before the place
abbrev pub OnIs : List ℕ → ℕ → ℕ → Option Line → Type 0
OnIs s at reached (Some l) = LineIs s at (Ok (Some l)) × (l.address ≡ reached)
OnIs s at reached None = (p : Rec) → p.address + length p.bytes ≡ reached → follow_in p (drop at s) ≡ record { run = p; rest = drop at s }

-- the run that begins with any record at that line's address and of its length
pub record RunIs (s : List ℕ) (l : Line) (r : Result Run Refusal) : Type 0 where
  pub each : (p : Rec) → p.address ≡ l.address → length p.bytes ≡ l.count → r ≡ handed_run s (follow_in p (drop l.next s))

-- the bytes of a run that begins with the lines of s, where the first is at that address
unfoldable pub ran_bytes : ℕ → List ℕ → List ℕ
ran_bytes first s = (follow_in (record { address = first; bytes = [] }) s).run.bytes
