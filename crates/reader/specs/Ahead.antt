-- The run at a place of a text: a reader that keeps the text and its place hands it out next.
use Rattle.std.specs.Prelude.{◌≡◌, ℕ, zero, suc, ◌+◌, ◌-◌, List, [], ◌++◌, length, drop, ltb, eqb, Result, Ok, Err}
use Rattle.ground.specs.Choice.{pick}
use Rattle.ground.specs.declared.refusals.Refusal.{Refusal}
use Rattle.ground.specs.declared.refusals.Refusal.TheVariants.{BrokenText, Beyond, NoRoom}
use Rattle.records.specs.Text.{Rec}
use Rattle.reader.specs.Lines.{Front, Record, EndRecord, NoRecord, line_in, records_in}
use Rattle.reader.specs.Answers.{size_of, onto}
use Rattle.reader.specs.declared.Read.{Read}
use Rattle.reader.specs.declared.runs.Run.{Run}

-- a run, and the text after its lines
pub record Ahead : Type 0 where
  pub run : Rec
  pub rest : List ℕ

-- "records whose addresses follow on .. are one run": a run goes on with a line whose record is at the address after its last byte
abbrev pub goes_on : Rec → List ℕ → Front → (Rec → List ℕ → Ahead) → Ahead
goes_on p s (Record r after) on =
    pick
    (eqb r.address (p.address + length p.bytes))
    (on (record { address = p.address; bytes = p.bytes ++ r.bytes }) after)
    (record { run = p; rest = s })
goes_on p s EndRecord on = record { run = p; rest = s }
goes_on p s NoRecord on = record { run = p; rest = s }

-- with at most n lines
abbrev pub follow : ℕ → Rec → List ℕ → Ahead
follow zero p s = record { run = p; rest = s }
follow (suc n) p s = goes_on p s (line_in s) (follow n)

unfoldable pub follow_in : Rec → List ℕ → Ahead
follow_in p s = follow (length s) p s

-- a run's address and length, and the place after its lines; 18 for "a byte beyond 65535"
unfoldable pub handed_run : List ℕ → Ahead → Result Run Refusal
handed_run text a =
    pick
    (ltb 65536 (a.run.address + length a.run.bytes))
    (Err Beyond)
    (Ok (record { address = a.run.address; bytes = length a.run.bytes; next = length text - length a.rest }))

-- the run that the line at a place begins; the end record begins none, and a text broken there is 16
abbrev pub begun : List ℕ → ℕ → Front → Result Run Refusal
begun text at (Record r after) = handed_run text (follow_in r after)
begun text at EndRecord = Ok (record { address = 0; bytes = 0; next = at })
begun text at NoRecord = Err BrokenText

unfoldable pub run_of : List ℕ → ℕ → Result Run Refusal
run_of text at = begun text at (line_in (drop at text))

-- a run of a text that is asked first
abbrev pub after_size : Result Read Refusal → Result Run Refusal → Result Run Refusal
after_size (Ok size) r = r
after_size (Err e) r = Err e

-- the run at a place. "Text: 16 before 18 before 9": the whole text is asked at its start, before any run is handed out; elsewhere it has been asked
unfoldable pub asked_of : List ℕ → ℕ → Result Run Refusal
asked_of text at = pick (eqb at 0) (after_size (size_of (records_in text)) (run_of text at)) (run_of text at)

-- the bytes of the run that stands at a place
abbrev pub bytes_begun : Front → List ℕ
bytes_begun (Record r after) = (follow_in r after).run.bytes
bytes_begun EndRecord = []
bytes_begun NoRecord = []

unfoldable pub run_bytes : List ℕ → ℕ → List ℕ
run_bytes text at = bytes_begun (line_in (drop at text))

-- 9 after 16 and 18, where its bytes have no room
abbrev pub room_run : ℕ → Result Run Refusal → Result Run Refusal
room_run room (Ok r) = pick (ltb room r.bytes) (Err NoRoom) (Ok r)
room_run room (Err e) = Err e

unfoldable pub read_run_of : List ℕ → ℕ → ℕ → Result Run Refusal
read_run_of text at room = room_run room (asked_of text at)

-- the bytes that an answer hands out: all of the run there, and none beside a refusal
abbrev pub handed_bytes : Result Run Refusal → List ℕ → ℕ → List ℕ
handed_bytes (Ok r) text at = run_bytes text at
handed_bytes (Err e) text at = []

-- the run at a place read into bytes d: the answer, and what they hold then
pub record RunReadIs (text : List ℕ) (at : ℕ) (d : List ℕ) (r : Result Run Refusal) (d' : List ℕ) : Type 0 where
  pub answer : r ≡ read_run_of text at (length d)
  pub bytes : d' ≡ onto (handed_bytes (read_run_of text at (length d)) text at) d
