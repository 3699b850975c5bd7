-- 01: "The read-back program reads text from standard input." What it prints for a text.
use Rattle.std.specs.Prelude.{◌≡◌, ℕ, ◌+◌, ◌≤◌, Bool, List, [], ◌∷◌, ◌++◌, ltb, length, take, drop, Option, Some, None, Result, Ok, Err}
use Rattle.std.specs.Result.{result_err}
use Rattle.ground.specs.Choice.{pick}
use Rattle.ground.specs.declared.refusals.Refusal.{Refusal}
use Rattle.ground.specs.declared.refusals.Refusal.TheVariants.{NoRoom}
use Rattle.ground.specs.Refusals.{number_of}
use Rattle.records.specs.Text.{Rec}
use Rattle.reader.specs.Lines.{records_in}
use Rattle.reader.specs.Answers.{size_of, runs_in, onto}
use Rattle.values.specs.declared.pages.Page.TheVariants.{Known}
use Rattle.decoder.specs.declared.Origin.{Origin}
use Rattle.decoder.specs.Origin.{origin}
use Rattle.decoder.specs.Meaning.{Answer}
use Rattle.decoder.specs.Run.{run_of}
use Rattle.listing.specs.Lines.{line_of, last_line, end, refused}

-- the lines of a listing: one for each instruction, with its address and its bytes, and the last one
pub data Lines : Type 0 where
  Instruction : ℕ → List ℕ → Lines → Lines
  End : Lines
  Refused : ℕ → Lines

-- 02 e: "the read-back program uses page 0"
abbrev pub read_from : ℕ → Origin
read_from address = origin address (Known 0)

-- the lines of a run whose bytes are read as these answers, from an address on, and the lines after it; a refused instruction is the last of all
abbrev pub in_run : ℕ → List ℕ → List Answer → Lines → Lines
in_run address bytes [] rest = rest
in_run address bytes (Ok d ∷ ds) rest = Instruction address (take d.length bytes) (in_run (address + d.length) (drop d.length bytes) ds rest)
in_run address bytes (Err e ∷ ds) rest = Refused (number_of e)

-- "Each run is decoded from its own start"
abbrev pub in_runs : List Rec → Lines
in_runs [] = End
in_runs (r ∷ rs) = in_run r.address r.bytes (run_of r.bytes (read_from r.address)) (in_runs rs)

-- "The program takes at most 65,536 bytes of text, else 9 before all else"; a text that is not read is refused as the reader does
unfoldable pub refusal_of : List ℕ → Option Refusal
refusal_of text = pick (ltb 65536 (length text)) (Some NoRoom) (result_err (size_of (records_in text)))

abbrev pub lines_by : Option Refusal → List Rec → Lines
lines_by None rs = in_runs rs
lines_by (Some e) rs = Refused (number_of e)

unfoldable pub lines_of : List ℕ → Lines
lines_of text = lines_by (refusal_of text) (runs_in text)

-- the characters of lines before which so many instructions stand: "`end` counts over all runs", "A refusal prints `refused` and its number last"
abbrev pub printed : ℕ → Lines → List ℕ
printed n (Instruction address bytes rest) = line_of address bytes ++ printed (n + 1) rest
printed n End = last_line end n
printed n (Refused number) = last_line refused number

unfoldable pub listing_of : List ℕ → List ℕ
listing_of text = printed 0 (lines_of text)

-- the listing has no room: 9
unfoldable pub too_short : List ℕ → ℕ → Bool
too_short text room = ltb room (length (listing_of text))

-- the answer where there is that much room
unfoldable pub listed_of : List ℕ → ℕ → Result ℕ Refusal
listed_of text room = pick (too_short text room) (Err NoRoom) (Ok (length (listing_of text)))

-- the buffer then: the listing at its front and the rest as it was, or all as it was
unfoldable pub buffer_of : List ℕ → List ℕ → List ℕ
buffer_of text buffer = pick (too_short text (length buffer)) buffer (onto (listing_of text) buffer)

-- so many bytes are there, so the part of that length is as long
abbrev pub Counts : ℕ → List ℕ → Type 0
Counts n l = (n ≤ length l) × (n ≡ length (take n l))
