-- Demand 3, the theorem of this project: for every list of up to 1,024 operand records and every address, if laying accepts, then writing the text of what
-- was laid, reading it and decoding from that address gives the same number of instructions with the same lengths and meanings in the same order and nothing
-- left over. The meanings are demand 2's, from the records, never from bytes. Laying, writing, reading and decoding are what the public functions' contracts
-- say: `lay_of`, `written_of` and `text_of`, `read_of` and `runs_in`, `run_of`. A list with no row is laid as no byte: no run, no instruction, nothing left over.
-- 02 e: "Demand 3 holds for a list laid under one page, known or unknown throughout, and read with it"; and so it does for any list whose known pages are the
-- reader's.
use Rattle.std.specs.Prelude.{◌≡◌, true, List, [], ◌∷◌, ◌++◌, map, ℕ, ◌≤◌, ◌<◌, length, None, Ok}
use Rattle.values.specs.declared.pages.Page.{Page}
use Rattle.records.specs.Objects.{byte_rows}
use Rattle.records.specs.Text.{Rec, close, text_of}
use Rattle.records.specs.Written.{written_of}
use Rattle.reader.specs.Answers.{read_of, runs_in}
use Rattle.decoder.specs.Origin.{origin}
use Rattle.decoder.specs.Meaning.{Answer}
use Rattle.decoder.specs.Run.{run_of, refusal_in, total_of}
use Rattle.instruction.specs.declared.Record.{Record}
use Rattle.laying.specs.Entries.{rows_in, entries_of}
use Rattle.laying.specs.Laying.{lay_of}
use Rattle.laying.specs.Meant.{meanings_from, all_meet}

-- ---- there: what was laid, written
-- the writer's tables for bytes at an address: one object with data, and each byte a value of 8 bits
abbrev pub object_for : ℕ → List ℕ → List ℕ
object_for address bytes = 1 ∷ address ∷ length bytes ∷ []

unfoldable pub text_for : ℕ → List ℕ → List ℕ
text_for address bytes = text_of (object_for address bytes) (byte_rows bytes)

-- ---- and back: the text read and decoded
-- the instructions of some runs, each run decoded from its own start
abbrev pub decoded_in : Page → List Rec → List Answer
decoded_in page [] = []
decoded_in page (r ∷ rs) = run_of r.bytes (origin r.address page) ++ decoded_in page rs

-- what the text of bytes at an address reads back to
unfoldable pub back_from : Page → ℕ → List ℕ → List Answer
back_from page address bytes = decoded_in page (runs_in (text_for address bytes))

-- ---- the demand
pub record ReadsBack (page : Page) (list : List ℕ) (address : ℕ) (bytes : List ℕ) : Type 0 where
  -- writing the text of what was laid: the writer refuses it only for want of room
  pub written :
      (room : ℕ) → length (text_for address bytes) ≤ room →
      written_of (object_for address bytes) (byte_rows bytes) room ≡ Ok (length (text_for address bytes))
  -- reading it: with room for the bytes and for a row, the reader takes them all; they are one run at that address, and none where nothing was laid
  pub read :
      (room cells : ℕ) → length bytes ≤ room → 2 ≤ cells →
      read_of (text_for address bytes) room cells ≡ Ok (record { bytes = length bytes; runs = length (close address bytes []) })
  pub run : runs_in (text_for address bytes) ≡ close address bytes []
  -- decoding from that address: the same lengths and meanings in the same order
  pub same : back_from page address bytes ≡ map Ok (meanings_from (entries_of list) address)
  -- the same number of instructions
  pub number : length (back_from page address bytes) ≡ rows_in list
  -- nothing left over: none is refused, and together they are as long as what was laid
  pub accepted : refusal_in (back_from page address bytes) ≡ None
  pub whole : total_of (back_from page address bytes) ≡ length bytes

abbrev pub DemandThree : Type 0
DemandThree =
    (page : Page) (list : List ℕ) (address room : ℕ) (bytes : List ℕ) →
    address < 65536 →
    all_meet page (entries_of list) ≡ true →
    lay_of list address room ≡ Ok bytes →
    ReadsBack page list address bytes

-- and so lists that differ in meaning never share a text, wherever they are laid: an equal text has the same bytes, at the same address unless there are none.
-- 02 e: "its last sentence holds for two lists laid under the same page"
pub record Alike (xs ys : List ℕ) (a b : ℕ) (these those : List ℕ) : Type 0 where
  pub means : meanings_from (entries_of xs) a ≡ meanings_from (entries_of ys) b
  pub bytes : these ≡ those
  pub place : 0 < length these → a ≡ b

abbrev pub TextsTell : Type 0
TextsTell =
    (page : Page) (xs ys : List ℕ) (a b roomx roomy : ℕ) (these those : List ℕ) →
    a < 65536 →
    b < 65536 →
    all_meet page (entries_of xs) ≡ true →
    all_meet page (entries_of ys) ≡ true →
    lay_of xs a roomx ≡ Ok these →
    lay_of ys b roomy ≡ Ok those →
    text_for a these ≡ text_for b those →
    Alike xs ys a b these those

-- ---- in 02's own words
-- a list "laid under one page, known or unknown throughout"
abbrev pub OnePage : Page → List Record → Type 0
OnePage page [] = Unit
OnePage page (entry ∷ entries) = (entry.page ≡ page) × OnePage page entries

-- "and read with it"
abbrev pub DemandOnePage : Type 0
DemandOnePage =
    (page : Page) (list : List ℕ) (address room : ℕ) (bytes : List ℕ) →
    address < 65536 →
    OnePage page (entries_of list) →
    lay_of list address room ≡ Ok bytes →
    ReadsBack page list address bytes

abbrev pub TextsTellOnePage : Type 0
TextsTellOnePage =
    (page : Page) (xs ys : List ℕ) (a b roomx roomy : ℕ) (these those : List ℕ) →
    a < 65536 →
    b < 65536 →
    OnePage page (entries_of xs) →
    OnePage page (entries_of ys) →
    lay_of xs a roomx ≡ Ok these →
    lay_of ys b roomy ≡ Ok those →
    text_for a these ≡ text_for b those →
    Alike xs ys a b these those
