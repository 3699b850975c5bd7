-- How a text of anyone's making, read under a page, compares with a list of instructions that is laid from an address. What the list means is its records' own
-- and hangs on no reader's page, so every list that is laid is compared, whatever pages its records have.
use Rattle.std.specs.Prelude.{◌≡◌, ℕ, Bool, true, false, ◌&&◌, List, [], ◌∷◌, map, eqb, Ok, Result, Err, IsOk}
use Rattle.ground.specs.Choice.{pick}
use Rattle.ground.specs.declared.refusals.Refusal.{Refusal}
use Rattle.values.specs.declared.pages.Page.{Page}
use Rattle.records.specs.Text.{Rec}
use Rattle.reader.specs.declared.Read.{Read}
use Rattle.reader.specs.Lines.{records_in}
use Rattle.reader.specs.Answers.{size_of, runs_in}
use Rattle.decoder.specs.declared.Decoded.{Decoded}
use Rattle.decoder.specs.Origin.{origin}
use Rattle.decoder.specs.Run.{run_of}
use Rattle.laying.specs.Entries.{entries_of}
use Rattle.laying.specs.Laying.{lay_of}
use Rattle.laying.specs.Meant.{meanings_from}
use Rattle.roundtrip.specs.Same.{agreed, all_agree}
use Rattle.roundtrip.specs.declared.Compared.{Compared}

-- whether all is equal, and how many leading instructions agree
abbrev pub answer : Bool → ℕ → Compared
answer equal place = record { equal = equal; place = place }

-- no run is left
abbrev pub none : List Rec → Bool
none [] = true
none (r ∷ rs) = false

-- the instructions against the runs of a text: equal where the text's one run starts at that address and decodes to them. No run at all is equal to no
-- instruction, and where the first run starts elsewhere nothing agrees
abbrev pub against : List Decoded → ℕ → Page → List Rec → Compared
against means address page [] = answer (all_agree means []) 0
against means address page (r ∷ rs) =
    pick (eqb r.address address)
    (answer (all_agree means (run_of r.bytes (origin address page)) && none rs) (agreed means (run_of r.bytes (origin address page))))
    (answer false 0)

-- the text's own refusal comes before: "16 before 18"
abbrev pub read_against : Result Read Refusal → List Decoded → ℕ → Page → List Rec → Result Compared Refusal
read_against (Ok size) means address page rs = Ok (against means address page rs)
read_against (Err e) means address page rs = Err e

unfoldable pub text_against : List Decoded → ℕ → Page → List ℕ → Result Compared Refusal
text_against means address page text = read_against (size_of (records_in text)) means address page (runs_in text)

-- all the room there is: no byte lies beyond 65535, so no list wants more
abbrev pub all_room : ℕ
all_room = 65536

-- and laying's refusal of the list before all: 17, then that of the first row that is refused
abbrev pub compared_as : Result (List ℕ) Refusal → List Decoded → ℕ → Page → List ℕ → Result Compared Refusal
compared_as (Ok bytes) means address page text = text_against means address page text
compared_as (Err e) means address page text = Err e

unfoldable pub compare_of : List ℕ → ℕ → Page → List ℕ → Result Compared Refusal
compare_of list address page text = compared_as (lay_of list address all_room) (meanings_from (entries_of list) address) address page text

-- ---- what 'equal' means
-- the one run starts at the address and decodes under the page to the instructions; no run says no instruction
abbrev pub Says : List Rec → ℕ → Page → List Decoded → Type 0
Says [] address page means = means ≡ []
Says (r ∷ []) address page means = (r.address ≡ address) × (run_of r.bytes (origin address page) ≡ map Ok means)
Says (r ∷ s ∷ rs) address page means = ⊥

-- the list is laid, the text is read, and the text says what the list means
pub record Equal (list : List ℕ) (address : ℕ) (page : Page) (text : List ℕ) : Type 0 where
  pub bytes : List ℕ
  pub laid : lay_of list address all_room ≡ Ok bytes
  pub read : IsOk (size_of (records_in text))
  pub says : Says (runs_in text) address page (meanings_from (entries_of list) address)
