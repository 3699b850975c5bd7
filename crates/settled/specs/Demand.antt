-- Demand 3 of a settled list of instructions, bare labels and SETDP: its text, read and decoded under a page that meets that of each instruction, gives the same
-- number of instructions with the same lengths and meanings in the same order, and nothing is left over. The meanings are those of the operand records, never taken from bytes.
use Rattle.std.specs.Prelude.{◌≡◌, true, false, List, [], map, ℕ, ◌<◌, length, None, Ok, IsOk}
use Rattle.values.specs.declared.pages.Page.{Page}
use Rattle.values.specs.declared.pages.Page.TheVariants.{Known}
use Rattle.expressions.specs.Numbers.{Cells, Short}
use Rattle.records.specs.Text.{close}
use Rattle.reader.specs.Answers.{runs_in}
use Rattle.decoder.specs.Origin.{origin}
use Rattle.decoder.specs.Run.{run_of, refusal_in, total_of}
use Rattle.laying.specs.Laying.{lay_from}
use Rattle.laying.specs.Exactly.{bytes_from}
use Rattle.laying.specs.Meant.{meanings_from, all_meet}
use Rattle.statements.specs.Listing.{rows_of, statement_at}
use Rattle.passes.specs.Walks.{Source}
use Rattle.passes.specs.Passes.{ended_of}
use Rattle.assembly.specs.Text.{settled_text}
use Rattle.settled.specs.Code.{is_code, sets_page, records_is}

-- the bytes of the records, laid end to end from 0
abbrev pub bytes_is : Source → List ℕ → List ℕ
bytes_is src ls = bytes_from (records_is src ls) 0

pub record ReadsBack (page : Page) (src : Source) (ls : List ℕ) : Type 0 where
  -- laying the records from 0 accepts them, and gives the same bytes as the passes
  pub laid : lay_from (records_is src ls) 0 65536 ≡ Ok (bytes_is src ls)
  -- the text is one run at 0, and none where there is no instruction
  pub run : runs_in (settled_text src ls) ≡ close 0 (bytes_is src ls) []
  -- the same lengths and meanings in the same order
  pub same : run_of (bytes_is src ls) (origin 0 page) ≡ map Ok (meanings_from (records_is src ls) 0)
  -- the same number of instructions, none refused, and nothing left over
  pub accepted : refusal_in (run_of (bytes_is src ls) (origin 0 page)) ≡ None
  pub number : length (run_of (bytes_is src ls) (origin 0 page)) ≡ length (records_is src ls)
  pub whole : total_of (run_of (bytes_is src ls) (origin 0 page)) ≡ length (bytes_is src ls)

-- nothing but code: each statement is an instruction, a bare label or SETDP
abbrev pub AllCode : Source → Type 0
AllCode src = (i : ℕ) → i < rows_of src.list → is_code (statement_at src.list i) ≡ true

-- of every list that settles with no refusal; every lent table holds numbers of 16 bits
abbrev pub SettledDemand : Type 0
SettledDemand =
    (page : Page) (src : Source) (ls : List ℕ) →
    AllCode src →
    all_meet page (records_is src ls) ≡ true →
    IsOk (ended_of src ls).end →
    Cells Short src.nodes →
    Cells Short ls →
    ReadsBack page src ls

-- without SETDP the page is 0 until an instruction leaves it unknown, so page 0 meets every instruction's
abbrev pub SettledUnderZero : Type 0
SettledUnderZero =
    (src : Source) (ls : List ℕ) →
    AllCode src →
    ((i : ℕ) → i < rows_of src.list → sets_page (statement_at src.list i) ≡ false) →
    IsOk (ended_of src ls).end →
    Cells Short src.nodes →
    Cells Short ls →
    ReadsBack (Known 0) src ls
