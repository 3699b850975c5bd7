-- A settled list of instructions, bare labels and SETDP: its operand records, as the passes settled them.
use Rattle.std.specs.Prelude.{ℕ, ◌%◌, Bool, true, false, List, [], ◌∷◌}
use Rattle.values.specs.declared.pages.Page.{Page}
use Rattle.instruction.specs.declared.Record.{Record}
use Rattle.statements.specs.declared.Statement.{Statement}
use Rattle.statements.specs.declared.Statement.TheVariants.{Label, Instruction, Rmb, Fcb, Fdb, Fcc, Org, Setdp, Unknown}
use Rattle.statements.specs.declared.Entry.{Entry}
use Rattle.statements.specs.Listing.{rows_of, statement_at, entry_at}
use Rattle.statements.specs.Asking.{asked_of}
use Rattle.statements.specs.Effects.{record_of}
use Rattle.passes.specs.Walks.{Source}
use Rattle.passes.specs.Passes.{Outcome, passed_of}
use Rattle.assembly.specs.Objects.{address_at, page_at, gather}

-- an instruction, or what leaves no trace in the text: a bare label, SETDP
abbrev pub is_code : Statement → Bool
is_code Label = true
is_code (Instruction node) = true
is_code (Rmb node) = false
is_code (Fcb first count) = false
is_code (Fdb first count) = false
is_code (Fcc first count) = false
is_code (Org node) = false
is_code (Setdp number) = true
is_code Unknown = false

-- "a statement SETDP .. sets it for the rest of a pass"
abbrev pub sets_page : Statement → Bool
sets_page Label = false
sets_page (Instruction node) = false
sets_page (Rmb node) = false
sets_page (Fcb first count) = false
sets_page (Fdb first count) = false
sets_page (Fcc first count) = false
sets_page (Org node) = false
sets_page (Setdp number) = true
sets_page Unknown = false

-- the operand record of an instruction that stands at an address, with the values that its operand has there; a label and SETDP have none
abbrev pub records_of : Statement → Entry → List ℕ → List ℕ → ℕ → Page → List Record
records_of Label e ns ls here page = []
records_of (Instruction node) e ns ls here page = record_of e (asked_of ns ls node here) page ∷ []
records_of (Rmb node) e ns ls here page = []
records_of (Fcb first count) e ns ls here page = []
records_of (Fdb first count) e ns ls here page = []
records_of (Fcc first count) e ns ls here page = []
records_of (Org node) e ns ls here page = []
records_of (Setdp number) e ns ls here page = []
records_of Unknown e ns ls here page = []

unfoldable pub records_in : Source → Outcome → ℕ → List Record
records_in src o i =
    records_of (statement_at src.list i) (entry_at src.list i) src.nodes o.table (address_at src o i % 65536) (page_at src o i)

-- of n statements from i on
abbrev pub records_from : Source → Outcome → ℕ → ℕ → List Record
records_from src o n i = gather (λ k. records_in src o k) n i

-- of the whole list
abbrev pub records_is : Source → List ℕ → List Record
records_is src ls = records_from src (passed_of src ls) (rows_of src.list) 0
