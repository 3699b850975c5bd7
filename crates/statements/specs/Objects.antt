-- What an accepted statement puts into its object: its values, as rows of number and width, and so its bytes.
use Rattle.std.specs.Prelude.{ℕ, ◌/◌, List, [], length}
use Rattle.values.specs.declared.pages.Page.{Page}
use Rattle.instruction.specs.Building.{bytes_told}
use Rattle.records.specs.Objects.{data_of, byte_rows}
use Rattle.statements.specs.declared.Statement.{Statement}
use Rattle.statements.specs.declared.Statement.TheVariants.{Label, Instruction, Rmb, Fcb, Fdb, Fcc, Org, Setdp, Unknown}
use Rattle.statements.specs.declared.Entry.{Entry}
use Rattle.statements.specs.declared.Datum.TheVariants.{Byte, Word, Character}
use Rattle.statements.specs.Listing.{statement_at, entry_at}
use Rattle.statements.specs.Asking.{asked_of, answers_from, rows_in}
use Rattle.statements.specs.Effects.{built_of}

-- an instruction has its bytes, FCB and FCC values of 8 bits, FDB values of 16; the others have none
abbrev pub values_of : Statement → Entry → List ℕ → List ℕ → List ℕ → ℕ → Page → List ℕ
values_of Label e items ns ls here page = []
values_of (Instruction node) e items ns ls here page = byte_rows (bytes_told (built_of e (asked_of ns ls node here) page here))
values_of (Rmb node) e items ns ls here page = []
values_of (Fcb first count) e items ns ls here page = rows_in (answers_from Byte items ns ls here first count)
values_of (Fdb first count) e items ns ls here page = rows_in (answers_from Word items ns ls here first count)
values_of (Fcc first count) e items ns ls here page = rows_in (answers_from Character items ns ls here first count)
values_of (Org node) e items ns ls here page = []
values_of (Setdp number) e items ns ls here page = []
values_of Unknown e items ns ls here page = []

unfoldable pub values_at : List ℕ → List ℕ → List ℕ → List ℕ → ℕ → ℕ → Page → List ℕ
values_at list items ns ls i here page = values_of (statement_at list i) (entry_at list i) items ns ls here page

-- how many values there are in rows of two
abbrev pub count_in : List ℕ → ℕ
count_in values = length values / 2

-- the bytes of the values, as the records have them
abbrev pub bytes_at : List ℕ → List ℕ → List ℕ → List ℕ → ℕ → ℕ → Page → List ℕ
bytes_at list items ns ls i here page = data_of (values_at list items ns ls i here page)
