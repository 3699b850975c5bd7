-- A lent list of statements, 20 numbers to a row (docs/ROWS.md), and the lent items: node numbers for FCB and FDB, characters for FCC.
use Rattle.std.specs.Prelude.{ℕ, ◌+◌, ◌*◌, ◌/◌, Bool, List, [], length, get_or, drop, eqb, ltb}
use Rattle.ground.specs.Choice.{pick}
use Rattle.entries.specs.Entries.{byte_in, operand_of}
use Rattle.statements.specs.declared.Statement.{Statement}
use Rattle.statements.specs.declared.Statement.TheVariants.{Label, Instruction, Rmb, Fcb, Fdb, Fcc, Org, Setdp, Unknown}
use Rattle.statements.specs.declared.Entry.{Entry}

-- no label, no operand, a hole among values
abbrev pub none : ℕ
none = 65535

-- how many statements a list has; numbers left over are no row
abbrev pub rows_of : List ℕ → ℕ
rows_of list = length list / 20

-- number j of row i. A row that is not there has 65535 in every place: its kind is unknown, and it bears no label.
unfoldable pub number_at : List ℕ → ℕ → ℕ → ℕ
number_at list i j = pick (ltb i (rows_of list)) (get_or list (i * 20 + j) 0) none

-- an item; past the end of the table stands a hole
unfoldable pub item_at : List ℕ → ℕ → ℕ
item_at items k = pick (ltb k (length items)) (get_or items k 0) none

-- "an enum of statement kinds, arrays beside it"; where others have the node of their operand, SETDP has its number itself
unfoldable pub statement_of : (kind node first count : ℕ) → Statement
statement_of kind node first count =
    pick (eqb kind 0) Label
    (pick (eqb kind 1) (Instruction node)
    (pick (eqb kind 2) (Rmb node)
    (pick (eqb kind 3) (Fcb first count)
    (pick (eqb kind 4) (Fdb first count)
    (pick (eqb kind 5) (Fcc first count)
    (pick (eqb kind 6) (Org node)
    (pick (eqb kind 7) (Setdp node) Unknown)))))))

unfoldable pub statement_at : List ℕ → ℕ → Statement
statement_at list i = statement_of (number_at list i 0) (number_at list i 2) (number_at list i 3) (number_at list i 4)

-- the number of the statement's own label, 65535 for none
abbrev pub label_at : List ℕ → ℕ → ℕ
label_at list i = number_at list i 1

-- the operand's own numbers, behind the statement's first five
unfoldable pub operand_row : List ℕ → ℕ → List ℕ
operand_row list i = pick (ltb i (rows_of list)) (drop (i * 20 + 5) list) []

-- the operand as the parser saw it, unknown where a flag is neither 0 nor 1, and the operation's number all the same
unfoldable pub entry_in : List ℕ → Entry
entry_in row = record { operation = byte_in row 0; operand = operand_of row }

unfoldable pub entry_at : List ℕ → ℕ → Entry
entry_at list i = entry_in (operand_row list i)

-- how many values or characters a statement lists
abbrev pub items_of : Statement → ℕ
items_of Label = 0
items_of (Instruction node) = 0
items_of (Rmb node) = 0
items_of (Fcb first count) = count
items_of (Fdb first count) = count
items_of (Fcc first count) = count
items_of (Org node) = 0
items_of (Setdp number) = 0
items_of Unknown = 0

-- 17: "more than .. 256 values or characters in one statement"
unfoldable pub overfull_at : List ℕ → ℕ → Bool
overfull_at list i = ltb 256 (items_of (statement_at list i))

-- the kind of its object: 0 without data ("Objects without data (RMB, ORG)"), 1 with data; a label alone, SETDP, and what is unknown, has no object
abbrev pub object_of : Statement → ℕ
object_of Label = none
object_of (Instruction node) = 1
object_of (Rmb node) = 0
object_of (Fcb first count) = 1
object_of (Fdb first count) = 1
object_of (Fcc first count) = 1
object_of (Org node) = 0
object_of (Setdp number) = none
object_of Unknown = none
