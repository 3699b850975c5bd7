-- A row looked up by its operation and form, or by its page and code. What the code answers is defined here by plain search.
use Rattle.std.specs.Prelude.{ℕ, ◌-◌, ◌/◌, ◌%◌, Bool, true, false, ◌&&◌, ◌||◌, Option, Some, None, Result, Ok, Err, is_ok, List, [], ◌∷◌, eqb, ltb, get_or}
use Rattle.ground.specs.Choice.{pick}
use Rattle.ground.specs.Refusals.{number_of}
use Rattle.ground.specs.declared.refusals.Refusal.{Refusal}
use Rattle.ground.specs.declared.refusals.Refusal.TheVariants.{Unknown, NoSuchMode, Undefined}
use Rattle.rows.specs.declared.Code.{Code}
use Rattle.rows.specs.declared.Named.{Named}
use Rattle.rows.specs.Sheet.{count, table_of}

-- a row's code, or its operation
abbrev pub key_of : Bool → ℕ → ℕ
key_of true row = row / 256
key_of false row = row % 256

-- the first row with that code (true), or with that operation (false)
abbrev pub find : Bool → ℕ → List ℕ → Option ℕ
find by_code key [] = None
find by_code key (r ∷ rs) = pick (eqb (key_of by_code r) key) (Some r) (find by_code key rs)

-- "ASL also LSL", on A and on B too; "BCC also BHS, BCS also BLO", and the long ones:
-- 146 LSL, 147 LSLA, 148 LSLB, 149 BHS, 150 BLO, 151 LBHS, 152 LBLO are ASL, ASLA, ASLB, BCC, BCS, LBCC, LBCS
abbrev pub aliases : List ℕ
aliases = 8 ∷ 24 ∷ 40 ∷ 84 ∷ 85 ∷ 100 ∷ 101 ∷ []

-- the operation that an alias stands for; any other number stands for itself
unfoldable pub merged_of : ℕ → ℕ
merged_of o = pick (ltb o 146) o (pick (ltb 152 o) o (get_or aliases (o - 146) 0))

abbrev pub coded : ℕ → ℕ → Result Code Refusal
coded page code = Ok (record { page = page; code = code })

-- what is found on a page, or else another answer
abbrev pub on_page : ℕ → Option ℕ → Result Code Refusal → Result Code Refusal
on_page page (Some row) other = coded page (row / 256)
on_page page None other = other

-- the code of an operation in a form, on the page that has it
unfoldable pub placed : ℕ → ℕ → Result Code Refusal
placed o form =
    on_page 0x00 (find false (merged_of o) (table_of 0x00 form))
    (on_page 0x10 (find false (merged_of o) (table_of 0x10 form))
    (on_page 0x11 (find false (merged_of o) (table_of 0x11 form)) (Err NoSuchMode)))

unfoldable pub has_form_of : ℕ → ℕ → Bool
has_form_of o form = is_ok (placed o form)

abbrev pub has_some : ℕ → List ℕ → Bool
has_some o [] = false
has_some o (form ∷ forms) = has_form_of o form || has_some o forms

-- the forms are numbered 0 to 6
abbrev pub forms : List ℕ
forms = count 0 7

-- an operation is known if it has a row in some form
unfoldable pub known_of : ℕ → Bool
known_of o = has_some o forms

-- the code of an operation in a form; "operation or field number unknown" comes before "the row has no such mode"
unfoldable pub code_of : ℕ → ℕ → Result Code Refusal
code_of o form = pick (known_of o && ltb form 7) (placed o form) (Err Unknown)

-- 01's number for an answer: 0 for a code, or for an operation and a form, which are no refusal
abbrev pub refusal_of : {A : Type 0} → Result A Refusal → ℕ
refusal_of (Ok a) = 0
refusal_of (Err refusal) = number_of refusal

-- the values of an answer: a code's page and code, and an operation and its form as docs/ROWS.md numbers them; a refusal has none
abbrev pub values_of : Result Code Refusal → List ℕ
values_of (Ok c) = c.page ∷ c.code ∷ []
values_of (Err refusal) = []

abbrev pub values_of_named : Result Named Refusal → List ℕ
values_of_named (Ok n) = n.operation ∷ n.form ∷ []
values_of_named (Err refusal) = []

abbrev pub named : ℕ → ℕ → Result Named Refusal
named operation form = Ok (record { operation = operation; form = form })

-- what is found in a form, or else another answer
abbrev pub in_form : ℕ → Option ℕ → Result Named Refusal → Result Named Refusal
in_form form (Some row) other = named (row % 256) form
in_form form None other = other

abbrev pub row_among : ℕ → ℕ → List ℕ → Result Named Refusal
row_among page code [] = Err Undefined
row_among page code (form ∷ fs) = in_form form (find true code (table_of page form)) (row_among page code fs)

-- the operation and the form of a code, in the form that has it
unfoldable pub row_of : ℕ → ℕ → Result Named Refusal
row_of page code = row_among page code forms
