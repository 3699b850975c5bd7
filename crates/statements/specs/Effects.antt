-- What a statement does at an address (01, "Passes"): its refusal, what it counts, where it moves to, and what it does to the page.
use Rattle.std.specs.Prelude.{ℕ, ◌+◌, ◌*◌, Bool, List, Option, None, Some, Result, Ok, Err, ltb, leb}
use Rattle.std.specs.Option.{option_or}
use Rattle.std.specs.Result.{result_err, result_unwrap_or}
use Rattle.ground.specs.Choice.{pick}
use Rattle.ground.specs.declared.refusals.Refusal.{Refusal}
use Rattle.ground.specs.declared.refusals.Refusal.TheVariants as refusal
use Rattle.values.specs.declared.Value.{Value}
use Rattle.values.specs.declared.pages.Page.{Page}
use Rattle.rows.specs.Sizes.{smallest_size_of}
use Rattle.instruction.specs.declared.Values.{Values}
use Rattle.instruction.specs.declared.Record.{Record}
use Rattle.instruction.specs.declared.Built.{Built}
use Rattle.instruction.specs.Building.{no_values, operand_refusal, fresh_of}
use Rattle.statements.specs.declared.Statement.{Statement}
use Rattle.statements.specs.declared.Statement.TheVariants.{Label, Instruction, Rmb, Fcb, Fdb, Fcc, Org, Setdp, Unknown}
use Rattle.statements.specs.declared.Entry.{Entry}
use Rattle.statements.specs.declared.Datum.TheVariants.{Byte, Word, Character}
use Rattle.statements.specs.declared.Turn.TheVariants.{Keeps, Forgets, Sets}
use Rattle.statements.specs.declared.Effect.{Effect}
use Rattle.statements.specs.Order.{earlier, earliest}
use Rattle.statements.specs.Listing.{statement_at, entry_at}
use Rattle.statements.specs.Asking.{asked_of, wanted_of, answers_from, refusals_in}

-- a refusal, if there is one, and what the statement counts: it moves nothing and keeps the page: "no refused one dirties"
abbrev pub counts : Option Refusal → ℕ → Effect
counts why size = record { refusal = why; size = size; to = None; turn = Keeps }

-- the refusal of a statement's own label: "defined twice, or above 511"
unfoldable pub own_label : Bool → Option Refusal
own_label ill = pick ill (Some refusal.BadLabel) None

-- a refusal, or what comes after it where there is none
abbrev pub after : {A : Type 0} → Option Refusal → Result A Refusal → Result A Refusal
after None later = later
after (Some why) later = Err why

-- "11, 10, 3": an answer, beside the statement's own label
unfoldable pub labelled : {A : Type 0} → Result A Refusal → Bool → Result A Refusal
labelled a ill = after (earlier (result_err a) (own_label ill)) a

-- ---- an instruction
-- 1 and 2, which are told before any value is evaluated
unfoldable pub entry_refusal : Entry → Option Refusal
entry_refusal e = operand_refusal e.operand

-- the operand record: the page is the pass's
abbrev pub record_of : Entry → Result Values Refusal → Page → Record
record_of e a page = record { operand = e.operand; page = page; values = result_unwrap_or a no_values }

-- "fresh instructions", where the values are not refused
abbrev pub built_of : Entry → Result Values Refusal → Page → ℕ → Result Built Refusal
built_of e (Ok v) page here = fresh_of (record_of e (Ok v) page) here
built_of e (Err why) page here = Err why

-- "1, 2, 11, 10, 3, .. 7, 6, 5, 4, 8"
unfoldable pub made_of : Entry → Result Values Refusal → Bool → Page → ℕ → Result Built Refusal
made_of e a ill page here = after (entry_refusal e) (built_of e (labelled a ill) page here)

-- an accepted one counts its length, and "An operation that dirtied the page now makes it unknown"; "A refused instruction counts its row's smallest size", and "no row .. none"
abbrev pub instruction_effect : Entry → Result Built Refusal → Effect
instruction_effect e (Ok b) = record { refusal = None; size = b.length; to = None; turn = pick b.dirties Forgets Keeps }
instruction_effect e (Err why) = counts (Some why) (smallest_size_of e.operation)

-- ---- RMB and ORG
-- without an operand they are 3, and the 10 of their own label comes before it. RMB counts its number; "a refused RMB" counts "none"
abbrev pub reserved_effect : Result Value Refusal → Effect
reserved_effect (Ok v) = counts None v.number
reserved_effect (Err why) = counts (Some why) 0

-- "ORG .. moves the running address to its operand"; "a refused ORG moves nothing"
abbrev pub origin_effect : Result Value Refusal → Effect
origin_effect (Ok v) = record { refusal = None; size = 0; to = Some v.number; turn = Keeps }
origin_effect (Err why) = counts (Some why) 0

-- ---- SETDP
-- "1 for another SETDP number", before the 10 of its label; refused, it sets nothing
unfoldable pub setdp_effect : ℕ → Bool → Effect
setdp_effect number ill =
    pick (ltb number 256)
    (pick ill (counts (Some refusal.BadLabel) 0) (record { refusal = None; size = 0; to = None; turn = Sets number }))
    (counts (Some refusal.Unknown) 0)

-- ---- FCB, FDB, FCC
-- ".. 11, 10, 3, .. 6": of the label and all values the earliest in the order, wherever in the statement it stands
unfoldable pub data_refusal : List (Result Value Refusal) → Bool → Option Refusal
data_refusal answers ill = earlier (own_label ill) (earliest (refusals_in answers))

-- ---- every statement
-- "refused FCB, FDB, FCC [count] their full length", so they count it either way. In an ORG's operand "the location counts as 0".
abbrev pub effect_of : Statement → Entry → List ℕ → List ℕ → List ℕ → ℕ → Page → Bool → Effect
effect_of Label e items ns ls here page ill = counts (own_label ill) 0
effect_of (Instruction node) e items ns ls here page ill =
    instruction_effect e (made_of e (asked_of ns ls node here) ill page here)
effect_of (Rmb node) e items ns ls here page ill = reserved_effect (labelled (wanted_of ns ls node here) ill)
effect_of (Fcb first count) e items ns ls here page ill = counts (data_refusal (answers_from Byte items ns ls here first count) ill) count
effect_of (Fdb first count) e items ns ls here page ill = counts (data_refusal (answers_from Word items ns ls here first count) ill) (2 * count)
effect_of (Fcc first count) e items ns ls here page ill =
    counts (data_refusal (answers_from Character items ns ls here first count) ill) count
effect_of (Org node) e items ns ls here page ill = origin_effect (labelled (wanted_of ns ls node 0) ill)
effect_of (Setdp number) e items ns ls here page ill = setdp_effect number ill
effect_of Unknown e items ns ls here page ill = counts (Some refusal.Unknown) 0

-- statement i of a list, with its items, nodes and labels: at the address `here`, under a page, its own label ill or not
unfoldable pub effect_at : List ℕ → List ℕ → List ℕ → List ℕ → ℕ → ℕ → Page → Bool → Effect
effect_at list items ns ls i here page ill = effect_of (statement_at list i) (entry_at list i) items ns ls here page ill

-- at a running address from 0 to 65536: what would end beyond 65536 is 18 if it is accepted, and counts none either way; RMB too
unfoldable pub counted_of : ℕ → Effect → Effect
counted_of at e =
    pick (leb (at + e.size) 65536) e (counts (option_or e.refusal (Some refusal.Beyond)) 0)
