-- One walk over the statements (01, "Passes").
use Rattle.std.specs.Prelude.{ℕ, zero, suc, ◌+◌, ◌*◌, ◌%◌, Bool, false, ◌&&◌, ◌||◌, not, List, get_or, set, replicate, eqb, Option, Some, None, Result, Ok, Err, is_none}
use Rattle.std.specs.Option.{option_or}
use Rattle.ground.specs.Choice.{pick}
use Rattle.ground.specs.declared.refusals.Refusal.{Refusal}
use Rattle.segments.specs.Segments.{added_to, table_after}
use Rattle.values.specs.declared.pages.Page.TheVariants.{Known}
use Rattle.statements.specs.declared.Effect.{Effect}
use Rattle.statements.specs.Listing.{none, label_at}
use Rattle.statements.specs.Turns.{turned}
use Rattle.statements.specs.Effects.{effect_at, counted_of}
use Rattle.passes.specs.declared.walk.State.{State}
use Rattle.passes.specs.Labels.{ill_of}

-- what the passes read: the statements, the items of FCB, FDB and FCC, and the nodes
pub record Source : Type 0 where
  pub list : List ℕ
  pub items : List ℕ
  pub nodes : List ℕ

abbrev pub source : List ℕ → List ℕ → List ℕ → Source
source list items nodes = record { list = list; items = items; nodes = nodes }

-- what a walk changes: its state, the label table, the sizes and the segment starts
pub record Walk : Type 0 where
  pub state : State
  pub labels : List ℕ
  pub sizes : List ℕ
  pub starts : List ℕ

abbrev pub walk : State → List ℕ → List ℕ → List ℕ → Walk
walk s ls zs ts = record { state = s; labels = ls; sizes = zs; starts = ts }

-- "A pass walks from 0 with the page clean", which is page 0; no segment but 0 is counted, no statement is refused or passed yet, and nothing has changed
abbrev pub begun : State
begun = record { at = 0; count = 0; page = Known 0; refusal = None; fine = 0; changed = false }

-- the location of a statement: "Running to 65536 is allowed; a label there is 0"
abbrev pub here_of : State → ℕ
here_of s = s.at % 65536

-- a label's address or a size was stored, and it was another before
abbrev pub touched : Bool → State → State
touched other s = record {
  at = s.at;
  count = s.count;
  page = s.page;
  refusal = s.refusal;
  fine = s.fine;
  changed = s.changed || other;
}

-- ---- "a label takes the running address"
-- statement i sets its own label: it has one, and that is not refused
unfoldable pub marks_of : List ℕ → ℕ → Bool
marks_of list i = not (eqb (label_at list i) none) && not (ill_of list i)

-- the place of its label's address
abbrev pub cell_of : List ℕ → ℕ → ℕ
cell_of list i = label_at list i * 3 + 1

unfoldable pub marked_labels : List ℕ → ℕ → State → List ℕ → List ℕ
marked_labels list i s ls = pick (marks_of list i) (set ls (cell_of list i) (here_of s)) ls

unfoldable pub marked_state : List ℕ → ℕ → State → List ℕ → State
marked_state list i s ls = pick (marks_of list i) (touched (not (eqb (get_or ls (cell_of list i) 0) (here_of s))) s) s

-- ---- what the statement does and counts in this pass
-- "fresh instructions": its effect at the running address on the pass's page, whatever size it had in the pass before
unfoldable pub effect_in : Source → List ℕ → ℕ → State → Effect
effect_in src ls i s =
    counted_of s.at (effect_at src.list src.items src.nodes ls i (here_of s) s.page (ill_of src.list i))

-- ---- its size is kept, to see whether a pass changes it
unfoldable pub sized_state : List ℕ → ℕ → Effect → State → State
sized_state zs i e s = touched (not (eqb (get_or zs i 0) e.size)) s

-- ---- the running address
-- statement i with its refusal, if it has one: a pass answers "its first refusal"; `fine` is how many statements stand before that one
unfoldable pub judged : ℕ → Option Refusal → State → State
judged i why s = record {
  at = s.at;
  count = s.count;
  page = s.page;
  refusal = option_or s.refusal why;
  fine = pick (is_none (option_or s.refusal why)) (i + 1) s.fine;
  changed = s.changed;
}

-- "size is added", and the page is what the statement leaves
abbrev pub grown : Effect → State → State
grown e s = record {
  at = s.at + e.size;
  count = s.count;
  page = turned e.turn s.page;
  refusal = s.refusal;
  fine = s.fine;
  changed = s.changed;
}

-- "moves the running address to its operand"
abbrev pub moved : ℕ → ℕ → State → State
moved to count s = record {
  at = to;
  count = count;
  page = s.page;
  refusal = s.refusal;
  fine = s.fine;
  changed = s.changed;
}

-- "ORG adds its own [segment] and moves"; 12 and 17 are its refusals, and "a refused ORG moves nothing"
unfoldable pub origin_from : Result ℕ Refusal → ℕ → ℕ → State → State
origin_from (Ok count) i to s = judged i None (moved to count s)
origin_from (Err why) i to s = judged i (Some why) s

abbrev pub origin_state : List ℕ → ℕ → ℕ → State → State
origin_state ts i to s = origin_from (added_to ts s.count to) i to s

-- what a statement does: it moves, or is added
abbrev pub advanced_by : Option ℕ → List ℕ → ℕ → Effect → State → State
advanced_by (Some to) ts i e s = origin_state ts i to s
advanced_by None ts i e s = judged i e.refusal (grown e s)

unfoldable pub advanced_state : List ℕ → ℕ → Effect → State → State
advanced_state ts i e s = advanced_by e.to ts i e s

abbrev pub starts_by : Option ℕ → List ℕ → State → List ℕ
starts_by (Some to) ts s = table_after ts s.count to
starts_by None ts s = ts

unfoldable pub advanced_starts : List ℕ → Effect → State → List ℕ
advanced_starts ts e s = starts_by e.to ts s

-- ---- one statement: its label is marked at once, so that its own operand sees it; then its effect is taken, sized and counted
unfoldable pub mark_of : List ℕ → ℕ → Walk → Walk
mark_of list i w =
    walk (marked_state list i w.state w.labels) (marked_labels list i w.state w.labels) w.sizes w.starts

unfoldable pub resize_of : ℕ → Effect → Walk → Walk
resize_of i e w = walk (sized_state w.sizes i e w.state) w.labels (set w.sizes i e.size) w.starts

unfoldable pub advance_of : ℕ → Effect → Walk → Walk
advance_of i e w =
    walk (advanced_state w.starts i e w.state) w.labels w.sizes (advanced_starts w.starts e w.state)

-- the marked walk with the statement's effect
unfoldable pub done_of : ℕ → Effect → Walk → Walk
done_of i e w = advance_of i e (resize_of i e w)

unfoldable pub step_of : Source → ℕ → Walk → Walk
step_of src i w = done_of i (effect_in src (mark_of src.list i w).labels i w.state) (mark_of src.list i w)

-- the n statements from i on
unfoldable pub walk_of : Source → ℕ → ℕ → Walk → Walk
walk_of src zero i w = w
walk_of src (suc n) i w = walk_of src n (i + 1) (step_of src i w)

-- "Each pass begins with segment 0 alone": there is room for 63 starts beside it
abbrev pub start_of : List ℕ → List ℕ → Walk
start_of ls zs = walk begun ls zs (replicate 63 0)

-- the walk before statement i of a pass over these tables
unfoldable pub walk_to : Source → List ℕ → List ℕ → ℕ → Walk
walk_to src ls zs i = walk_of src i 0 (start_of ls zs)
