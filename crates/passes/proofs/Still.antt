-- A pass that changed nothing leaves the label table and the sizes as they were, at every statement, so it can be walked again: what is written
-- out from the settled tables is what the pass counted.
-- Assumes nothing.
use mathlib.Core.Path.{◌≡◌, refl, ap, ◌∙◌, sym}
use mathlib.Core.Bool.{Bool, true, false, ◌||◌, not}
use mathlib.Core.List.{List}
use Prim.Native.Nat.{ℕ, zero, suc, ◌+◌, ◌≤◌, ◌<◌}
use native.Mathlib.Nat.{le_of_suc-le-suc}
use native.Mathlib.Omega.{arith}
use lib.Dec.{eqb}
use lib.ListN.{get_or, set}
use lib.Seq.{set-get_or}
use borrow.Author.Tests.{eqb-true, not-false}
use Rattle.ground.specs.Choice.{pick}
use Rattle.ground.proofs.Tests.{neither_left, neither_right}
use Rattle.std.proofs.Common.{Option, Some, None, Result, Ok, Err}
use Rattle.ground.specs.declared.refusals.Refusal.{Refusal}
use Rattle.segments.specs.Segments.{added_to}
use Rattle.statements.specs.declared.Effect.{Effect}
use Rattle.passes.specs.declared.walk.State.{State}
use Rattle.statements.specs.Listing.{rows_of}
use Rattle.passes.specs.Walks.{Source, Walk, walk, start_of, here_of, touched, marks_of, cell_of, marked_labels, marked_state, effect_in, sized_state, judged, origin_from, advanced_by, advanced_state, mark_of, resize_of, advance_of, done_of, step_of, walk_of, walk_to}
use Rattle.passes.specs.Passes.{pass_of}
use Rattle.passes.proofs.Turns.{walk_more}

same_cell : (l : List ℕ) (i v : ℕ) → not (eqb (get_or l i 0) v) ≡ false → set l i v ≡ l
same_cell l i v e =
    ap (λ (x : ℕ). set l i x) (sym (eqb-true (get_or l i 0) v (not-false (eqb (get_or l i 0) v) e))) ∙ set-get_or l i 0

-- what is not touched is as it was
untouched : (other : Bool) (s : State) → s.changed || other ≡ false → touched other s ≡ s
untouched other s e =
    ap {B = State}
    (λ (b : Bool). record { at = s.at; count = s.count; page = s.page; refusal = s.refusal; fine = s.fine; changed = b })
    (e ∙ sym (neither_left s.changed other e))

origin_changed : (r : Result ℕ Refusal) (i to : ℕ) (s : State) → (origin_from r i to s).changed ≡ s.changed
unfolding origin_from judged
origin_changed (Ok count) i to s = refl
origin_changed (Err why) i to s = refl

advanced_changed : (ts : List ℕ) (i : ℕ) (e : Effect) (s : State) → (advanced_state ts i e s).changed ≡ s.changed
unfolding advanced_state judged
advanced_changed ts i e s = go e.to
  where
    go : (to : Option ℕ) → (advanced_by to ts i e s).changed ≡ s.changed
    go None = refl
    go (Some to) = origin_changed (added_to ts s.count to) i to s

-- v is w, but for its state and its segments
pub record Still (v w : Walk) : Type 0 where
  pub before : w.state.changed ≡ false
  pub labels : v.labels ≡ w.labels
  pub sizes : v.sizes ≡ w.sizes

still_trans : (u v w : Walk) → Still u v → Still v w → Still u w
still_trans u v w p q = record { before = q.before; labels = p.labels ∙ q.labels; sizes = p.sizes ∙ q.sizes }

-- marking changed nothing: it is the identity
marked_still :
    (marks : Bool) (ls : List ℕ) (k x : ℕ) (s : State) → (pick marks (touched (not (eqb (get_or ls k 0) x)) s) s).changed ≡ false →
    (pick marks (touched (not (eqb (get_or ls k 0) x)) s) s ≡ s) × (pick marks (set ls k x) ls ≡ ls)
unfolding pick
marked_still false ls k x s e = (refl, refl)
marked_still true ls k x s e =
    let other = not (eqb (get_or ls k 0) x) in
    (untouched other s e, same_cell ls k x (neither_right s.changed other e))

mark_still : (list : List ℕ) (i : ℕ) (w : Walk) → (mark_of list i w).state.changed ≡ false → mark_of list i w ≡ w
unfolding mark_of marked_state marked_labels
mark_still list i w e =
    let m = marked_still (marks_of list i) w.labels (cell_of list i) (here_of w.state) w.state e in
    ap (λ (s : State). walk s (marked_labels list i w.state w.labels) w.sizes w.starts) m.0
    ∙ ap (λ (l : List ℕ). walk w.state l w.sizes w.starts) m.1

-- sizing changed nothing either
module _ (i : ℕ) (e : Effect) (w : Walk) (h : (done_of i e w).state.changed ≡ false) where
  unsized : w.state.changed || not (eqb (get_or w.sizes i 0) e.size) ≡ false
  unfolding done_of resize_of advance_of sized_state
  unsized = sym (advanced_changed w.starts i e (sized_state w.sizes i e w.state)) ∙ h

  done_state : (done_of i e w).state ≡ advanced_state w.starts i e w.state
  unfolding done_of resize_of advance_of sized_state
  done_state = ap (advanced_state w.starts i e) (untouched (not (eqb (get_or w.sizes i 0) e.size)) w.state unsized)

  done_still : Still (done_of i e w) w
  unfolding done_of resize_of advance_of
  done_still =
      let other = not (eqb (get_or w.sizes i 0) e.size) in
      record {
        before = neither_left w.state.changed other unsized;
        labels = refl;
        sizes = same_cell w.sizes i e.size (neither_right w.state.changed other unsized);
      }

module _ (src : Source) where
  -- a step that changed nothing takes its effect from the table that it found
  module _ (i : ℕ) (w : Walk) (h : (step_of src i w).state.changed ≡ false) where
    marked : mark_of src.list i w ≡ w
    unfolding step_of
    marked =
        mark_still src.list i w
        (done_still i (effect_in src (mark_of src.list i w).labels i w.state) (mark_of src.list i w) h).before

    as_done : step_of src i w ≡ done_of i (effect_in src w.labels i w.state) w
    unfolding step_of
    as_done = ap (λ (m : Walk). done_of i (effect_in src m.labels i w.state) m) marked

    done_same : (done_of i (effect_in src w.labels i w.state) w).state.changed ≡ false
    done_same = ap (λ (v : Walk). v.state.changed) (sym as_done) ∙ h

    step_state : (step_of src i w).state ≡ advanced_state w.starts i (effect_in src w.labels i w.state) w.state
    step_state = ap (λ (v : Walk). v.state) as_done ∙ done_state i (effect_in src w.labels i w.state) w done_same

    step_still : Still (step_of src i w) w
    step_still = rw as_done (done_still i (effect_in src w.labels i w.state) w done_same)

  walk_still : (n i : ℕ) (w : Walk) → (walk_of src n i w).state.changed ≡ false → Still (walk_of src n i w) w
  unfolding walk_of
  walk_still zero i w h = record { before = h; labels = refl; sizes = refl }
  walk_still (suc n) i w h =
      let s = walk_still n (i + 1) (step_of src i w) h in
      still_trans _ _ _ s (step_still i w s.before)

  -- the same at every statement on the way
  way_still : (k n i : ℕ) (w : Walk) → k ≤ n → (walk_of src n i w).state.changed ≡ false → (walk_of src k i w).state.changed ≡ false
  unfolding walk_of
  way_still zero n i w b h = (walk_still n i w h).before
  way_still (suc k) zero i w b h = absurd (omega arith)
  way_still (suc k) (suc n) i w b h = way_still k n (i + 1) (step_of src i w) (le_of_suc-le-suc b) h

  -- one statement more
  pub pass_next : (ls zs : List ℕ) (i : ℕ) → walk_to src ls zs (i + 1) ≡ step_of src i (walk_to src ls zs i)
  unfolding walk_to
  pass_next ls zs i = walk_more src i (start_of ls zs)

  -- ---- a settled pass over the tables ls and zs
  module _ (ls zs : List ℕ) (h : (pass_of src ls zs).state.changed ≡ false) where
    settled_to : (i : ℕ) → i ≤ rows_of src.list → (walk_to src ls zs i).state.changed ≡ false
    unfolding walk_to
    settled_to i b = way_still i (rows_of src.list) 0 (start_of ls zs) b h

    -- the tables are the settled ones at every statement
    pub settled_way : (i : ℕ) → i ≤ rows_of src.list → Still (walk_to src ls zs i) (start_of ls zs)
    unfolding walk_to
    settled_way i b = walk_still i 0 (start_of ls zs) (settled_to i b)

    -- so every statement has its effect at its address from the settled labels
    pub settled_effects :
        (i : ℕ) → i < rows_of src.list →
        (walk_to src ls zs (i + 1)).state
        ≡ advanced_state (walk_to src ls zs i).starts i (effect_in src ls i (walk_to src ls zs i).state) (walk_to src ls zs i).state
    settled_effects i b =
        let w = walk_to src ls zs i in
        let next = pass_next ls zs i in
        let still = ap (λ (v : Walk). v.state.changed) (sym next) ∙ settled_to (i + 1) (omega arith) in
        ap (λ (v : Walk). v.state) next
        ∙ step_state i w still
        ∙ ap (λ (l : List ℕ). advanced_state w.starts i (effect_in src l i w.state) w.state) (settled_way i (omega arith)).labels

    -- another pass after it is the same pass
    pub settled_still : pass_of src (pass_of src ls zs).labels (pass_of src ls zs).sizes ≡ pass_of src ls zs
    settled_still =
        let s = settled_way (rows_of src.list) (omega arith) in
        ap (λ (l : List ℕ). pass_of src l (pass_of src ls zs).sizes) s.labels ∙ ap (λ (z : List ℕ). pass_of src ls z) s.sizes
