-- The table that the passes leave holds numbers of 16 bits, as the lent one does.
-- Assumes nothing.
use mathlib.Core.List.{List}
use Prim.Native.Nat.{ℕ, zero, suc, ◌+◌}
use native.Mathlib.Omega.{arith}
use lib.Dec.{eqb, ltb}
use lib.ListN.{replicate}
use Rattle.ground.proofs.Choices.{by_pick}
use Rattle.expressions.specs.Finding.{label_row}
use Rattle.expressions.specs.Numbers.{Cells, Short}
use Rattle.expressions.proofs.Every.{cells_set, label_node_has}
use Rattle.statements.specs.Listing.{rows_of}
use Rattle.passes.specs.Labels.{bearer_of, begun_state, begun_rows, begun_table}
use Rattle.passes.specs.Walks.{Source, Walk, here_of, cell_of, marks_of, marked_labels, mark_of, resize_of, advance_of, done_of, step_of, walk_of, start_of, walk_to}
use Rattle.passes.specs.Passes.{Outcome, pass_of, after_of, settle_of, most_passes, passed_of}

-- ---- before the first pass
state_short : (list ls : List ℕ) (k : ℕ) → Short (begun_state list ls k)
unfolding begun_state
state_short list ls k =
    by_pick Short (eqb (label_row ls k).first 2) (omega arith) (by_pick Short (ltb (bearer_of list k) (rows_of list)) (omega arith) (omega arith))

rows_short : (list ls : List ℕ) → Cells Short ls → (n k : ℕ) → Cells Short (begun_rows list ls n k)
unfolding begun_rows
rows_short list ls h zero k j = omega arith
rows_short list ls h (suc n) k zero = state_short list ls k
rows_short list ls h (suc n) k (suc zero) = omega arith
rows_short list ls h (suc n) k (suc (suc zero)) = label_node_has Short (omega arith) ls k h
rows_short list ls h (suc n) k (suc (suc (suc j))) = rows_short list ls h n (k + 1) j

-- ---- in every pass
module _ (src : Source) where
  step_short : (i : ℕ) (w : Walk) → Cells Short w.labels → Cells Short (step_of src i w).labels
  unfolding step_of done_of resize_of advance_of mark_of marked_labels
  step_short i w h =
      by_pick (Cells Short) (marks_of src.list i) (cells_set Short w.labels (cell_of src.list i) (here_of w.state) h (omega arith)) h

  walk_short : (n i : ℕ) (w : Walk) → Cells Short w.labels → Cells Short (walk_of src n i w).labels
  unfolding walk_of
  walk_short zero i w h = h
  walk_short (suc n) i w h = walk_short n (i + 1) (step_of src i w) (step_short i w h)

  pass_short : (ls zs : List ℕ) → Cells Short ls → Cells Short (pass_of src ls zs).labels
  unfolding walk_to
  pass_short ls zs h = walk_short (rows_of src.list) 0 (start_of ls zs) h

  settle_short : (n made : ℕ) (ls zs : List ℕ) → Cells Short ls → Cells Short (settle_of src n made ls zs).table
  unfolding settle_of after_of
  settle_short zero made ls zs h = h
  settle_short (suc n) made ls zs h =
      let w = pass_of src ls zs in
      let short = pass_short ls zs h in
      by_pick (λ (o : Outcome). Cells Short o.table) w.state.changed (settle_short n (made + 1) w.labels w.sizes short) short

  pub passed_short : (ls : List ℕ) → Cells Short ls → Cells Short (passed_of src ls).table
  unfolding passed_of begun_table
  passed_short ls h = settle_short most_passes 0 (begun_table src.list ls) (replicate 1024 0) (rows_short src.list ls h 512 0)
