-- `expressions::moving::move_labels` meets its contract: the part lent on is the rows that can belong to labels.
-- Assumes nothing.
use mathlib.Core.Path.{◌∙◌, sym}
use native.Mathlib.Nat.{le_of_lt}
use lib.Seq.{length-take-le}
use Rattle.expressions.specs.Moving.{moved_table}
use Rattle.expressions.proofs.Moves.{all_rows}
use Rattle.expressions.proofs.moving.move_labels.Goals as goal

pub returns-then-labels-most : goal.returns-then-labels-most
unfolding moved_table
returns-then-labels-most c =
    c.move_rows.ensures ∙ sym (all_rows _ _ _ 1536 _ c.if-labels-most.true)

pub slice_bounds-move_rows-end-2 : goal.slice_bounds-move_rows-end-2
slice_bounds-move_rows-end-2 c =
    sym (length-take-le 1536 c.args.labels.now (le_of_lt c.if-labels-most.false))

pub returns : goal.returns
unfolding moved_table
returns c = rw c.move_rows-2.ensures
