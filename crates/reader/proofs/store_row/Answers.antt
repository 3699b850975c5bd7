-- `reader::store_row` meets its contract: the cells of a new row, or the second cell of the present one.
-- Assumes nothing.
use mathlib.Core.Path.{refl, sym, ◌∙◌}
use native.Mathlib.Omega.{arith}
use lib.Dec.{eqb}
use Rattle.reader.proofs.Tallies.{begins_some, row_begins, row_follows}
use Rattle.reader.proofs.store_row.Goals as goal

pub overflow_sub-row : goal.overflow_sub-row
overflow_sub-row c =
    let a = c.args in
    omega (arith, begins_some a.tally a.line.address (eqb a.tally.runs 0) refl (sym c.begins.ensures ∙ c.if-begins.false))

pub returns-then-begins : goal.returns-then-begins
returns-then-begins c =
    row_begins _ _ _ _ _ _
    c.store.ensures
    c.store-then-begins.ensures
    (sym c.begins.ensures ∙ c.if-begins.true)

pub returns-else-begins : goal.returns-else-begins
returns-else-begins c =
    row_follows _ _ _ _ _ c.store-else-begins.ensures (sym c.begins.ensures ∙ c.if-begins.false)
