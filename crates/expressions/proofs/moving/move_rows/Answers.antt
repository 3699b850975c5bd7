-- `expressions::moving::move_rows` meets its contract: the rows passed, and then what moving makes of the rest, are always the same list.
-- Assumes nothing.
use mathlib.Core.Path.{◌≡◌, ◌∙◌, sym}
use Prim.Native.Nat.{◌+◌, ◌*◌}
use native.Mathlib.Omega.{arith}
use Rattle.expressions.proofs.Moves.{more, done}
use Rattle.expressions.proofs.moving.move_rows.Goals as goal

pub loop-row-preserved : goal.loop-row-preserved
loop-row-preserved c =
    let l = c.loop-row in
    let next : (l.row + 1) * 3 ≡ l.row * 3 + 3 = omega arith in
    rw (next, c.moved.ensures) (more _ _ _ l.labels (l.row * 3) (omega arith) ∙ l.invariant)

pub returns : goal.returns
returns c =
    let l = c.loop-row in
    sym (done _ _ _ l.labels (l.row * 3) (omega arith)) ∙ l.invariant
