-- `expressions::moving::move_rows` meets its contract: the rows passed, and then what moving makes of the rest, are always the same list.
-- Assumes nothing.
use mathlib.Core.Path.{◌≡◌}
use Prim.Native.Nat.{◌*◌}
use Rattle.expressions.specs.Moving.{moved_rows}
use Rattle.expressions.proofs.Moves.{to_do}
use Rattle.expressions.proofs.moving.move_rows.Given as goal

abbrev pub invariant-loop-row : goal.invariant-loop-row
invariant-loop-row l = to_do l.left l.right l.by l.labels (l.row * 3) ≡ moved_rows l.left l.right l.by l.initial.labels
