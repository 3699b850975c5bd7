-- `meanings::offset_kind` meets its contract.
-- Assumes nothing.
use borrow.Author.Tests.{eq-eqb, ne_eqb}
use Rattle.ground.specs.Choice.{pick}
use Rattle.meanings.specs.Means.{offset_kind}
use Rattle.meanings.proofs.offset_kind.Goals as goal

pub returns-then-register-eq-PC : goal.returns-then-register-eq-PC
unfolding offset_kind pick
returns-then-register-eq-PC c = rw (eq-eqb _ _ c.if-register-eq-PC.true, ← c.offset_in-offset.ensures) (cc)

pub returns : goal.returns
unfolding offset_kind pick
returns c = rw (ne_eqb _ _ c.if-register-eq-PC.false, ← c.offset_in-offset.ensures)
