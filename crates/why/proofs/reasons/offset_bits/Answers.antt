-- `why::reasons::offset_bits` meets its contract.
-- Assumes nothing.
use borrow.Author.Tests.{eq-eqb, ne_eqb}
use Rattle.ground.specs.Choice.{pick}
use Rattle.why.specs.Reasons.{offset_bits}
use Rattle.why.proofs.reasons.offset_bits.Goals as goal

pub returns-then-registers-eq-PC : goal.returns-then-registers-eq-PC
unfolding offset_bits pick
returns-then-registers-eq-PC c = rw (eq-eqb _ _ c.if-registers-eq-PC.true) (cc)

pub returns-then-number-eq0 : goal.returns-then-number-eq0
unfolding offset_bits pick
returns-then-number-eq0 c = rw (ne_eqb _ _ c.if-registers-eq-PC.false, ← c.offset_number-number.ensures, eq-eqb _ _ c.if-number-eq0.true)

pub returns-then-five_bits : goal.returns-then-five_bits
unfolding offset_bits pick
returns-then-five_bits c = rw (ne_eqb _ _ c.if-registers-eq-PC.false, ← c.offset_number-number.ensures, ne_eqb _ _ c.if-number-eq0.false, ← c.five_bits.ensures, c.if-five_bits.true)

pub returns : goal.returns
unfolding offset_bits pick
returns c = rw (ne_eqb _ _ c.if-registers-eq-PC.false, ← c.offset_number-number.ensures, ne_eqb _ _ c.if-number-eq0.false, ← c.five_bits.ensures, c.if-five_bits.false) (cc)
