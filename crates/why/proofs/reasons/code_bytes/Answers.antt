-- `why::reasons::code_bytes` meets its contract.
-- Assumes nothing.
use native.Mathlib.Omega.{arith}
use borrow.Author.Tests.{eq-eqb, ne_eqb}
use Rattle.ground.specs.Choice.{pick}
use Rattle.instruction.specs.Bytes.{code_size}
use Rattle.why.specs.Reasons.{code_bytes}
use Rattle.why.proofs.reasons.code_bytes.Goals as goal

pub returns-then-page-eq0 : goal.returns-then-page-eq0
unfolding code_bytes code_size pick
returns-then-page-eq0 c = record { is = rw (← c.code_of-coded.ensures, c.in-Ok.is, eq-eqb _ _ c.if-page-eq0.true); most = omega arith }

pub returns-else-page-eq0 : goal.returns-else-page-eq0
unfolding code_bytes code_size pick
returns-else-page-eq0 c = record { is = rw (← c.code_of-coded.ensures, c.in-Ok.is, ne_eqb _ _ c.if-page-eq0.false); most = omega arith }

pub returns-in-Err : goal.returns-in-Err
unfolding code_bytes
returns-in-Err c = record { is = rw (← c.code_of-coded.ensures, c.in-Err.is); most = omega arith }
