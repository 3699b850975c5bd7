-- `reader::runs::line_on` meets its contract, a return for each line that may stand there.
-- Assumes nothing.
use Rattle.reader.proofs.Stretches.{no_line_on, broken_on, line_off}
use Rattle.reader.proofs.runs.line_on.Goals as goal

pub returns-then-line-reached : goal.returns-then-line-reached
returns-then-line-reached c = (rw c.in-Ok-Some.field-0-is at c.in-Ok-Some.ensures, c.if-line-reached.true)

pub returns-else-line-reached : goal.returns-else-line-reached
returns-else-line-reached c = line_off _ _ _ c.in-Ok-Some.line (rw c.in-Ok-Some.field-0-is at c.in-Ok-Some.ensures) c.if-line-reached.false

pub returns-in-Ok-None : goal.returns-in-Ok-None
returns-in-Ok-None c = no_line_on _ _ _ (rw c.in-Ok-None.field-0-is at c.in-Ok-None.ensures)

pub returns-in-Err : goal.returns-in-Err
returns-in-Err c = broken_on _ _ _ _ c.in-Err.ensures
