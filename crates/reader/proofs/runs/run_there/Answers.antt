-- `reader::runs::run_there` meets its contract, a return for each line that may stand at a place.
-- Assumes nothing.
use Rattle.std.proofs.lemmas.Result.{err_from_is_err_and}
use Rattle.reader.proofs.Stretches.{run_past, run_end, run_broken, run_data}
use Rattle.reader.proofs.runs.run_there.Goals as goal

pub returns-then-text-at : goal.returns-then-text-at
returns-then-text-at c = run_past _ _ c.if-text-at.true

pub returns-in_err-line : goal.returns-in_err-line
returns-in_err-line c =
    let p = err_from_is_err_and c.from_residual.result c.from_residual.ensures.1 in
    rw (p.1, p.2) (run_broken _ _ _ c.in_err-line.ensures)

pub returns-in-Some : goal.returns-in-Some
returns-in-Some c = run_data _ _ c.in-Some.line _ (rw c.in-Some.is at c.in_ok-line.ensures) c.run_from.ensures

pub returns-in-None : goal.returns-in-None
returns-in-None c = run_end _ _ (rw c.in-None.is at c.in_ok-line.ensures)
