-- `reader::runs::read_run` meets its contract: measured first, stored second.
-- Assumes nothing.
use mathlib.Core.Path.{sym}
use Rattle.std.proofs.lemmas.Result.{err_from_is_err_and}
use Rattle.reader.proofs.Handing.{run_within, run_refused, run_no_room, run_stored}
use Rattle.reader.proofs.runs.read_run.Goals as goal

pub returns-in_err-run : goal.returns-in_err-run
returns-in_err-run c =
    let p = err_from_is_err_and c.from_residual.result c.from_residual.ensures.1 in
    rw (p.1, p.2) (run_refused _ _ _ _ (sym c.in_err-run.ensures))

pub returns-then-bytes-run : goal.returns-then-bytes-run
returns-then-bytes-run c = run_no_room _ _ _ (sym c.in_ok-run.ensures) _ c.if-bytes-run.true

pub store_run-requires : goal.store_run-requires
store_run-requires c = run_within _ _ _ (sym c.in_ok-run.ensures)

pub returns : goal.returns
returns c = run_stored _ _ _ (sym c.in_ok-run.ensures) _ _ c.if-bytes-run.false c.store_run.ensures
