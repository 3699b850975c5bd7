-- `reader::runs::run_at` meets its contract: the whole text is asked first, the run there second.
-- Assumes nothing.
use mathlib.Core.Path.{sym, ◌∙◌}
use native.Mathlib.Omega.{arith}
use Rattle.std.proofs.lemmas.Result.{err_from_is_err_and}
use Rattle.reader.proofs.Handing.{asked_before, asked_refused, asked_there}
use Rattle.reader.proofs.runs.run_at.Goals as goal
use Rattle.reader.proofs.runs.run_at.Goals.{then-at-eq0+in_ok-measure, else-at-eq0}

pub returns-in_err-measure : goal.returns-in_err-measure
returns-in_err-measure c =
    let p = err_from_is_err_and c.from_residual.result c.from_residual.ensures.1 in
    rw (p.1, p.2) (sym (asked_refused _ _ _ (omega (arith, c.if-at-eq0.true)) (sym c.in_err-measure.ensures)))

pub returns : goal.returns
returns c =
    c.run_there.ensures
    ∙ sym (elim c.if-at-eq0.branch [
      | then-at-eq0+in_ok-measure w ↦ asked_there _ _ _ (sym w.in_ok-measure.ensures)
      | else-at-eq0 w ↦ asked_before _ _ w.if-at-eq0.false
    ])
