-- `reader::runs::run_from` meets its contract: 18 where the run goes beyond 65535.
-- Assumes nothing.
use native.Mathlib.Omega.{arith}
use Rattle.reader.proofs.Stretches.{far_run, near_run}
use Rattle.reader.proofs.runs.run_from.Goals as goal

pub returns-then-run-gt65536 : goal.returns-then-run-gt65536
returns-then-run-gt65536 c =
    let f = c.follow_on-run in
    record {
      each = λ p a n. far_run _ _ _ p _ (f.ensures.each p (omega (arith, a, n))) a c.if-run-gt65536.true;
    }

pub returns : goal.returns
returns c =
    let f = c.follow_on-run in
    record {
      each = λ p a n. near_run _ _ _ p _ (f.ensures.each p (omega (arith, a, n))) a c.if-run-gt65536.false f.ensures.within;
    }
