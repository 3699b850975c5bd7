-- `reader::runs::follow_on` meets its contract: a run goes on from where it stands as it does from its start.
-- Assumes nothing.
use native.Mathlib.Omega.{arith}
use Rattle.std.proofs.Common.{Some}
use Rattle.reader.specs.Steps.{OnIs}
use Rattle.reader.proofs.Stretches.{goes_on_lem}
use Rattle.reader.proofs.runs.follow_on.Goals as goal

pub loop-line-preserved : goal.loop-line-preserved
loop-line-preserved c =
    let v = c.loop-line in
    let w : OnIs c.args.text.now v.at v.end (Some c.in-Some.line) = rw c.in-Some.is at c.line_on.ensures in (
      λ p h. goes_on_lem _ _ p _ _ (v.invariant.0 p h) c.in-Some.line w,
      w.0.fits.within,
      omega (arith, v.invariant.2),
    )
