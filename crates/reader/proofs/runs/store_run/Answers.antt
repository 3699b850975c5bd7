-- `reader::runs::store_run` meets its contract: the bytes of the run so far are stored, and each line that follows on adds its own.
-- Assumes nothing.
use Rattle.std.proofs.Common.{Some, None}
use Rattle.reader.specs.Steps.{OnIs}
use Rattle.reader.proofs.Stretches.{filling_first, filled, filling_on}
use Rattle.reader.proofs.runs.store_run.Goals as goal

pub loop-line-init : goal.loop-line-init
loop-line-init c = filling_first _ _ _ _ c.requires

pub loop-line-preserved : goal.loop-line-preserved
loop-line-preserved c =
    let v = c.loop-line in
    let w : OnIs c.args.text.now v.at v.end (Some c.in-Some.line) = rw c.in-Some.is at c.line_on.ensures in
    filling_on _ _ _ _ _ _ _ v.invariant c.in-Some.line _ w c.store_bytes.ensures

pub returns : goal.returns
returns c =
    let v = c.loop-line in
    let w : OnIs c.args.text.now v.at v.end None = rw c.in_default.is at c.line_on.ensures in
    filled _ _ _ _ _ _ _ v.invariant w
