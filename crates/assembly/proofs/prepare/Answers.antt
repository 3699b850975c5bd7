-- `assembly::prepare` meets its contract: what its calls ensure makes the plan.
-- Assumes nothing.
use mathlib.Core.Path.{◌∙◌, ap}
use native.Mathlib.Omega.{arith}
use Rattle.std.proofs.Common.{Result}
use Rattle.ground.specs.declared.refusals.Refusal.{Refusal}
use Rattle.assembly.specs.declared.output.Extent.{Extent}
use Rattle.assembly.proofs.Endings.{fine_few, plan_fits, plan_short}
use Rattle.assembly.proofs.prepare.Goals as goal

pub emit-extent-requires : goal.emit-extent-requires
emit-extent-requires c = rw c.settle_in-ended.ensures.answer (fine_few _ _)

pub returns-then-fits : goal.returns-then-fits
returns-then-fits c =
    let ended = c.settle_in-ended.ensures in
    let r = c.settle_in-ended.result in
    record {
      answer = ap (λ (x : Result Extent Refusal). record { passes = r.passes; fine = r.fine; extent = x }) c.and.ensures
          ∙ plan_fits _ _ _ _ _ _ _ _ _ _ ended.answer ended.table c.emit-extent.ensures.answer c.labels_fit.ensures (omega arith) c.if-fits.true;
      table = ended.table;
    }

pub returns-else-fits : goal.returns-else-fits
returns-else-fits c =
    let ended = c.settle_in-ended.ensures in
    record {
      answer = plan_short _ _ _ _ _ _ _ _ _ _ ended.answer ended.table c.emit-extent.ensures.answer c.labels_fit.ensures (omega arith) c.if-fits.false;
      table = ended.table;
    }
