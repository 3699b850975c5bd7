-- `assembly::assemble` meets its contract: a refusal leaves everything, and else everything is stored.
-- Assumes nothing.
use mathlib.Core.Path.{refl}
use Rattle.passes.specs.Walks.{source}
use Rattle.assembly.specs.Steps.{plan_of}
use Rattle.assembly.proofs.Endings.{fine_few, refused_answers, stored_answers}
use Rattle.assembly.proofs.assemble.Goals as goal

pub returns-in-Err : goal.returns-in-Err
returns-in-Err c =
    let p = refused_answers (source c.args.list.now c.args.items.now c.args.nodes.now) c.args.labels.now c.args.objects.now c.args.values.now _ c.prepare-plan.ensures.answer _ _ c.in-Err.is refl in
    record { answer = p.0; labels = p.1.0; objects = p.1.1.0; values = p.1.1.1 }

pub store_all-requires : goal.store_all-requires
unfolding plan_of
store_all-requires c = rw c.prepare-plan.ensures.answer (fine_few _ _)

pub returns-in-Ok : goal.returns-in-Ok
returns-in-Ok c =
    let plan = c.prepare-plan.ensures in
    let put = c.store_all.ensures in
    let p = stored_answers (source c.args.list.now c.args.items.now c.args.nodes.now) c.args.labels.now c.args.objects.now c.args.values.now _ plan.answer _ c.in-Ok.is _ _ plan.table _ _ _ _ put.labels put.objects put.values refl in
    record { answer = p.0; labels = p.1.0; objects = p.1.1.0; values = p.1.1.1 }
