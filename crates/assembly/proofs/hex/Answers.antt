-- `assembly::hex` meets its contract: a refusal leaves everything, and else everything is stored and its text written.
-- Assumes nothing.
use mathlib.Core.Path.{refl, sym, ◌∙◌}
use native.Mathlib.Omega.{arith}
use Rattle.passes.specs.Walks.{source}
use Rattle.assembly.specs.Steps.{plan_of}
use Rattle.assembly.proofs.Endings.{fine_few}
use Rattle.assembly.proofs.Written.{refused_answers, rows_there, values_there, written_answers}
use Rattle.assembly.proofs.hex.Goals as goal

pub returns-in-Err : goal.returns-in-Err
returns-in-Err c =
    let p = refused_answers (source c.args.list.now c.args.items.now c.args.nodes.now) c.args.labels.now c.args.objects.now c.args.values.now c.args.out.now _ c.prepare-plan.ensures.answer _ _ (sym c.roomy.ensures ∙ c.in-Err.is) refl in
    record { answer = p.0; labels = p.1.0; objects = p.1.1.0; values = p.1.1.1.0; text = p.1.1.1.1 }

pub store_all-requires : goal.store_all-requires
unfolding plan_of
store_all-requires c = rw c.prepare-plan.ensures.answer (fine_few _ _)

pub write_stored-requires : goal.write_stored-requires
write_stored-requires c =
    let plan = c.prepare-plan.ensures in
    let fits = sym c.roomy.ensures ∙ c.in-Ok.is in
    let a = c.args in
    let os = a.objects.now in
    let vs = a.values.now in
    let out = a.out.now in (
      rows_there _ _ os vs out _ plan.answer _ fits _ _ plan.table _ c.store_all.ensures.objects,
      values_there _ _ os vs out _ plan.answer _ fits _ _ plan.table _ c.store_all.ensures.values,
    )

pub returns-in-Ok : goal.returns-in-Ok
returns-in-Ok c =
    let plan = c.prepare-plan.ensures in
    let fits = sym c.roomy.ensures ∙ c.in-Ok.is in
    let put = c.store_all.ensures in
    let p = written_answers (source c.args.list.now c.args.items.now c.args.nodes.now) c.args.labels.now c.args.objects.now c.args.values.now c.args.out.now _ plan.answer _ fits _ _ plan.table _ _ _ _ _
    (λ k. omega (arith, c.shared_slice_known-3-1.given k)) (λ k. omega (arith, c.slice_known-1.given k)) put.labels put.objects put.values c.write_stored.ensures refl in
    record { answer = p.0; labels = p.1.0; objects = p.1.1.0; values = p.1.1.1.0; text = p.1.1.1.1 }
