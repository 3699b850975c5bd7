-- `assembly::output::step` meets its contract: what its calls ensure makes the step.
-- Assumes nothing.
use native.Mathlib.Omega.{arith}
use Rattle.assembly.specs.Objects.{values_built}
use Rattle.assembly.proofs.Turns.{step_joins}
use Rattle.assembly.proofs.output.step.Goals as goal

pub object-tallied-requires : goal.object-tallied-requires
object-tallied-requires c =
    let pre = c.requires in
    (pre.held, pre.short, omega arith, omega (arith, c.done_at-e.ensures.bound))

pub overflow_add-result : goal.overflow_add-result
overflow_add-result c =
    omega (arith, c.requires.values, c.store_values-count.type_inv)

pub returns : goal.returns
unfolding values_built
returns c =
    step_joins c.requires.near c.store_values-count.ensures.value c.store_values-count.ensures.values_after
    (omega (arith, c.store_values-count.type_inv)) c.kind_at-kind.ensures c.done_at-e.ensures.answer c.stands_at-address.ensures
    c.store_object-after.ensures.row c.store_object-after.ensures.bound c.next-next.ensures.answer c.next-next.ensures.bound
    c.object-tallied.ensures.answer c.object-tallied.ensures.bound
