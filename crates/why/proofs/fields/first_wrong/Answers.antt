-- `why::fields::first_wrong` meets its contract.
-- Assumes nothing.
use mathlib.Core.Path.{refl, ap, ◌∙◌}
use Prim.Native.Nat.{ℕ}
use lib.Dec.{ltb}
use Rattle.rows.specs.Lookup.{known_of}
use Rattle.why.specs.Fields.{first_wrong}
use Rattle.why.specs.declared.Field.TheVariants.{Operation, Mode, Indirect, Forced, Step, Widening, Registers, Page}
use Rattle.why.proofs.Told.{by}
use Rattle.why.proofs.fields.first_wrong.Goals as goal

pub returns : goal.returns
unfolding first_wrong
returns c =
    by Operation c.if_wrong.ensures (c.known.ensures ∙ ap known_of c.byte_in-2.ensures)
    (by Mode c.if_wrong-from_mode.ensures (ap (λ (n : ℕ). ltb n 8) c.byte_in.ensures)
    (by Indirect c.if_wrong-from_indirect.ensures c.is_flag-3.ensures
    (by Forced c.if_wrong-from_forced.ensures c.is_flag-2.ensures
    (by Step c.if_wrong-from_step.ensures c.is_step_right.ensures
    (by Widening c.if_wrong-from_widening.ensures c.is_flag.ensures
    (by Registers c.if_wrong-from_registers.ensures c.are_registers_known.ensures
    (by Page c.if_wrong-from_page.ensures c.is_page_in.ensures refl)))))))
