-- `instruction::build_into` meets its contract.
-- Assumes nothing.
use mathlib.Core.Path.{sym, ◌∙◌}
use lib.Seq.{length-take-le}
use Rattle.instruction.proofs.Padded.{built_within}
use Rattle.instruction.proofs.build_into.Goals as goal

pub slice_bounds-store_all-end : goal.slice_bounds-store_all-end
slice_bounds-store_all-end c =
    let a = c.args in
    sym (length-take-le _ _ (built_within c.in_ok-built.built a.i a.v a.page a.address (sym c.build.ensures ∙ c.in_ok-built.was)))
