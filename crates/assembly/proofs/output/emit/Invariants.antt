-- `assembly::output::emit` meets its contract. The loop's invariant: what is left, from the present place on, completes the whole.
-- Assumes nothing.
use Rattle.passes.specs.Walks.{source}
use Rattle.assembly.proofs.Turns.{Gone}
use Rattle.assembly.proofs.output.emit.Given as goal

abbrev pub invariant-loop-i : goal.invariant-loop-i
invariant-loop-i l = Gone (source l.list l.items l.nodes) l.labels l.n l.initial.objects l.initial.values l.objects l.values l.s l.i
