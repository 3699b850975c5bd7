-- What is left of the bytes, stored after those that are, is the whole.
-- Assumes nothing.
use Rattle.roundtrip.proofs.Values.{Storing}
use Rattle.roundtrip.proofs.writing.store_values.Given as goal

abbrev pub invariant-loop-i : goal.invariant-loop-i
invariant-loop-i l = Storing l.bytes l.initial.values l.values l.i
