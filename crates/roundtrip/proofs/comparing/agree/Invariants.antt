-- `roundtrip::comparing::agree` meets its contract. The invariant: what agreed so far, and what is left of the list and of the run, are the whole of both.
-- Assumes nothing.
use Rattle.decoder.specs.Origin.{origin}
use Rattle.roundtrip.proofs.Agreeing.{Agreeing}
use Rattle.roundtrip.proofs.comparing.agree.Given as goal

abbrev pub invariant-loop-place : goal.invariant-loop-place
invariant-loop-place l = Agreeing l.list l.theirs (origin l.address l.page) l.at l.place
