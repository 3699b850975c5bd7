-- `joltwagon::placing::jw_segment_of` meets its contract.
-- Assumes nothing.
use native.Mathlib.Omega.{arith}
use Rattle.joltwagon.proofs.Starts.{none_found, found}
use Rattle.joltwagon.proofs.placing.jw_segment_of.Goals as goal

pub returns-then-segments-eq0 : goal.returns-then-segments-eq0
returns-then-segments-eq0 c = none_found _ _ _ c.if-segments-eq0.true

pub overflow_cast-count : goal.overflow_cast-count
overflow_cast-count c = omega (arith, c.shared_slice_known-2-1.given 0)

pub returns : goal.returns
returns c = found _ _ _ c.if-segments-eq0.false c.segment_of-found.ensures c.hand.ensures
