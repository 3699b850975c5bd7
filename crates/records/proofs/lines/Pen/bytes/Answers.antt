-- A turn writes one more of the bytes.
-- Assumes nothing.
use native.Mathlib.Omega.{arith}
use Rattle.records.proofs.Writing.{penned_next, penned_at}
use Rattle.records.proofs.lines.Pen.bytes.Goals as goal

pub byte-pen-requires : goal.byte-pen-requires
byte-pen-requires c = omega (arith, penned_at c.args.bytes.now (omega arith) c.loop-b.invariant)

pub loop-b-preserved : goal.loop-b-preserved
loop-b-preserved c = penned_next c.args.bytes.now c.loop-b-test.true c.loop-b.invariant c.byte-pen.ensures
