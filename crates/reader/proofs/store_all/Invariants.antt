-- `reader::store_all` meets its contract: what is left of the text, stored after what is, is the whole.
-- Assumes nothing.
use Prim.Native.Nat.{◌-◌}
use lib.ListN.{length}
use Rattle.reader.proofs.Tallies.{Storing}
use Rattle.reader.proofs.store_all.Given as goal

abbrev pub invariant-loop-line : goal.invariant-loop-line
invariant-loop-line l = Storing l.text l.initial.bytes l.initial.rows l.at l.tally l.bytes l.rows

abbrev pub decreases-loop-line : goal.decreases-loop-line
decreases-loop-line l = length l.text - l.at
