-- `reader::measure` meets its contract: what is left of the text, added to the tally, comes to what the whole does.
-- Assumes nothing.
use Rattle.reader.proofs.Tallies.{Walked}
use mathlib.Core.Path.{◌≡◌}
use Prim.Native.Nat.{◌-◌}
use lib.ListN.{length, drop}
use Rattle.reader.specs.Lines.{records_in}
use Rattle.reader.specs.Answers.{size_of}
use Rattle.reader.specs.Steps.{totalled}
use Rattle.reader.proofs.measure.Given as goal

abbrev pub invariant-loop-line : goal.invariant-loop-line
invariant-loop-line l =
    (totalled l.tally (records_in (drop l.at l.text)) ≡ size_of (records_in l.text))
    × Walked l.text l.at l.tally

abbrev pub decreases-loop-line : goal.decreases-loop-line
decreases-loop-line l = length l.text - l.at
