-- `published::compare` meets its contract: the lines that are compared and those that are left are the lines of the text.
-- Assumes nothing.
use Rattle.std.proofs.Common.{◌≡◌, length, ◌+◌, ◌*◌, ◌≤◌}
use Rattle.published.proofs.compare.Given as goal

abbrev pub invariant-loop-line : goal.invariant-loop-line
invariant-loop-line g l =
    (goal.iterator-loop-line g).can_next l.line-iterator
    × (goal.iterator-loop-line g).is_finite l.line-iterator
    × (l.line-iterator.size ≡ l.width)
    × (l.tally.compared * l.width + length l.line-iterator.rest.now ≡ length l.text)
    × (l.tally.differing ≤ l.tally.compared)
