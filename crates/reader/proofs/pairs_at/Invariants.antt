-- `reader::pairs_at` meets its contract. What is left of the digits, counted and added to what was passed, is the whole.
-- Assumes nothing.
use mathlib.Core.Path.{◌≡◌}
use Prim.Native.Nat.{◌+◌, ◌-◌, ◌*◌, ◌%◌, ◌<◌, ◌≤◌}
use lib.ListN.{length, drop}
use Rattle.records.specs.Line.{sum}
use Rattle.reader.specs.Digits.{bytes_in}
use Rattle.reader.proofs.pairs_at.Given as goal

abbrev pub invariant-loop-byte : goal.invariant-loop-byte
invariant-loop-byte l =
    (l.end + 2 * length (bytes_in (drop l.end l.text)) ≡ l.from + 2 * length (bytes_in (drop l.from l.text)))
    × ((l.sum + sum (bytes_in (drop l.end l.text))) % 256 ≡ sum (bytes_in (drop l.from l.text)) % 256)
    × (l.sum < 256)
    × (l.end ≤ length l.text)

abbrev pub decreases-loop-byte : goal.decreases-loop-byte
decreases-loop-byte l = length l.text - l.end
