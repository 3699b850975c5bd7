-- `listing::lines::put_bytes` meets its contract: what is left of the bytes, written from here on, makes the whole.
-- Assumes nothing.
use mathlib.Core.Path.{◌≡◌}
use Prim.Native.Nat.{◌+◌, ◌*◌}
use lib.ListN.{length, drop}
use Rattle.listing.specs.Lines.{spaced}
use Rattle.listing.specs.Steps.{Leads}
use Rattle.listing.proofs.lines.put_bytes.Given as goal

abbrev pub invariant-loop-byte : goal.invariant-loop-byte
invariant-loop-byte l =
    Leads l.initial.out l.at (spaced l.bytes) l.out l.end (spaced (drop l.byte-index l.bytes))
    × (l.end ≡ l.at + 3 * l.byte-index)
    × (length l.out ≡ length l.initial.out)
