-- `postbytes::lists::set_of` meets its contract. The loop's invariant: the set is that of the registers before its place.
-- Assumes nothing.
use mathlib.Core.Path.{◌≡◌}
use lib.ListN.{take}
use Rattle.postbytes.specs.Meanings.{set_of}
use Rattle.postbytes.proofs.lists.set_of.Given as goal

abbrev pub invariant-loop-register : goal.invariant-loop-register
invariant-loop-register l = l.set ≡ set_of (take l.register-index l.register-items)
