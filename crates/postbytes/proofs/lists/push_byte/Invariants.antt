-- `postbytes::lists::push_byte` meets its contract. The loop's invariant: the boxes ticked, and those that are left of the row, are the whole row's.
-- Assumes nothing.
use mathlib.Core.Path.{◌≡◌}
use Prim.Native.Nat.{◌+◌}
use lib.ListN.{drop}
use Rattle.postbytes.specs.ListsWritten.{ticks_of_set}
use Rattle.postbytes.proofs.lists.push_byte.Given as goal

abbrev pub invariant-loop-i : goal.invariant-loop-i
invariant-loop-i l = l.byte + ticks_of_set (drop l.i l.row) l.set ≡ ticks_of_set l.row l.set
