-- `postbytes::lists::registers_of` meets its contract. The loop's invariant: the registers read, and those that are left of the row, are the whole row's.
-- Assumes nothing.
use mathlib.Core.Path.{◌≡◌}
use Prim.Native.Nat.{◌+◌}
use lib.ListN.{drop}
use Rattle.postbytes.specs.ListsRead.{ticked}
use Rattle.postbytes.proofs.lists.registers_of.Given as goal

abbrev pub invariant-loop-i : goal.invariant-loop-i
invariant-loop-i l = l.set + ticked (drop l.i l.row) l.byte ≡ ticked l.row l.byte
