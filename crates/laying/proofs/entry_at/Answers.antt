-- `laying::entry_at` meets its contract: the row begins at its place and goes on to the list's end.
-- Assumes nothing.
use mathlib.Core.Path.{ap, ◌∙◌}
use Prim.Native.Nat.{◌-◌}
use native.Mathlib.Omega.{arith}
use lib.ListN.{length, drop, length-drop}
use lib.Seq.{take_all}
use Rattle.entries.specs.Entries.{entry_of}
use Rattle.laying.specs.Entries.{entry_at}
use Rattle.laying.proofs.entry_at.Goals as goal

pub returns : goal.returns
unfolding entry_at
returns c =
    let a = c.args in
    let l = a.list.now in
    c.entry_of.ensures ∙ ap entry_of (take_all (length l - a.row) (drop a.row l) (omega (arith, length-drop a.row l)))
