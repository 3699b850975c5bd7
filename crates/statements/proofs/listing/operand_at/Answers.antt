-- `statements::listing::operand_at` meets its contract: the operand's numbers go on to the list's end, and a row that is not there has none.
-- Assumes nothing.
use mathlib.Core.Path.{ap, ◌∙◌}
use Prim.Native.Nat.{◌+◌, ◌*◌, ◌-◌}
use native.Mathlib.Omega.{arith}
use lib.ListN.{length, drop, length-drop}
use lib.Seq.{take_all}
use borrow.Author.Tests.{lt-ltb, le-ltb}
use Rattle.ground.specs.Choice.{pick}
use Rattle.statements.specs.Listing.{operand_row, entry_in, entry_at}
use Rattle.statements.proofs.listing.operand_at.Goals as goal

pub returns-then-i-rows_of : goal.returns-then-i-rows_of
unfolding entry_at operand_row pick
returns-then-i-rows_of c =
    let a = c.args in
    let l = a.list.now in
    let at = a.i * 20 + 5 in
    rw (← c.rows_of.ensures, lt-ltb _ _ c.if-i-rows_of.true)
    (c.entry.ensures ∙ ap entry_in (take_all (length l - at) (drop at l) (omega (arith, length-drop at l))))

pub returns : goal.returns
unfolding entry_at operand_row pick
returns c = rw (← c.rows_of.ensures, le-ltb _ _ c.if-i-rows_of.false) c.entry-2.ensures
