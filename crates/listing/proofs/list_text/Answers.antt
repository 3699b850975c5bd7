-- `listing::list_text` meets its contract: the listing is measured, and then stored.
-- Assumes nothing.
use Rattle.listing.proofs.Answers.{no_room_lem, shown}
use native.Mathlib.Omega.{arith}
use borrow.Author.Tests.{lt-ltb, le-ltb}
use Rattle.listing.proofs.list_text.Goals as goal

pub returns-then-short : goal.returns-then-short
returns-then-short c =
    let a = c.args in
    let p = no_room_lem a.text.now a.out.now c.list_all-length.result (omega (arith, c.list_all-length.ensures.next)) (lt-ltb _ _ c.if-short.true) in
    record { value = p.value; out_after = p.after; counts = p.counts; enough = p.enough }

pub returns : goal.returns
returns c =
    let a = c.args in
    let p =
    shown a.text.now a.out.now c.list_all-length.result (omega (arith, c.list_all-length.ensures.next)) (le-ltb _ _ c.if-short.false)
    c.list_all.ensures in
    record { value = p.value; out_after = p.after; counts = p.counts; enough = p.enough }
