-- `listing::lines::put_decimal` meets its contract: the places follow one another.
-- Assumes nothing.
use Rattle.ground.proofs.Stores.{wrote_one, and_then}
use Rattle.listing.specs.Lines.{decimal}
use Rattle.listing.proofs.Writing.{place_short}
use native.Mathlib.Omega.{arith}
use Rattle.listing.proofs.lines.put_decimal.Goals as goal

pub put_place-second-requires : goal.put_place-second-requires
put_place-second-requires c = let n = c.args.n in (omega (arith, c.put_place-first.ensures.next, place_short 10000 n), omega arith)

pub put_place-third-requires : goal.put_place-third-requires
put_place-third-requires c = let n = c.args.n in (omega (arith, c.put_place-second.ensures.next, c.put_place-first.ensures.next, place_short 10000 n, place_short 1000 n), omega arith)

pub put_place-fourth-requires : goal.put_place-fourth-requires
put_place-fourth-requires c = let n = c.args.n in (omega (arith, c.put_place-third.ensures.next, c.put_place-second.ensures.next, c.put_place-first.ensures.next, place_short 10000 n, place_short 1000 n, place_short 100 n), omega arith)

pub overflow_add-result : goal.overflow_add-result
overflow_add-result c = let n = c.args.n in omega (arith, c.put_place-fourth.ensures.next, c.put_place-third.ensures.next, c.put_place-second.ensures.next, c.put_place-first.ensures.next, place_short 10000 n, place_short 1000 n, place_short 100 n, place_short 10 n)

pub returns : goal.returns
unfolding decimal
returns c =
    and_then c.put_place-first.ensures
    (and_then c.put_place-second.ensures
    (and_then c.put_place-third.ensures (and_then c.put_place-fourth.ensures (wrote_one c.store.ensures))))
