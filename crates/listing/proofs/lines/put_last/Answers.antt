-- `listing::lines::put_last` meets its contract: the parts of the line follow one another.
-- Assumes nothing.
use Rattle.ground.proofs.Stores.{wrote_one, and_then}
use Rattle.listing.specs.Lines.{last_line}
use Rattle.listing.proofs.Writing.{decimal_short}
use native.Mathlib.Omega.{arith}
use Rattle.listing.proofs.lines.put_last.Goals as goal

pub put_decimal-end-requires : goal.put_decimal-end-requires
put_decimal-end-requires c = omega (arith, c.put_word-said.ensures.next)

pub overflow_add-result : goal.overflow_add-result
overflow_add-result c = omega (arith, c.put_decimal-end.ensures.next, c.put_word-said.ensures.next, decimal_short c.args.n)

pub returns : goal.returns
unfolding last_line
returns c = and_then c.put_word-said.ensures (and_then c.put_decimal-end.ensures (wrote_one c.store.ensures))
