-- `reader::store_all` meets its contract: what is left of the text, stored after what is, is the whole.
-- Assumes nothing.
use native.Mathlib.Omega.{arith}
use Rattle.std.proofs.Common.{Some, None, Ok}
use Rattle.reader.specs.Steps.{start, LineIs}
use Rattle.reader.proofs.Tallies.{fine_line, store_first, store_last, store_room, store_on}
use Rattle.reader.proofs.store_all.Goals as goal

pub loop-line-init : goal.loop-line-init
unfolding start
loop-line-init c = store_first _ _ _ c.requires

pub known_line_at-requires : goal.known_line_at-requires
known_line_at-requires c = fine_line _ c.loop-line.invariant.right

pub store_bytes-requires : goal.store_bytes-requires
store_bytes-requires c =
    let w : LineIs c.args.text.now c.loop-line.at (Ok (Some c.in-Some.line)) = rw c.in-Some.is at c.known_line_at.ensures in
    (w.fits.there, omega (arith, w.fits.within, w.fits.long, c.loop-line.invariant.walked.bytes))

pub store_row-requires : goal.store_row-requires
store_row-requires c =
    let w : LineIs c.args.text.now c.loop-line.at (Ok (Some c.in-Some.line)) = rw c.in-Some.is at c.known_line_at.ensures in (
      omega (arith, c.loop-line.invariant.walked.runs, c.loop-line.invariant.walked.within),
      w.fits.some,
      store_room _ _ _ _ _ _ _ c.loop-line.invariant _ w,
    )

pub with-tally-requires : goal.with-tally-requires
with-tally-requires c =
    let w : LineIs c.args.text.now c.loop-line.at (Ok (Some c.in-Some.line)) = rw c.in-Some.is at c.known_line_at.ensures in
    let v = c.loop-line.invariant.walked in
    omega (arith, w.fits.some, w.fits.few, w.fits.long, w.fits.within, v.bytes, v.runs)

pub loop-line-smaller : goal.loop-line-smaller
loop-line-smaller c =
    let w : LineIs c.args.text.now c.loop-line.at (Ok (Some c.in-Some.line)) = rw c.in-Some.is at c.known_line_at.ensures in
    omega (arith, w.fits.long, w.fits.within)

pub loop-line-preserved : goal.loop-line-preserved
loop-line-preserved c =
    let w : LineIs c.args.text.now c.loop-line.at (Ok (Some c.in-Some.line)) = rw c.in-Some.is at c.known_line_at.ensures in
    store_on _ _ _ _ _ _ _ c.loop-line.invariant _ w _ _ _ c.store_bytes.ensures c.store_row.ensures c.with-tally.ensures

pub returns : goal.returns
returns c =
    let w : LineIs c.args.text.now c.loop-line.at (Ok None) = rw c.in_default.is at c.known_line_at.ensures in
    store_last _ _ _ _ _ _ _ c.loop-line.invariant w
