-- `reader::measure` meets its contract: what is left of the text, added to the tally, comes to what the whole does.
-- Assumes nothing.
use mathlib.Core.Path.{sym, ap, ◌∙◌}
use native.Mathlib.Omega.{arith}
use lib.ListN.{drop}
use Rattle.std.proofs.lemmas.Result.{err_from_is_err_and}
use Rattle.std.proofs.Common.{Some, None, Ok}
use Rattle.reader.specs.Lines.{records_in}
use Rattle.reader.specs.Steps.{start, LineIs, totalled}
use Rattle.reader.specs.declared.Tally.{Tally}
use Rattle.reader.proofs.Tallies.{end_here, broken_here, walk_on, total_on, size_total}
use Rattle.reader.proofs.measure.Goals as goal

pub loop-line-init : goal.loop-line-init
unfolding start
loop-line-init c = (
  size_total (records_in c.args.text.now),
  record { within = omega arith; bytes = omega arith; runs = omega arith },
)

pub returns-in_err-line : goal.returns-in_err-line
returns-in_err-line c =
    let p = err_from_is_err_and c.from_residual.result c.from_residual.ensures.1 in
    let w = c.in_err-line.ensures in
    rw (p.1, p.2, w.fits) (ap (totalled c.loop-line.tally) (sym (broken_here _ w)) ∙ c.loop-line.invariant.0)

pub with-tally-requires : goal.with-tally-requires
with-tally-requires c =
    let w : LineIs c.args.text.now c.loop-line.at (Ok (Some c.in-Some.line)) = rw c.in-Some.is at c.in_ok-line.ensures in
    omega (arith, w.fits.some, w.fits.few, w.fits.long, w.fits.within, c.loop-line.invariant)

pub loop-line-preserved : goal.loop-line-preserved
loop-line-preserved c =
    let v = c.loop-line in
    let s = c.args.text.now in
    let l = c.in-Some.line in
    let w : LineIs s v.at (Ok (Some l)) = rw c.in-Some.is at c.in_ok-line.ensures in (
      ap (λ (t : Tally). totalled t (records_in (drop l.next s))) c.with-tally.ensures ∙ total_on s v.at l w v.tally ∙ v.invariant.0,
      walk_on s v.at l w v.tally _ v.invariant.1 c.with-tally.ensures,
    )

pub returns : goal.returns
returns c =
    let v = c.loop-line in
    let w : LineIs c.args.text.now v.at (Ok None) = rw c.in_default.is at c.in_ok-line.ensures in
    c.total.ensures ∙ ap (totalled v.tally) (sym (end_here w)) ∙ v.invariant.0
