-- `reader::pairs_at` meets its contract. What is left of the digits, counted and added to what was passed, is the whole.
-- Assumes nothing.
use mathlib.Core.Path.{sym, ap, ◌∙◌}
use native.Mathlib.Omega.{arith}
use lib.ListN.{length}
use Rattle.records.specs.Line.{sum}
use Rattle.reader.proofs.Digits.{pair_there, none_there, pairs_on, sums_on}
use Rattle.reader.proofs.pairs_at.Goals as goal

pub loop-byte-smaller : goal.loop-byte-smaller
loop-byte-smaller c = omega (arith, (pair_there _ _ _ (sym c.pair_at.ensures ∙ c.in-Some.is)).0)

pub loop-byte-preserved : goal.loop-byte-preserved
loop-byte-preserved c =
    let s = c.args.text.now in
    let l = c.loop-byte in
    let e = sym c.pair_at.ensures ∙ c.in-Some.is in (
      pairs_on s l.end _ e ∙ l.invariant.0,
      sums_on s l.end l.sum _ e ∙ l.invariant.1,
      omega arith,
      (pair_there s l.end _ e).0,
    )

pub returns : goal.returns
returns c =
    let none = none_there _ _ (sym c.pair_at.ensures ∙ c.in_default.is) in
    record {
      ended = omega (arith, ap length none, c.loop-byte.invariant.0);
      summed = omega (arith, ap sum none, c.loop-byte.invariant.1, c.loop-byte.invariant.2);
      within = c.loop-byte.invariant.3;
    }
