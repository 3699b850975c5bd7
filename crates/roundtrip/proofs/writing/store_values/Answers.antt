-- `roundtrip::writing::store_values` meets its contract: what is left of the bytes, stored after those that are, is the whole.
-- Assumes nothing.
use Rattle.roundtrip.proofs.Values.{storing_first, storing_more, storing_end}
use Rattle.roundtrip.proofs.writing.store_values.Goals as goal

pub loop-i-init : goal.loop-i-init
loop-i-init c = storing_first _ _

pub loop-i-preserved : goal.loop-i-preserved
loop-i-preserved c =
    let l = c.loop-i in
    storing_more _ _ _ _ l.invariant _ _ c.loop-i-test.true
    c.store.ensures c.store-in-loop-i.ensures

pub shape_of-values : goal.shape_of-values
shape_of-values c = c.loop-i.invariant.size

pub returns : goal.returns
returns c = storing_end _ _ _ _ c.loop-i.invariant c.loop-i-test.false
