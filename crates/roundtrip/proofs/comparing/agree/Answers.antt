-- `roundtrip::comparing::agree` meets its contract. The invariant: what agreed so far, and what is left of the list and of the run, are the whole of both.
-- Assumes nothing.
use mathlib.Core.Path.{sym, ◌∙◌}
use native.Mathlib.Omega.{arith}
use Rattle.decoder.specs.Origin.{origin}
use Rattle.laying.specs.Entries.{rows_in}
use Rattle.roundtrip.proofs.Agreeing.{agreeing_first, agreeing_more, agreeing_differs, agreeing_end}
use Rattle.roundtrip.proofs.Same.{compared}
use Rattle.roundtrip.proofs.comparing.agree.Goals as goal

pub loop-place-init : goal.loop-place-init
loop-place-init c = agreeing_first c.args.list.now c.args.theirs.now (origin c.args.address c.args.page) (omega arith) c.requires

pub returns-then-not-alike : goal.returns-then-not-alike
unfolding rows_in
returns-then-not-alike c =
    let m = c.meant_at-mine in
    let o = c.next_of_run-other in
    agreeing_differs c.args.list.now c.args.theirs.now (origin c.args.address c.args.page) (omega arith) c.requires
    c.loop-place.at c.loop-place.place c.loop-place.invariant c.loop-place-test.true m.result o.result m.ensures o.ensures
    (sym (compared m.result o.result) ∙ sym c.eq-alike.ensures ∙ c.if-not-alike.true)

pub loop-place-preserved : goal.loop-place-preserved
unfolding rows_in
loop-place-preserved c =
    let m = c.meant_at-mine in
    let o = c.next_of_run-other in
    agreeing_more c.args.list.now c.args.theirs.now (origin c.args.address c.args.page) (omega arith) c.requires
    c.loop-place.at c.loop-place.place c.loop-place.invariant c.loop-place-test.true m.result o.result m.ensures o.ensures
    (sym (compared m.result o.result) ∙ sym c.eq-alike.ensures ∙ c.if-not-alike.false)

pub returns : goal.returns
unfolding rows_in
returns c =
    agreeing_end c.args.list.now c.args.theirs.now (origin c.args.address c.args.page) (omega arith) c.requires
    c.loop-place.at c.loop-place.place c.loop-place.invariant c.loop-place-test.false
