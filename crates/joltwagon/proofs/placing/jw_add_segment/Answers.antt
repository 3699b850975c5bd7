-- `joltwagon::placing::jw_add_segment` meets its contract.
-- Assumes nothing.
use mathlib.Core.Path.{sym, ◌∙◌}
use native.Mathlib.Omega.{arith}
use Rattle.joltwagon.proofs.Starts.{none_added, count_fits, added, kept_out}
use Rattle.joltwagon.proofs.placing.jw_add_segment.Goals as goal

pub returns-then-segments-eq0 : goal.returns-then-segments-eq0
returns-then-segments-eq0 c =
    let p = none_added c.args.segments.now c.args.start c.if-segments-eq0.true in
    record { value = p.0; segments_after = p.1 }

pub overflow_cast-count : goal.overflow_cast-count
overflow_cast-count c = omega (arith, c.slice_known-2-1.given 0)

pub overflow_cast-segments : goal.overflow_cast-segments
overflow_cast-segments c = omega (arith, count_fits _ _ _ _ (sym c.add.ensures.answer ∙ c.in-Ok.is) (omega (arith, c.slice_known-2-1.given 0)))

pub returns-in-Ok : goal.returns-in-Ok
returns-in-Ok c =
    let p = added c.args.start c.args.segments.now _ c.if-segments-eq0.false (sym c.add.ensures.answer ∙ c.in-Ok.is) c.add.ensures.table in
    record { value = p.0; segments_after = p.1 }

pub returns-in-Err : goal.returns-in-Err
returns-in-Err c =
    let p = kept_out c.args.start c.args.segments.now _ c.if-segments-eq0.false (sym c.add.ensures.answer ∙ c.in-Err.is) c.add.ensures.table in
    record { value = c.number.ensures ∙ p.0; segments_after = p.1 }
