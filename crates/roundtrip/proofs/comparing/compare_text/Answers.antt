-- `roundtrip::comparing::compare_text` meets its contract.
-- Assumes nothing.
use mathlib.Core.Path.{sym}
use lib.Seq.{length-take-le}
use native.Mathlib.Omega.{arith}
use Rattle.roundtrip.proofs.Texts.{first_run, first_refused, is_refused, is_none, is_elsewhere_lem, run_fits, run_inside, is_there}
use Rattle.roundtrip.proofs.comparing.compare_text.Goals as goal

pub returns-in_err-run : goal.returns-in_err-run
returns-in_err-run c =
    let w = first_refused _ _ _ c.requires _ (rw c.in_err-run.was at c.read_run.ensures) in
    let e = is_refused c.args.list.now c.args.address c.args.page c.args.text.now c.args.theirs.now _ w in
    grind (arith, e)

pub returns-then-end-eq0 : goal.returns-then-end-eq0
returns-then-end-eq0 c =
    let w = first_run _ _ _ c.requires _ (rw c.in_ok-run.was at c.read_run.ensures) in
    is_none _ _ _ _ _ _ _ w c.if-end-eq0.true

pub returns-then-run-address : goal.returns-then-run-address
returns-then-run-address c =
    let w = first_run _ _ _ c.requires _ (rw c.in_ok-run.was at c.read_run.ensures) in
    is_elsewhere_lem _ _ _ _ _ _ _ w c.if-end-eq0.false c.if-run-address.true

pub slice_bounds-agree-end : goal.slice_bounds-agree-end
slice_bounds-agree-end c = run_fits _ _ _ _ (first_run _ _ _ c.requires _ (rw c.in_ok-run.was at c.read_run.ensures))

pub slice_bounds-agree-end-2 : goal.slice_bounds-agree-end-2
slice_bounds-agree-end-2 c =
    sym (length-take-le _ _ (run_fits _ _ _ _ (first_run _ _ _ c.requires _ (rw c.in_ok-run.was at c.read_run.ensures))))

pub agree-agreed-requires : goal.agree-agreed-requires
agree-agreed-requires c =
    let w = first_run _ _ _ c.requires _ (rw c.in_ok-run.was at c.read_run.ensures) in
    run_inside _ _ _ _ _ _ w c.if-end-eq0.false c.if-run-address.false

pub returns : goal.returns
returns c =
    let w = first_run _ _ _ c.requires _ (rw c.in_ok-run.was at c.read_run.ensures) in
    is_there _ _ _ _ _ _ _ w c.if-end-eq0.false c.if-run-address.false _ c.agree-agreed.ensures _ c.none_left-last.ensures
