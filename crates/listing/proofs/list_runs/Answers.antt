-- `listing::list_runs` meets its contract. What holds at each turn is `Walking`.
-- Assumes nothing.
use mathlib.Core.Path.{refl, sym, ap, ◌∙◌}
use lib.ListN.{length}
use Rattle.records.specs.Text.{Rec}
use Rattle.listing.proofs.Texts.{reads, no_run, next_run}
use Rattle.listing.proofs.Walking.{taken, walking_first, walking_asks, walking_end, walking_on, walking_refused}
use native.Mathlib.Omega.{arith}
use Rattle.listing.proofs.list_runs.Goals as goal

pub loop-run-init : goal.loop-run-init
loop-run-init c = let a = c.args in (walking_first a.out.now a.text.now c.requires.0, c.requires.1, refl, refl)

pub unwrap-run-requires : goal.unwrap-run-requires
unwrap-run-requires c =
    let l = c.loop-run in
    let fit = taken c.args.text.now c.requires.0 in
    reads c.args.text.now fit.size fit.read l.place l.invariant.0.right l.bytes l.invariant.1 _ _ c.read_run.ensures

pub shape_of-bytes-then-n-eq0 : goal.shape_of-bytes-then-n-eq0
shape_of-bytes-then-n-eq0 c = c.read_run.auto.bytes ∙ c.loop-run.invariant.3

pub shape_of-out-then-n-eq0 : goal.shape_of-out-then-n-eq0
shape_of-out-then-n-eq0 c = c.loop-run.invariant.2

pub returns-then-n-eq0 : goal.returns-then-n-eq0
returns-then-n-eq0 c =
    let a = c.args in
    let l = c.loop-run in
    let text = a.text.now in
    let run = c.read_run in
    let w = rw c.unwrap-run.ensures at run.ensures in
    let fit = taken text c.requires.0 in
    walking_end l.invariant.0 (no_run text fit.size fit.read l.place l.bytes c.unwrap-run.result _ w l.invariant.0.right c.if-n-eq0.true)

pub slice_bounds-list_run-end : goal.slice_bounds-list_run-end
slice_bounds-list_run-end c =
    let a = c.args in
    let l = c.loop-run in
    let text = a.text.now in
    let run = c.read_run in
    let w = rw c.unwrap-run.ensures at run.ensures in
    let fit = taken text c.requires.0 in
    let x = next_run text fit.size fit.read l.place l.bytes c.unwrap-run.result _ w l.invariant.0.right c.if-n-eq0.false in
    omega (arith, x.near, run.auto.bytes, l.invariant.1)

pub slice_bounds-list_run-end-in-loop-run : goal.slice_bounds-list_run-end-in-loop-run
slice_bounds-list_run-end-in-loop-run c =
    let a = c.args in
    let l = c.loop-run in
    let text = a.text.now in
    let run = c.read_run in
    let w = rw c.unwrap-run.ensures at run.ensures in
    let fit = taken text c.requires.0 in
    let x = next_run text fit.size fit.read l.place l.bytes c.unwrap-run.result _ w l.invariant.0.right c.if-n-eq0.false in
    x.long ∙ sym (ap length x.bytes)

pub list_run-done-requires : goal.list_run-done-requires
list_run-done-requires c =
    let a = c.args in
    let l = c.loop-run in
    let text = a.text.now in
    let run = c.read_run in
    let w = rw c.unwrap-run.ensures at run.ensures in
    let fit = taken text c.requires.0 in
    let x = next_run text fit.size fit.read l.place l.bytes c.unwrap-run.result _ w l.invariant.0.right c.if-n-eq0.false in
    let asks = walking_asks l.invariant.0 x in
    (omega (arith, asks.0), asks.1, asks.2)

pub shape_of-bytes-then-is_some : goal.shape_of-bytes-then-is_some
shape_of-bytes-then-is_some c = c.read_run.auto.bytes ∙ c.loop-run.invariant.3

pub shape_of-out-then-is_some : goal.shape_of-out-then-is_some
shape_of-out-then-is_some c = c.list_run-done.auto.out ∙ c.loop-run.invariant.2

pub returns-then-is_some : goal.returns-then-is_some
returns-then-is_some c =
    let a = c.args in
    let l = c.loop-run in
    let text = a.text.now in
    let run = c.read_run in
    let w = rw c.unwrap-run.ensures at run.ensures in
    let fit = taken text c.requires.0 in
    let x = next_run text fit.size fit.read l.place l.bytes c.unwrap-run.result _ w l.invariant.0.right c.if-n-eq0.false in
    walking_refused l.invariant.0 x c.list_run-done.ensures (sym c.is_some.ensures ∙ c.if-is_some.true)

pub loop-run-smaller : goal.loop-run-smaller
loop-run-smaller c =
    let a = c.args in
    let l = c.loop-run in
    let text = a.text.now in
    let run = c.read_run in
    let w = rw c.unwrap-run.ensures at run.ensures in
    let fit = taken text c.requires.0 in
    let x = next_run text fit.size fit.read l.place l.bytes c.unwrap-run.result _ w l.invariant.0.right c.if-n-eq0.false in
    omega (arith, ap (length {A = Rec}) x.runs)

pub loop-run-preserved : goal.loop-run-preserved
loop-run-preserved c =
    let a = c.args in
    let l = c.loop-run in
    let text = a.text.now in
    let run = c.read_run in
    let w = rw c.unwrap-run.ensures at run.ensures in
    let fit = taken text c.requires.0 in
    let x = next_run text fit.size fit.read l.place l.bytes c.unwrap-run.result _ w l.invariant.0.right c.if-n-eq0.false in
    (walking_on l.invariant.0 x c.list_run-done.ensures (sym c.is_some.ensures ∙ c.if-is_some.false), omega (arith, run.auto.bytes, l.invariant.1), c.list_run-done.auto.out ∙ l.invariant.2, run.auto.bytes ∙ l.invariant.3)
