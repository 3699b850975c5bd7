-- `listing::list_run` meets its contract. What holds at each turn is `Running`.
-- Assumes nothing.
use mathlib.Core.Path.{sym, ◌∙◌}
use Prim.Native.Nat.{◌+◌, ◌-◌}
use lib.ListN.{drop, length-drop}
use lib.Seq.{length-take-le}
use Rattle.listing.proofs.Running.{size_there, running_first, running_next, running_refused, running_end}
use native.Mathlib.Omega.{arith}
use Rattle.listing.proofs.list_run.Goals as goal

pub loop-place-init : goal.loop-place-init
loop-place-init c = let a = c.args in running_first a.out.now a.from.at a.from.count a.bytes.now a.address c.requires.0 (omega arith) c.requires.2

pub overflow_add-end : goal.overflow_add-end
overflow_add-end c =
    let a = c.args in
    let s = size_there a.bytes.now a.address c.requires.0 c.loop-place.place c.in-Ok.read (sym c.next_of_run.ensures ∙ c.in-Ok.is) c.loop-place-test.true in
    omega (arith, s.1)

pub slice_bounds-put_instruction-end : goal.slice_bounds-put_instruction-end
slice_bounds-put_instruction-end c =
    let a = c.args in
    let s = size_there a.bytes.now a.address c.requires.0 c.loop-place.place c.in-Ok.read (sym c.next_of_run.ensures ∙ c.in-Ok.is) c.loop-place-test.true in
    omega (arith, s.1)

pub put_instruction-at-requires : goal.put_instruction-at-requires
put_instruction-at-requires c =
    let a = c.args in
    let l = c.loop-place in
    let n = c.in-Ok.read.length in
    let s = size_there a.bytes.now a.address c.requires.0 l.place c.in-Ok.read (sym c.next_of_run.ensures ∙ c.in-Ok.is) c.loop-place-test.true in
    let own = length-take-le n (drop l.place a.bytes.now) (omega (arith, s.1, length-drop l.place a.bytes.now)) in
    omega (arith, s.0, s.1, own, l.invariant.short, c.requires.1)

pub loop-place-smaller : goal.loop-place-smaller
loop-place-smaller c =
    let a = c.args in
    let s = size_there a.bytes.now a.address c.requires.0 c.loop-place.place c.in-Ok.read (sym c.next_of_run.ensures ∙ c.in-Ok.is) c.loop-place-test.true in
    omega (arith, s.0, s.1)

pub loop-place-preserved : goal.loop-place-preserved
loop-place-preserved c =
    let a = c.args in
    let l = c.loop-place in
    let d = c.in-Ok.read in
    running_next a.out.now a.from.at a.from.count a.bytes.now a.address c.requires.0 l.invariant d (sym c.next_of_run.ensures ∙ c.in-Ok.is)
    c.loop-place-test.true (l.place + d.length - l.place) (omega arith) c.put_instruction-at.ensures

pub returns-in-Err : goal.returns-in-Err
returns-in-Err c =
    let a = c.args in
    running_refused a.out.now a.from.at a.from.count a.bytes.now a.address c.requires.0 c.loop-place.invariant c.in-Err.refusal
    (sym c.next_of_run.ensures ∙ c.in-Err.is) c.loop-place-test.true

pub returns : goal.returns
returns c = let a = c.args in running_end a.out.now a.from.at a.from.count a.bytes.now a.address c.requires.0 c.loop-place.invariant c.loop-place-test.false
