-- A turn measures one instruction more; the first that is refused refuses the list.
-- Assumes nothing.
use mathlib.Core.Path.{sym, ap, ◌∙◌}
use Prim.Native.Nat.{◌+◌, ◌-◌, ◌*◌}
use native.Mathlib.Nat.{sub-zero}
use native.Mathlib.Omega.{arith}
use Rattle.laying.specs.Entries.{rows_in, entries_from, entries_of}
use Rattle.laying.specs.Laying.{lay_from, answer_of}
use Rattle.laying.proofs.Turns.{Laying, entries_done, rows_next, laying_first, laying_done, laying_refused, laying_more}
use Rattle.laying.proofs.measure_rows.Goals as goal
use Rattle.laying.proofs.measure_rows.Goals.{In_ok-size}

pub loop-row-init : goal.loop-row-init
unfolding entries_of
loop-row-init c = rw sub-zero (laying_first (entries_of c.args.list.now) c.args.address c.args.room (omega arith))

pub returns : goal.returns
unfolding rows_in
returns c =
    let l = c.loop-row in
    let list = c.args.list.now in
    sym (laying_done l.invariant (entries_done (rows_in list - l.row) list (l.row * 21) (omega arith)))

pub returns-in_err-size : goal.returns-in_err-size
unfolding rows_in
returns-in_err-size c =
    let l = c.loop-row in
    let list = c.args.list.now in
    let w = laying_refused l.invariant (rows_next (rows_in list) list l.row c.loop-row-test.true) c.built_at-built.ensures (sym c.in_err-size.was ∙ c.size_at.ensures) in
    let e = ap answer_of w in
    grind (arith, e)

-- a turn that was not refused
laid_on :
    (c : In_ok-size) →
    let a = c.args in
    let l = c.loop-row in
    let list = a.list.now in
    Laying (lay_from (entries_of list) a.address a.room) (entries_from (rows_in list - (l.row + 1)) list ((l.row + 1) * 21)) a.address
    (l.length + c.in_ok-size.size) a.room
unfolding rows_in
laid_on c =
    let l = c.loop-row in
    let list = c.args.list.now in
    laying_more l.invariant (rows_next (rows_in list) list l.row c.loop-row-test.true) c.built_at-built.ensures (sym c.in_ok-size.was ∙ c.size_at.ensures)

pub overflow_add-length : goal.overflow_add-length
overflow_add-length c = omega (arith, (laid_on (goal.at.overflow_add-length c).In_ok-size).enough)

pub loop-row-preserved : goal.loop-row-preserved
loop-row-preserved c = laid_on (goal.at.loop-row-preserved c).In_ok-size
