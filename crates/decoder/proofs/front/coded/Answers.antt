-- `decoder::front::coded` meets its contract.
-- Assumes nothing.
use mathlib.Core.Path.{◌∙◌, sym}
use native.Mathlib.Omega.{arith}
use Rattle.decoder.proofs.Bounds.{number_small, reading_small}
use Rattle.decoder.proofs.front.coded.Goals as goal

pub overflow_add-length : goal.overflow_add-length
overflow_add-length c =
    let a = c.args in
    let n = number_small c.in_ok-row.row.form a.page a.code in
    let r = c.in_ok-reading in
    let s = reading_small c.in_ok-row.row.operation c.in_ok-row.row.form c.number_size-number.result a.rest c.shift-after.result r.reading
    (omega (arith, c.number_size-number.ensures)) (sym c.operand.ensures ∙ r.was) in
    omega arith
