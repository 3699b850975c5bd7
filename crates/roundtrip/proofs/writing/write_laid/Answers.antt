-- `roundtrip::writing::write_laid` meets its contract.
-- Assumes nothing.
use mathlib.Core.Path.{sym, ◌∙◌}
use native.Mathlib.Omega.{arith}
use lib.ListN.{length}
use Rattle.roundtrip.proofs.Fronts.{text_refused, buffer_refused, front_fits, front_size, text_written, buffer_written}
use Rattle.roundtrip.proofs.writing.write_laid.Goals as goal

pub returns-in_err-end : goal.returns-in_err-end
returns-in_err-end c =
    let a = c.args in
    let is = sym c.in_err-end.was ∙ c.lay.ensures.answer in
    let e = text_refused a.list.now a.address a.bytes.now (omega arith) _ is (length a.out.now) in
    record { answer = grind (arith, e); buffer = buffer_refused a.list.now a.address a.bytes.now (omega arith) _ is a.out.now }

pub slice_bounds-write_bytes-end : goal.slice_bounds-write_bytes-end
slice_bounds-write_bytes-end c =
    let a = c.args in
    front_fits a.list.now a.address a.bytes.now (omega arith) _ (sym c.in_ok-end.was ∙ c.lay.ensures.answer) (omega arith) _ c.lay.ensures.buffer

pub slice_bounds-write_bytes-end-2 : goal.slice_bounds-write_bytes-end-2
slice_bounds-write_bytes-end-2 c =
    let a = c.args in
    sym (front_size a.list.now a.address a.bytes.now (omega arith) _ (sym c.in_ok-end.was ∙ c.lay.ensures.answer) (omega arith) _ c.lay.ensures.buffer).0

pub write_bytes-requires : goal.write_bytes-requires
write_bytes-requires c =
    let a = c.args in
    let f = front_size a.list.now a.address a.bytes.now (omega arith) _ (sym c.in_ok-end.was ∙ c.lay.ensures.answer) (omega arith) _ c.lay.ensures.buffer in
    (omega (arith, f.0, f.1), omega (arith, f.0, f.1))

pub returns : goal.returns
returns c =
    let a = c.args in
    let is = sym c.in_ok-end.was ∙ c.lay.ensures.answer in
    let w = c.write_bytes.ensures in record {
      answer = text_written a.list.now a.address a.bytes.now (omega arith) _ is (omega arith) _ c.lay.ensures.buffer (length a.out.now) w.value;
      buffer = buffer_written a.list.now a.address a.bytes.now (omega arith) _ is (omega arith) _ c.lay.ensures.buffer a.out.now w.out_after;
    }
