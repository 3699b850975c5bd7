-- `reader::read_text` meets its contract: measured first, stored second.
-- Assumes nothing.
use Rattle.std.proofs.lemmas.Result.{err_from_is_err_and}
use Rattle.reader.proofs.Answers.{no_room_lem, fine_text, text_read, text_refused}
use Rattle.reader.proofs.read_text.Goals as goal

pub returns-in_err-size : goal.returns-in_err-size
returns-in_err-size c =
    let p = err_from_is_err_and c.from_residual.result c.from_residual.ensures.1 in
    rw (p.1, p.2) (text_refused _ _ _ _ c.in_err-size.ensures)

pub returns-then-short : goal.returns-then-short
returns-then-short c = no_room_lem _ _ _ _ c.in_ok-size.ensures c.if-short.true

pub store_all-requires : goal.store_all-requires
store_all-requires c = fine_text _ _ c.in_ok-size.ensures

pub returns : goal.returns
returns c = text_read _ _ _ _ c.in_ok-size.ensures _ _ c.if-short.false c.store_all.ensures
