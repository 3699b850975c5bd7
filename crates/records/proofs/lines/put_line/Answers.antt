-- The parts of a line follow one another.
-- Assumes nothing.
use Rattle.records.proofs.Writing.{line_wrote}
use Rattle.records.proofs.lines.put_line.Goals as goal

pub returns : goal.returns
returns c =
    let a = c.args in
    line_wrote
    a.kind
    a.address
    a.bytes.now
    c.store.ensures
    c.head-headed.ensures
    c.bytes-filled.ensures
    c.check-closed.ensures
    c.store-2.ensures
