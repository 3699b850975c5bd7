-- `joltwagon::explaining::jw_why` meets its contract.
-- Assumes nothing.
use borrow.Author.Tests.{lt-leb, le-leb}
use Rattle.joltwagon.proofs.Reasons.{no_row, a_row}
use Rattle.joltwagon.proofs.explaining.jw_why.Goals as goal

pub returns-then-row-lt-RECORD : goal.returns-then-row-lt-RECORD
returns-then-row-lt-RECORD c = no_row _ _ _ (lt-leb _ _ c.if-row-lt-RECORD.true) c.beside.ensures

pub returns : goal.returns
returns c = a_row _ _ _ (le-leb _ _ c.if-row-lt-RECORD.false) c.explain.ensures c.hand_explained.ensures
