-- `joltwagon::kept::is_present` meets its contract.
-- Assumes nothing.
use borrow.Author.Tests.{lt-leb, le-leb}
use Rattle.joltwagon.specs.Kept.{is_present}
use Rattle.joltwagon.proofs.kept.is_present.Goals as goal

pub returns-then-row-lt-PRESENT : goal.returns-then-row-lt-PRESENT
unfolding is_present
returns-then-row-lt-PRESENT c = rw (lt-leb _ _ c.if-row-lt-PRESENT.true)

pub returns : goal.returns
unfolding is_present
returns c = rw (le-leb _ _ c.if-row-lt-PRESENT.false, c.is_page_in.ensures, c.is_flag.ensures)
