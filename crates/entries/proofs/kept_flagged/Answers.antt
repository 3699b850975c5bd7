-- `entries::kept_flagged` meets its contract.
-- Assumes nothing.
use native.Mathlib.Omega.{arith}
use lib.ListN.{get_or}
use borrow.Author.Tests.{lt-leb, le-leb}
use Rattle.entries.specs.Entries.{is_flag, kept_flagged}
use Rattle.entries.proofs.kept_flagged.Goals as goal

pub returns-then-row-gt1 : goal.returns-then-row-gt1
unfolding kept_flagged is_flag
returns-then-row-gt1 c =
    let row = c.args.row.now in
    rw (lt-leb (get_or row 16 0) 1 (omega arith))

pub returns-then-row-gt1-2 : goal.returns-then-row-gt1-2
unfolding kept_flagged is_flag
returns-then-row-gt1-2 c =
    let row = c.args.row.now in
    rw (le-leb (get_or row 16 0) 1 (omega arith), lt-leb (get_or row 17 0) 1 (omega arith))

pub returns : goal.returns
unfolding kept_flagged is_flag
returns c =
    let row = c.args.row.now in
    rw (le-leb (get_or row 16 0) 1 (omega arith), le-leb (get_or row 17 0) 1 (omega arith)) c.flagged.ensures
