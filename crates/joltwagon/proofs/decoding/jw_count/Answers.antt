-- `joltwagon::decoding::jw_count` meets its contract.
-- Assumes nothing.
use mathlib.Core.Path.{ap}
use mathlib.Core.Bool.{true, false}
use Rattle.ground.proofs.Choices.{told}
use Rattle.answers.proofs.Laws.{said_as}
use Rattle.joltwagon.specs.Decoding.{counted_said, count_said}
use Rattle.joltwagon.proofs.Spoken.{no_row, row, count_told}
use Rattle.joltwagon.proofs.decoding.jw_count.Goals as goal

pub returns-then-is_page : goal.returns-then-is_page
unfolding count_said
returns-then-is_page c =
    row _ _ (told true c.is_page.ensures c.if-is_page.true)
    (said_as _
    (ap counted_said (count_told _ _ c.count_run.ensures c.numbered-under.ensures))
    c.hand_count.ensures)

pub returns : goal.returns
unfolding count_said
returns c = no_row _ _ (told false c.is_page.ensures c.if-is_page.false)
