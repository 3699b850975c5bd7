-- `joltwagon::decoding::jw_next` meets its contract.
-- Assumes nothing.
use mathlib.Core.Path.{ap}
use mathlib.Core.Bool.{true, false}
use Rattle.ground.proofs.Choices.{told}
use Rattle.answers.proofs.Laws.{said_as}
use Rattle.joltwagon.specs.Decoding.{decoded_said, next_said}
use Rattle.joltwagon.proofs.Spoken.{no_row, row, next_told}
use Rattle.joltwagon.proofs.decoding.jw_next.Goals as goal

pub returns-then-is_page : goal.returns-then-is_page
unfolding next_said
returns-then-is_page c =
    row _ _ (told true c.is_page.ensures c.if-is_page.true)
    (said_as _
    (ap decoded_said (next_told _ _ _ c.next_of_run.ensures c.numbered-under.ensures))
    c.hand_decoded.ensures)

pub returns : goal.returns
unfolding next_said
returns c = no_row _ _ (told false c.is_page.ensures c.if-is_page.false)
