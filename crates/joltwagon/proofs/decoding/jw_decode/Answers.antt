-- `joltwagon::decoding::jw_decode` meets its contract.
-- Assumes nothing.
use mathlib.Core.Path.{ap}
use mathlib.Core.Bool.{true, false}
use Rattle.ground.proofs.Choices.{told}
use Rattle.answers.proofs.Laws.{said_as}
use Rattle.joltwagon.specs.Decoding.{decoded_said, decode_said}
use Rattle.joltwagon.proofs.Spoken.{no_row, row, decode_told}
use Rattle.joltwagon.proofs.decoding.jw_decode.Goals as goal

pub returns-then-is_page : goal.returns-then-is_page
unfolding decode_said
returns-then-is_page c =
    row _ _ (told true c.is_page.ensures c.if-is_page.true)
    (said_as _
    (ap decoded_said (decode_told _ _ c.decode.ensures c.numbered-under.ensures))
    c.hand_decoded.ensures)

pub returns : goal.returns
unfolding decode_said
returns c = no_row _ _ (told false c.is_page.ensures c.if-is_page.false)
