-- `joltwagon::instructing::jw_build` meets its contract.
-- Assumes nothing.
use mathlib.Core.Path.{ap, ◌∙◌}
use Rattle.answers.proofs.Laws.{said_as}
use Rattle.instruction.specs.Sequences.{told_of}
use Rattle.joltwagon.specs.Instructing.{built_said, build_said}
use Rattle.joltwagon.proofs.Spoken.{no_row, row, both_told, build_told}
use Rattle.joltwagon.proofs.instructing.jw_build.Goals as goal

pub returns-then-sound : goal.returns-then-sound
unfolding build_said
returns-then-sound c =
    row _ _ (both_told c.is_kept.ensures c.is_present.ensures c.if-sound.true)
    (said_as _
    (ap built_said (c.told.ensures ∙ ap told_of (build_told _ c.build.ensures c.kept_of-instruction.ensures c.present_of-values.ensures c.page_in-page.ensures)))
    c.hand_built.ensures)

pub returns : goal.returns
unfolding build_said
returns c = no_row _ _ (both_told c.is_kept.ensures c.is_present.ensures c.if-sound.false)
