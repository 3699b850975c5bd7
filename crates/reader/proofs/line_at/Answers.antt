-- `reader::line_at` meets its contract: a line is sound where its digits, their sum and its end are.
-- Assumes nothing.
use mathlib.Core.Path.{sym, ◌∙◌}
use Rattle.reader.proofs.Lines.{no_colon, no_count, no_end, no_line, sound_there}
use Rattle.reader.proofs.line_at.Goals as goal

pub returns-then-cell_or-ne58 : goal.returns-then-cell_or-ne58
returns-then-cell_or-ne58 c = no_colon _ _ (λ e. c.if-cell_or-ne58.true (c.cell_or.ensures ∙ e))

pub returns-in_default : goal.returns-in_default
returns-in_default c = no_count _ _ (sym c.cell_or.ensures ∙ c.if-cell_or-ne58.false) (sym c.pair_at.ensures ∙ c.in_default.is)

pub returns-in_default-after_end : goal.returns-in_default-after_end
returns-in_default-after_end c =
    no_end _ _ (sym c.cell_or.ensures ∙ c.if-cell_or-ne58.false) _
    c.pairs_at-pairs.ensures.ended
    (rw c.in_default-after_end.is at c.after_end.ensures)

pub sound_line-requires : goal.sound_line-requires
sound_line-requires c =
    sound_there _ _ (sym c.cell_or.ensures ∙ c.if-cell_or-ne58.false) _
    c.pairs_at-pairs.ensures.ended
    _ _ _
    c.pairs_at-pairs.ensures.summed
    (sym c.pair_at.ensures ∙ c.in-Some.is)
    (rw c.in-Some-after_end.is at c.after_end.ensures)
    c.if-sound.true

pub returns : goal.returns
returns c =
    no_line c.args.text.now c.args.at (sym c.cell_or.ensures ∙ c.if-cell_or-ne58.false) c.pairs_at-pairs.result.end
    c.pairs_at-pairs.ensures.ended
    c.pairs_at-pairs.result.sum c.in-Some.count c.in-Some-after_end.next
    c.pairs_at-pairs.ensures.summed
    (sym c.pair_at.ensures ∙ c.in-Some.is)
    (rw c.in-Some-after_end.is at c.after_end.ensures)
    c.if-sound.false
