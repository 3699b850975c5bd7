-- `reader::after_end` meets its contract, a return for each way in which a line may end.
-- Assumes nothing.
use mathlib.Core.Path.{sym, ◌∙◌}
use native.Mathlib.Omega.{arith}
use Rattle.reader.proofs.Lines.{end_of_text, line_feed, return_feed, no_return, lone_return}
use Rattle.reader.proofs.after_end.Goals as goal

pub returns-then-at-text : goal.returns-then-at-text
returns-then-at-text c = end_of_text _ _ c.if-at-text.true

pub returns-then-c-eq10 : goal.returns-then-c-eq10
returns-then-c-eq10 c = line_feed _ _ (sym c.cell_or-c.ensures ∙ c.if-c-eq10.true)

pub returns-then-cell_or-eq10 : goal.returns-then-cell_or-eq10
returns-then-cell_or-eq10 c =
    return_feed _ _
    (sym c.cell_or-c.ensures ∙ c.if-c-eq13.true)
    (sym c.cell_or.ensures ∙ c.if-cell_or-eq10.true)

pub returns-else-cell_or-eq10 : goal.returns-else-cell_or-eq10
returns-else-cell_or-eq10 c =
    let b = c.cell_or-c.ensures in
    lone_return c.args.text.now c.args.at (omega arith) (λ e. c.if-c-eq10.false (b ∙ e)) (λ e. c.if-cell_or-eq10.false (c.cell_or.ensures ∙ e))

pub returns-else-c-eq13 : goal.returns-else-c-eq13
returns-else-c-eq13 c =
    let b = c.cell_or-c.ensures in
    no_return c.args.text.now c.args.at (omega arith) (λ e. c.if-c-eq10.false (b ∙ e)) (λ e. c.if-c-eq13.false (b ∙ e))
