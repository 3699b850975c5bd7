-- `reader::digit` meets its contract, a return for each range of characters.
-- Assumes nothing.
use mathlib.Core.Path.{sym, ◌∙◌}
use native.Mathlib.Omega.{arith}
use Rattle.ground.proofs.Choices.{pick_true, pick_false}
use Rattle.reader.specs.Digits.{digit_of}
use Rattle.reader.proofs.Digits.{at_least}
use Rattle.reader.proofs.digit.Goals as goal

pub overflow_sub-result : goal.overflow_sub-result
overflow_sub-result c = at_least 48 57 _ c.if-decimal.true

pub returns-then-decimal : goal.returns-then-decimal
unfolding digit_of
returns-then-decimal c = sym (pick_true _ _ c.if-decimal.true)

pub overflow_sub-result-then-upper : goal.overflow_sub-result-then-upper
overflow_sub-result-then-upper c = omega (arith, at_least 65 70 c.args.c c.if-upper.true)

pub returns-then-upper : goal.returns-then-upper
unfolding digit_of
returns-then-upper c = sym (pick_false _ _ c.if-decimal.false ∙ pick_true _ _ c.if-upper.true)

pub overflow_sub-result-then-lower : goal.overflow_sub-result-then-lower
overflow_sub-result-then-lower c = omega (arith, at_least 97 102 c.args.c c.if-lower.true)

pub returns-then-lower : goal.returns-then-lower
unfolding digit_of
returns-then-lower c = sym (pick_false _ _ c.if-decimal.false ∙ pick_false _ _ c.if-upper.false ∙ pick_true _ _ c.if-lower.true)

pub returns-else-lower : goal.returns-else-lower
unfolding digit_of
returns-else-lower c = sym (pick_false _ _ c.if-decimal.false ∙ pick_false _ _ c.if-upper.false ∙ pick_false _ _ c.if-lower.false)
