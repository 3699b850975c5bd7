-- `why::fields::page_or_values` meets its contract.
-- Assumes nothing.
use Rattle.ground.specs.Choice.{pick}
use Rattle.why.specs.Fields.{page_or_values}
use Rattle.why.proofs.fields.page_or_values.Goals as goal

pub returns-then-is_unknown : goal.returns-then-is_unknown
unfolding page_or_values pick
returns-then-is_unknown c = rw (← c.page_in-page.ensures, ← c.is_unknown.ensures, c.if-is_unknown.true)

pub returns : goal.returns
unfolding page_or_values pick
returns c = rw (← c.page_in-page.ensures, ← c.is_unknown.ensures, c.if-is_unknown.false)
