-- `listing::list_lines` meets its contract.
-- Assumes nothing.
use mathlib.Core.Path.{sym, ◌∙◌}
use Rattle.listing.proofs.Walking.{ran_refused, ran_runs}
use Rattle.listing.proofs.list_lines.Goals as goal

pub returns-in-Some : goal.returns-in-Some
returns-in-Some c = ran_refused c.args.out.now c.args.text.now _ (sym c.refusal_of.ensures ∙ c.in-Some.is)

pub list_runs-requires : goal.list_runs-requires
list_runs-requires c = (sym c.refusal_of.ensures ∙ c.in-None.is, c.requires)

pub returns-in-None : goal.returns-in-None
returns-in-None c = ran_runs c.args.text.now (sym c.refusal_of.ensures ∙ c.in-None.is) c.list_runs.ensures
