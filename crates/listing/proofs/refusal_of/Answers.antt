-- `listing::refusal_of` meets its contract.
-- Assumes nothing.
use mathlib.Core.Path.{◌∙◌, ap}
use Rattle.std.specs.Result.{result_err}
use Rattle.ground.specs.Choice.{pick}
use Rattle.listing.specs.Listing.{refusal_of}
use Rattle.listing.proofs.Texts.{asked_refusal}
use borrow.Author.Tests.{lt-ltb, le-ltb}
use Rattle.listing.proofs.refusal_of.Goals as goal

pub returns-then-long : goal.returns-then-long
unfolding refusal_of pick
returns-then-long c = rw (lt-ltb _ _ c.if-long.true)

pub returns : goal.returns
unfolding refusal_of pick
returns c = rw (le-ltb _ _ c.if-long.false) (c.err.ensures.value ∙ ap result_err c.run_at.ensures ∙ asked_refusal c.args.text.now)
