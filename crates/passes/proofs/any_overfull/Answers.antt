-- `passes::any_overfull` meets its contract: the closure computes the definition's test.
-- Assumes nothing.
use native.Mathlib.Omega.{arith}
use mathlib.Core.Path.{refl}
use borrow.Author.Rules.{rules}
use borrow.Author.Tests.{tests}
use Rattle.std.proofs.lemmas.Iterator.{YieldsList-from_range}
use Rattle.std.proofs.lemmas.Iterator.Search.{any_from_yields_List}
use Rattle.statements.specs.Listing.{overfull_at}
use Rattle.passes.specs.Passes.{overfull_in}
use Rattle.passes.proofs.any_overfull.Goals as goal

pub returns : goal.returns
unfolding overfull_in
returns c =
    any_from_yields_List (overfull_at c.args.list.now) _ _ _ c.any.ensures.ran
    (YieldsList-from_range 0 c.args.rows c.args.rows refl (omega arith))
    (λ x b q k. search (rules, tests))
