-- `passes::labels::labels_fit` meets its contract: the closure computes the definition's test.
-- Assumes nothing.
use native.Mathlib.Omega.{arith}
use mathlib.Core.Path.{refl}
use borrow.Author.Rules.{rules}
use borrow.Author.Tests.{tests}
use Rattle.std.proofs.lemmas.Iterator.{YieldsList-from_range}
use Rattle.std.proofs.lemmas.Iterator.Search.{all_from_yields_List}
use Rattle.passes.specs.Labels.{label_fits, labels_fit}
use Rattle.passes.proofs.labels.labels_fit.Goals as goal

pub returns : goal.returns
unfolding labels_fit
returns c =
    all_from_yields_List (label_fits c.args.list.now c.args.cells) _ _ _ c.all.ensures.ran
    (YieldsList-from_range 0 c.args.n c.args.n refl (omega arith))
    (λ x b q k. search (rules, tests))
