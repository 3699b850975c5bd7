-- `postbytes::lists::any_unknown` meets its contract.
-- Assumes nothing.
use Rattle.std.proofs.Common.{leb, rules, tests}
use Rattle.std.proofs.lemmas.Iterator.{YieldsList-from_slice}
use Rattle.std.proofs.lemmas.Iterator.Search.{any_from_yields_List}
use Rattle.postbytes.specs.Lists.{any_unknown}
use Rattle.postbytes.proofs.lists.any_unknown.Goals as goal

pub returns : goal.returns
unfolding any_unknown
returns c =
    any_from_yields_List (leb 10) _ _ _ c.any.ensures.ran (YieldsList-from_slice c.args.registers.now cc) (λ x b q k. search (rules, tests))
