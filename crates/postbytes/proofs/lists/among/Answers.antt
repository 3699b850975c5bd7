-- `postbytes::lists::among` meets its contract.
-- Assumes nothing.
use mathlib.Core.Path.{ap, ◌∙◌}
use native.Mathlib.Omega.{arith}
use lib.ListN.{take}
use Rattle.std.proofs.Common.{rules, tests}
use Rattle.std.proofs.lemmas.Iterator.{YieldsList-from_slice}
use Rattle.std.proofs.lemmas.Iterator.Search.{any_from_yields_List}
use Rattle.postbytes.specs.Lists.{covers, among}
use Rattle.postbytes.proofs.Named.{eight}
use Rattle.postbytes.proofs.lists.among.Goals as goal

pub returns : goal.returns
unfolding among
returns c =
    let a = c.args in
    any_from_yields_List (covers a.register) _ _ c.any.result c.any.ensures.ran (YieldsList-from_slice (take c.min.result a.registers) cc) (λ x b q k. search (rules, tests))
    ∙ ap (among a.register) (eight c.min.result a.count a.registers (omega arith) (omega arith))
