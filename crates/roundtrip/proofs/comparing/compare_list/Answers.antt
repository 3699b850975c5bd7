-- The list's own refusal comes before the text's.
-- Assumes nothing.
use mathlib.Core.Path.{sym, ◌∙◌}
use native.Mathlib.Omega.{arith}
use Rattle.roundtrip.proofs.Texts.{list_refused, list_laid}
use Rattle.roundtrip.proofs.comparing.compare_list.Goals as goal

pub returns-in_err-measure : goal.returns-in_err-measure
returns-in_err-measure c =
    let e = list_refused c.args.list.now c.args.address c.args.page c.args.text.now _ (sym c.measure.ensures ∙ c.in_err-measure.was) in
    grind (arith, e)

pub returns : goal.returns
returns c =
    c.compare_text.ensures
    ∙ list_laid c.args.list.now c.args.address c.args.page c.args.text.now _ (sym c.measure.ensures ∙ c.in_ok-measure.was)
