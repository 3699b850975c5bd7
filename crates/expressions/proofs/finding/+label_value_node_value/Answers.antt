-- The cycle of calls {label_value, node_value} meets its contracts.
-- What an arm says of the row's first number picks the case of the definition (`Laws`).
-- Assumes nothing.
use mathlib.Core.Path.{◌∙◌, sym, ap, refl}
use native.Mathlib.Omega.{arith}
use borrow.Author.Rules.{rules}
use Rattle.std.proofs.lemmas.Result.{err_from_is_err_and}
use Rattle.expressions.specs.Finding.{kind_of, constant, label, location, negation, unknown, state_of, undefined, address, expression}
use Rattle.expressions.specs.Steps.{is_deep}
use Rattle.expressions.proofs.Laws.{stepped_none, stepped_more, node_none, node_there, label_there, state_other, kind_above, kind_binary, negated, negated_refused, joined_left, joined_alike}
use Rattle.expressions.proofs.finding.+label_value_node_value.Goals as goal

pub label_value-returns-then-left-eq0 : goal.label_value-returns-then-left-eq0
label_value-returns-then-left-eq0 t c =
    sym (label_there _ _ _ _ c.label_row-row.result c.label_row-row.ensures expression (ap state_of c.in-2.is) ∙ node_none _ _ _ _ _ (omega arith))

pub label_value-returns-in-1 : goal.label_value-returns-in-1
label_value-returns-in-1 t c = sym (label_there _ _ _ _ c.label_row-row.result c.label_row-row.ensures address (ap state_of c.in-1.is))

pub label_value-returns-else-left-eq0 : goal.label_value-returns-else-left-eq0
label_value-returns-else-left-eq0 t c =
    c.node_value.ensures
    ∙ sym (label_there _ _ _ _ c.label_row-row.result c.label_row-row.ensures expression (ap state_of c.in-2.is))

pub label_value-returns-in_default : goal.label_value-returns-in_default
label_value-returns-in_default t c =
    sym (label_there _ _ _ _ c.label_row-row.result c.label_row-row.ensures undefined (state_other _ (search rules) (search rules)))

pub node_value-returns-then-left-eq0 : goal.node_value-returns-then-left-eq0
node_value-returns-then-left-eq0 t c = sym (node_none _ _ _ _ _ c.if-left-eq0.true)

pub node_value-returns-then-less-eq0 : goal.node_value-returns-then-less-eq0
node_value-returns-then-less-eq0 t c =
    sym (stepped_none _ _ _ _ c.if-less-eq0.true)
    ∙ sym (node_there _ _ _ _ _ c.if-left-eq0.false c.row_at-row.result c.row_at-row.ensures label (ap kind_of c.in-1.is))

pub node_value-returns-then-is_deep : goal.node_value-returns-then-is_deep
node_value-returns-then-is_deep t c =
    c.node_value-a.ensures
    ∙ sym (joined_left _ _ _ (ap is_deep (sym c.node_value-a.ensures) ∙ sym c.is_deep.ensures ∙ c.if-is_deep.true))
    ∙ sym (kind_binary c.row_at-row.result.first _ _ _ _ _ (search rules) (search rules) (search rules) (search rules) (omega arith))
    ∙ sym (node_there _ _ _ _ _ c.if-left-eq0.false c.row_at-row.result c.row_at-row.ensures _ refl)

pub node_value-returns-in-0 : goal.node_value-returns-in-0
node_value-returns-in-0 t c =
    sym (node_there _ _ _ _ _ c.if-left-eq0.false c.row_at-row.result c.row_at-row.ensures constant (ap kind_of c.in-0.is))

pub node_value-returns-else-less-eq0 : goal.node_value-returns-else-less-eq0
node_value-returns-else-less-eq0 t c =
    c.label_value.ensures
    ∙ sym (stepped_more _ _ _ _ c.if-less-eq0.false)
    ∙ sym (node_there _ _ _ _ _ c.if-left-eq0.false c.row_at-row.result c.row_at-row.ensures label (ap kind_of c.in-1.is))

pub node_value-returns-in-2 : goal.node_value-returns-in-2
node_value-returns-in-2 t c =
    sym (node_there _ _ _ _ _ c.if-left-eq0.false c.row_at-row.result c.row_at-row.ensures location (ap kind_of c.in-2.is))

pub node_value-returns-in_ok-part-in-3 : goal.node_value-returns-in_ok-part-in-3
node_value-returns-in_ok-part-in-3 t c =
    negated (sym c.node_value.ensures ∙ c.in_ok-part-in-3.was) c.sub.ensures
    ∙ sym (node_there _ _ _ _ _ c.if-left-eq0.false c.row_at-row.result c.row_at-row.ensures negation (ap kind_of c.in-3.is))

pub node_value-returns-in_err-part-in-3 : goal.node_value-returns-in_err-part-in-3
node_value-returns-in_err-part-in-3 t c =
    let p = err_from_is_err_and c.from_residual.result c.from_residual.ensures.1 in
    rw (p.1, p.2)
    (negated_refused (sym c.node_value.ensures ∙ c.in_err-part-in-3.was)
    ∙ sym (node_there _ _ _ _ _ c.if-left-eq0.false c.row_at-row.result c.row_at-row.ensures negation (ap kind_of c.in-3.is)))

pub node_value-returns-else-is_deep : goal.node_value-returns-else-is_deep
node_value-returns-else-is_deep t c =
    c.combined.ensures
    ∙ joined_alike _ c.node_value-a.ensures c.node_value-in-4.ensures
    ∙ sym (kind_binary c.row_at-row.result.first _ _ _ _ _ (search rules) (search rules) (search rules) (search rules) (omega arith))
    ∙ sym (node_there _ _ _ _ _ c.if-left-eq0.false c.row_at-row.result c.row_at-row.ensures _ refl)

pub node_value-returns-in_default : goal.node_value-returns-in_default
node_value-returns-in_default t c =
    sym (node_there _ _ _ _ _ c.if-left-eq0.false c.row_at-row.result c.row_at-row.ensures unknown (kind_above _ (omega arith)))
