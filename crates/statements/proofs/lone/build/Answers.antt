-- `statements::lone::build` meets its contract: four ways to end.
-- Assumes nothing.
use mathlib.Core.Path.{sym, ap, ◌∙◌}
use Rattle.statements.specs.declared.Effect.{Effect}
use Rattle.statements.proofs.Alone.{no_refusal, too_many_lem, own, no_room_lem, stored}
use Rattle.statements.proofs.lone.build.Goals as goal

pub returns-then-overfull : goal.returns-then-overfull
returns-then-overfull c =
    let a = c.args in
    let o = sym c.overfull.ensures ∙ c.if-overfull.true in
    let p = too_many_lem a.list.now a.items.now a.nodes.now a.labels.now a.i a.address a.page a.ill a.values.now o in
    record { value = p.0; values_after = p.1 }

pub returns-in-Some : goal.returns-in-Some
returns-in-Some c =
    let a = c.args in
    let o = sym c.overfull.ensures ∙ c.if-overfull.false in
    let e = ap (λ (e : Effect). e.refusal) (sym c.effect-effect.ensures) in
    let p = own a.list.now a.items.now a.nodes.now a.labels.now a.i a.address a.page a.ill a.values.now o (e ∙ c.in-Some.is) in
    record { value = p.0; values_after = p.1 }

pub returns-then-values-count : goal.returns-then-values-count
returns-then-values-count c =
    let a = c.args in
    let o = sym c.overfull.ensures ∙ c.if-overfull.false in
    let e = ap (λ (e : Effect). e.refusal) (sym c.effect-effect.ensures) in
    let n = c.store_values-count.ensures.value in
    let p = no_room_lem a.list.now a.items.now a.nodes.now a.labels.now a.i a.address a.page a.ill a.values.now o (e ∙ no_refusal _ c.in_default.not-Some) (rw n at c.if-values-count.true) in
    record { value = p.0; values_after = p.1 }

pub returns : goal.returns
returns c =
    let a = c.args in
    let o = sym c.overfull.ensures ∙ c.if-overfull.false in
    let e = ap (λ (e : Effect). e.refusal) (sym c.effect-effect.ensures) in
    let n = c.store_values-count.ensures.value in
    let p = stored a.list.now a.items.now a.nodes.now a.labels.now a.i a.address a.page a.ill a.values.now o (e ∙ no_refusal _ c.in_default.not-Some) (rw n at c.if-values-count.false) in
    rw (c.effect-effect.ensures, n, c.store_values.ensures.values_after) (record { value = p.0; values_after = p.1 })
