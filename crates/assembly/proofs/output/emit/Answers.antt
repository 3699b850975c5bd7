-- `assembly::output::emit` meets its contract. The loop's invariant: what is left, from the present place on, completes the whole.
-- Assumes nothing.
use mathlib.Core.Path.{ap}
use Prim.Native.Nat.{ℕ}
use native.Mathlib.Omega.{arith}
use Rattle.assembly.proofs.Turns.{gone_first, gone_ready, gone_more, gone_end}
use Rattle.assembly.proofs.output.emit.Goals as goal

pub loop-i-init : goal.loop-i-init
loop-i-init c = gone_first _ _ _ _ _

pub step-s-requires : goal.step-s-requires
step-s-requires c =
    let loop = c.loop-i in
    gone_ready _ _ _ _ _ _ _ loop.s loop.i loop.invariant c.requires c.loop-i-test.true

pub loop-i-preserved : goal.loop-i-preserved
loop-i-preserved c =
    let loop = c.loop-i in
    gone_more _ _ _ _ _ _ _ loop.s loop.i loop.invariant _ _ _ c.loop-i-test.true c.step-s.ensures

pub end-requires : goal.end-requires
end-requires c =
    let inv = c.loop-i.invariant in
    (inv.held, omega (arith, inv.short, c.loop-i.auto.i-end, c.requires))

pub returns : goal.returns
returns c =
    let loop = c.loop-i in
    let p = gone_end _ _ _ _ _ _ _ loop.s loop.i loop.invariant _ (omega (arith, c.loop-i-test.false, loop.auto.i-end))
    (ap (λ (n : ℕ). record { objects = loop.s.objects; values = loop.s.values; length = n }) c.end.ensures) in
    record { answer = p.0; objects = p.1.0; values = p.1.1 }
