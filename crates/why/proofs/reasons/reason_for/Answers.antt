-- `why::reasons::reason_for` meets its contract.
-- Assumes nothing.
use mathlib.Core.Path.{ap}
use Prim.Native.Nat.{ℕ}
use lib.Dec.{eqb}
use borrow.Author.Tests.{ne_eqb}
use Rattle.ground.specs.Choice.{pick}
use Rattle.why.specs.Reasons.{reason_for}
use Rattle.why.proofs.reasons.reason_for.Goals as goal

pub returns-in-4 : goal.returns-in-4
unfolding reason_for pick
returns-in-4 c = let k = c.in-4.is in rw (ap (λ (n : ℕ). eqb n 4) k) c.extended_reason.ensures

pub returns-in-2 : goal.returns-in-2
unfolding reason_for pick
returns-in-2 c = let k = c.in-2.is in rw (ap (λ (n : ℕ). eqb n 4) k, ap (λ (n : ℕ). eqb n 2) k) c.relative_reason.ensures

pub returns-in-1 : goal.returns-in-1
unfolding reason_for pick
returns-in-1 c = let k = c.in-1.is in rw (ap (λ (n : ℕ). eqb n 4) k, ap (λ (n : ℕ). eqb n 2) k, ap (λ (n : ℕ). eqb n 1) k) c.offset_reason.ensures

pub returns-in_default : goal.returns-in_default
unfolding reason_for pick
returns-in_default c = let r = c.in_default.in_default-own.rest in rw (ne_eqb _ _ r.0.0.1, ne_eqb _ _ r.0.1, ne_eqb _ _ r.1)
