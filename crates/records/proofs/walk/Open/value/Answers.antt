-- The two bytes of a value of 16 bits, one after the other.
-- Assumes nothing.
use mathlib.Core.Path.{◌≡◌}
use mathlib.Core.List.{◌∷◌}
use Prim.Native.Nat.{◌+◌}
use native.Mathlib.Omega.{arith}
use borrow.Author.Tests.{eq-eqb}
use Rattle.ground.specs.Choice.{pick}
use Rattle.ground.specs.Words.{high, low}
use Rattle.records.specs.Objects.{bytes_of}
use Rattle.records.specs.Text.{Byte}
use Rattle.records.proofs.Steps.{goes_then}
use Rattle.records.proofs.walk.Open.value.Goals as goal

pub returns-then-width-eq16 : goal.returns-then-width-eq16
unfolding bytes_of pick
returns-then-width-eq16 c =
    let a = c.args in
    let v = c.byte-half.ensures.goes in
    let h = c.byte-half.result in
    let next : h.start + h.n + 1 ≡ a.self.start + a.self.n + 2 = omega (arith, v.place) in
    rw (eq-eqb a.width 16 c.if-width-eq16.true)
    (rw next at (goes_then (λ es. Byte (high a.number) ∷ es) (λ es. Byte (low a.number) ∷ es) v c.byte.ensures.goes))
