-- What the tests of a register's number tell of it.
-- Assumes nothing.
use mathlib.Core.Path.{◌≡◌}
use mathlib.Core.Bool.{false}
use Prim.Native.Nat.{ℕ, ◌≤◌}
use lib.Dec.{ltb}
use borrow.Author.Tests.{ltb-false}
use Rattle.ground.proofs.Tests.{neither_left, neither_right}
use Rattle.postbytes.specs.Registers.{X, S, unknown_step, not_indexing}

pub indexing : (r : ℕ) → not_indexing r ≡ false → (X ≤ r) × (r ≤ S)
indexing r e = (ltb-false r X (neither_left (ltb r X) (ltb S r) e), ltb-false S r (neither_right (ltb r X) (ltb S r) e))

pub known_step : (k : ℕ) → unknown_step k ≡ false → (1 ≤ k) × (k ≤ 4)
known_step k e = (ltb-false k 1 (neither_left (ltb k 1) (ltb 4 k) e), ltb-false 4 k (neither_right (ltb k 1) (ltb 4 k) e))
