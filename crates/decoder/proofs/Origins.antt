-- Places further on, and what it says that no byte lies beyond 65535.
-- Assumes nothing.
use mathlib.Core.Path.{◌≡◌, ap}
use mathlib.Core.Bool.{false}
use mathlib.Core.List.{List}
use Prim.Native.Nat.{ℕ, ◌+◌, ◌<◌, ◌≤◌}
use native.Mathlib.Omega.{arith}
use lib.ListN.{length, drop_of_length-le}
use borrow.Author.Tests.{ltb-false}
use Rattle.std.specs.Prelude.{Err}
use Rattle.ground.specs.Choice.{pick}
use Rattle.ground.specs.declared.refusals.Refusal.TheVariants.{CutShort}
use Rattle.decoder.specs.declared.Origin.{Origin}
use Rattle.decoder.specs.Origin.{origin, shifted, outside}
use Rattle.decoder.specs.Front.{front_of}
use Rattle.decoder.specs.Run.{next_of}

pub shift_zero : (from : Origin) → from.address < 65536 → shifted from 0 ≡ from
unfolding shifted
shift_zero from h = ap (λ (a : ℕ). origin a from.page) (omega arith)

pub shift_shift : (from : Origin) (a b : ℕ) → shifted (shifted from a) b ≡ shifted from (a + b)
unfolding shifted
shift_shift from a b = ap (λ (n : ℕ). origin n from.page) (omega arith)

pub inside : (l : List ℕ) (from : Origin) → outside l from ≡ false → from.address + length l ≤ 65536
unfolding outside
inside l from e = ltb-false 65536 (from.address + length l) e

pub shifted_small : (from : Origin) (n : ℕ) → (shifted from n).address < 65536
unfolding shifted
shifted_small from n = omega arith

-- past the end nothing is there
pub next_past : (l : List ℕ) (from : Origin) (at : ℕ) → outside l from ≡ false → length l ≤ at → next_of l from at ≡ Err CutShort
unfolding next_of front_of pick
next_past l from at q h = rw (q, drop_of_length-le l h)
