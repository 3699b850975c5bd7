-- The shape of a postbyte that holds an offset of five bits.
-- Assumes nothing.
use mathlib.Core.Path.{◌≡◌, refl}
use mathlib.Core.Bool.{false}
use Prim.Native.Nat.{ℕ, ◌+◌, ◌/◌, ◌%◌}
use native.Mathlib.Omega.{arith}
use borrow.Author.Tests.{lt-ltb}
use Rattle.std.specs.Prelude.{Ok}
use Rattle.ground.specs.Choice.{pick}
use Rattle.values.specs.Widths.{extended}
use Rattle.postbytes.specs.declared.Shape.{Shape}
use Rattle.postbytes.specs.declared.Shape.TheVariants as shape
use Rattle.postbytes.specs.Registers.{X, not_indexing}
use Rattle.postbytes.specs.Writing.{register_bits}
use Rattle.postbytes.specs.Reading.{shape_of, extra_of}
use Rattle.postbytes.proofs.Tests.{indexing}

-- a postbyte of a shape that has no bytes, one, or two, is read as that shape filled with them
pub record Has (p n : ℕ) (s : Shape) : Type 0 where
  pub shape : shape_of p ≡ Ok s
  pub extra : extra_of s ≡ n

pub five_shape : (r n : ℕ) → not_indexing r ≡ false → Has (n % 32 + register_bits r) 0 (shape.FiveBits r (extended 5 (n % 32)))
unfolding shape_of pick
five_shape r n hr =
    let b = indexing r hr in
    let p = n % 32 + register_bits r in
    let e₁ : X + p / 32 % 4 ≡ r = omega arith in
    let e₂ : p % 32 ≡ n % 32 = omega arith in
    record {
      shape = simp (lt-ltb p 128 (omega arith), e₁, e₂);
      extra = refl;
    }
