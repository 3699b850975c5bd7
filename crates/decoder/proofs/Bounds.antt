-- How many bytes an operand has at the most.
-- Assumes nothing.
use Prim.Native.Nat.{ℕ, ◌+◌, ◌≤◌}
use native.Mathlib.Omega.{arith}
use lib.Dec.{eqb, ltb}
use Rattle.std.specs.Prelude.{Result, Ok, Err, ◌≡◌, IfOk}
use Rattle.ground.specs.declared.refusals.Refusal.{Refusal}
use Rattle.ground.proofs.Choices.{by_pick}
use Rattle.std.proofs.lemmas.Result.{IfOk-at_ok}
use Rattle.rows.specs.Sizes.{is_wide, is_long, number_at}
use Rattle.postbytes.specs.declared.Shape.{Shape}
use Rattle.postbytes.specs.declared.Shape.TheVariants.{NoOffset, FiveBits, OneByte, TwoBytes, Accumulator, Step, CounterByte, CounterWord, Address}
use Rattle.postbytes.specs.declared.Pair.{Pair}
use Rattle.postbytes.specs.ListsRead.{pair_of}
use Rattle.postbytes.specs.Reading.{shape_of, extra_of}
use Rattle.decoder.specs.declared.Origin.{Origin}
use Rattle.decoder.specs.declared.operands.Rest.{Rest}
use Rattle.decoder.specs.declared.operands.Reading.{Reading}
use Rattle.decoder.specs.Origin.{unseen}
use Rattle.decoder.specs.Operands.{numbered_at, indexed_as, indexed_at, is_pair, paired_as, registers_at, operand_of}

pub extra_small : (s : Shape) → extra_of s ≤ 2
extra_small (NoOffset r ind) = omega arith
extra_small (FiveBits r n) = omega arith
extra_small (OneByte r ind) = omega arith
extra_small (TwoBytes r ind) = omega arith
extra_small (Accumulator r ind a) = omega arith
extra_small (Step r ind k) = omega arith
extra_small (CounterByte ind) = omega arith
extra_small (CounterWord ind) = omega arith
extra_small Address = omega arith

abbrev Small : ℕ → Type 0
Small n = n ≤ 2

pub number_small : (form page code : ℕ) → number_at form page code ≤ 2
unfolding number_at
number_small form page code =
    by_pick Small (eqb form 1) (by_pick Small (is_wide page code) (omega arith) (omega arith))
    (by_pick Small (eqb form 2) (omega arith)
    (by_pick Small (eqb form 4) (omega arith)
    (by_pick Small (eqb form 5) (by_pick Small (is_long page code) (omega arith) (omega arith)) (omega arith))))

abbrev pub Short : Result Reading Refusal → Type 0
Short x = IfOk x (λ r. r.size ≤ 3)

pub operand_small : (o form size : ℕ) (r : Rest) (after : Origin) → size ≤ 2 → Short (operand_of o form size r after)
unfolding operand_of indexed_at indexed_as registers_at numbered_at
operand_small o form size r after h =
    by_pick Short (eqb form 3)
    (by_pick Short (eqb r.left 0) tt (indexed (shape_of r.first)))
    (by_pick Short (eqb form 6)
    (by_pick Short (eqb r.left 0) tt (by_pick Short (is_pair o) (paired (pair_of r.first)) (omega arith)))
    (by_pick Short (unseen form after) tt (by_pick Short (ltb r.left size) tt (omega arith))))
  where
    indexed : (x : Result Shape Refusal) → Short (indexed_as x r after)
    indexed (Ok s) = let e = extra_small s in by_pick Short (ltb r.left (1 + extra_of s)) tt (omega arith)
    indexed (Err e) = tt

    paired : (x : Result Pair Refusal) → Short (paired_as x)
    paired (Ok p) = omega arith
    paired (Err e) = tt

pub reading_small : (o form size : ℕ) (r : Rest) (after : Origin) (x : Reading) → size ≤ 2 → operand_of o form size r after ≡ Ok x → x.size ≤ 3
reading_small o form size r after x h e = IfOk-at_ok (λ (y : Reading). y.size ≤ 3) e (operand_small o form size r after h)
