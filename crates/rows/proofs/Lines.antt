-- What bounds the digits of the lines of codes, and the places from which a sixteen stands.
-- Assumes nothing.
use mathlib.Core.Bool.{Bool}
use Prim.Native.Nat.{ℕ, ◌/◌, ◌<◌}
use native.Mathlib.Omega.{arith}
use lib.Dec.{T, ltb, ltb→lt}
use lib.ListN.{get_or}
use Rattle.ground.proofs.Ranges.{upto, below}
use Rattle.rows.specs.Quick.{digit_of, firsts}

pub digit_small : (line case : ℕ) → digit_of line case < 16
unfolding digit_of
digit_small line case = omega arith

first_small : ℕ → Bool
first_small sixteen = ltb (get_or firsts sixteen 0) 33

firsts_small : T (upto first_small 16)
unfolding first_small
firsts_small = tt

pub first_small_lem : (code : ℕ) → code < 256 → get_or firsts (code / 16) 0 < 33
unfolding first_small
first_small_lem code h = ltb→lt (get_or firsts (code / 16) 0) 33 (below first_small 16 firsts_small (code / 16) (omega arith))
