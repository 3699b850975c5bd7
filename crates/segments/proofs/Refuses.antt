-- Which refusals adding a start has: 12, 17 and 9.
-- Assumes nothing.
use mathlib.Core.Path.{◌≡◌, refl}
use mathlib.Core.List.{List}
use mathlib.Core.Logic.{◌⊎◌, inl, inr}
use Prim.Native.Nat.{ℕ}
use lib.Dec.{eqb, leb}
use lib.ListN.{length, take}
use Rattle.std.proofs.Common.{Result, Ok, Err}
use Rattle.ground.specs.declared.refusals.Refusal.{Refusal}
use Rattle.ground.specs.declared.refusals.Refusal.TheVariants.{NoRoom, SegmentRepeated, OverLimit}
use Rattle.ground.proofs.Choices.{by_pick}
use Rattle.segments.specs.Segments.{holds_of, counted_of, added_to}

-- no refusal, 12, 17 or 9
abbrev pub Adding : Result ℕ Refusal → Type 0
Adding (Ok next) = Unit
Adding (Err why) = (why ≡ SegmentRepeated) ⊎ (why ≡ OverLimit) ⊎ (why ≡ NoRoom)

pub added_refuses : (l : List ℕ) (count x : ℕ) → Adding (added_to l count x)
unfolding added_to counted_of
added_refuses l count x =
    by_pick Adding (eqb x 0) tt
    (by_pick Adding (holds_of x (take count l)) (inl refl)
    (by_pick Adding (leb 63 count) (inr (inl refl))
    (by_pick Adding (leb (length l) count) (inr (inr refl)) tt)))
