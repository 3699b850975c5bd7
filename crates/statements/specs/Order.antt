-- 01: "Order in a build: 1, 2, 11, 10, 3, 12, 17 (65th segment, 0 counted), 7, 6, 5, 4, 8, 9." Of the refusals that a statement meets, wherever in it they
-- stand, the earliest in this order is given, and never one for the size of its number.
use Rattle.std.specs.Prelude.{ℕ, ◌+◌, List, [], ◌∷◌, Option, None, Some, eqb, leb}
use Rattle.ground.specs.Choice.{pick}
use Rattle.ground.specs.declared.refusals.Refusal.{Refusal}
use Rattle.ground.specs.declared.refusals.Refusal.TheVariants.{Unknown, NoSuchMode, ValueMissing, BadRegister, SingleStepIndirect, BadWidth, DirectNotAllowed, BranchTooFar, NoRoom, BadLabel, TooDeep, SegmentRepeated, OverLimit}
use Rattle.ground.specs.Refusals.{number_of}

abbrev pub order : List Refusal
order =
    Unknown ∷ NoSuchMode ∷ TooDeep ∷ BadLabel ∷ ValueMissing ∷ SegmentRepeated ∷ OverLimit ∷ DirectNotAllowed ∷ BadWidth ∷ SingleStepIndirect
    ∷ BadRegister ∷ BranchTooFar ∷ NoRoom ∷ []

-- where a refusal stands in a list; what it does not hold comes after all that it holds
abbrev pub place_in : List Refusal → Refusal → ℕ
place_in [] r = 0
place_in (m ∷ ms) r = pick (eqb (number_of r) (number_of m)) 0 (1 + place_in ms r)

-- no refusal comes after all refusals
unfoldable pub place_of : Option Refusal → ℕ
place_of None = 14
place_of (Some r) = place_in order r

unfoldable pub earlier : Option Refusal → Option Refusal → Option Refusal
earlier a b = pick (leb (place_of a) (place_of b)) a b

abbrev pub earliest : List (Option Refusal) → Option Refusal
earliest [] = None
earliest (r ∷ rs) = earlier r (earliest rs)
