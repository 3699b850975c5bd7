-- Every refusal has a number.
-- Assumes nothing.
use mathlib.Core.Path.{◌≡◌}
use native.Mathlib.Omega.{arith}
use Rattle.ground.specs.declared.refusals.Refusal.{Refusal}
use Rattle.ground.specs.declared.refusals.Refusal.TheVariants.{Unknown, NoSuchMode, ValueMissing, BadRegister, SingleStepIndirect, BadWidth, DirectNotAllowed, BranchTooFar, NoRoom, BadLabel, TooDeep, SegmentRepeated, NotSettled, Undefined, CutShort, BrokenText, OverLimit, Beyond}
use Rattle.ground.specs.Refusals.{number_of}

pub refused_number : (r : Refusal) → number_of r ≡ 0 → ⊥
refused_number Unknown e = omega arith
refused_number NoSuchMode e = omega arith
refused_number ValueMissing e = omega arith
refused_number BadRegister e = omega arith
refused_number SingleStepIndirect e = omega arith
refused_number BadWidth e = omega arith
refused_number DirectNotAllowed e = omega arith
refused_number BranchTooFar e = omega arith
refused_number NoRoom e = omega arith
refused_number BadLabel e = omega arith
refused_number TooDeep e = omega arith
refused_number SegmentRepeated e = omega arith
refused_number NotSettled e = omega arith
refused_number Undefined e = omega arith
refused_number CutShort e = omega arith
refused_number BrokenText e = omega arith
refused_number OverLimit e = omega arith
refused_number Beyond e = omega arith
