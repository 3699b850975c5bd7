-- What is left is too far exactly if the whole is, and no value is counted that is not there.
-- Assumes nothing.
use mathlib.Core.Path.{◌≡◌}
use mathlib.Core.Bool.{false}
use Prim.Native.Nat.{◌/◌}
use lib.ListN.{length}
use Rattle.records.specs.Objects.{objects_of, bad_objects, too_far}
use Rattle.records.proofs.objects.is_too_far.Given as goal

abbrev pub invariant-loop-objects : goal.invariant-loop-objects
invariant-loop-objects l = record {
  same : too_far (objects_of l.objects l.values) ≡ too_far (objects_of l.fn.objects l.fn.values);
  good : bad_objects (length l.values / 2) l.objects ≡ false;
}

abbrev pub decreases-loop-objects : goal.decreases-loop-objects
decreases-loop-objects l = length l.objects
