-- What is left is bad exactly if the whole is.
-- Assumes nothing.
use mathlib.Core.Path.{◌≡◌}
use lib.ListN.{length}
use Rattle.records.specs.Objects.{bad_objects}
use Rattle.records.proofs.objects.bad_objects.Given as goal

abbrev pub invariant-loop-objects : goal.invariant-loop-objects
invariant-loop-objects l = bad_objects l.left l.objects ≡ bad_objects l.values l.fn.objects

abbrev pub decreases-loop-objects : goal.decreases-loop-objects
decreases-loop-objects l = length l.objects
