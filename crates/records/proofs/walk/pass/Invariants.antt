-- At the head of each loop the text still ahead completes the whole.
-- Assumes nothing.
use lib.ListN.{length}
use Rattle.records.specs.Objects.{objects_of}
use Rattle.records.specs.Text.{events}
use Rattle.records.specs.Steps.{holding}
use Rattle.records.proofs.Rounds.{Inner, Outer}
use Rattle.records.proofs.walk.pass.Given as goal

abbrev pub invariant-values : goal.invariant-values
invariant-values l =
    Inner l.room l.initial.out (holding l.initial.present l.initial.bytes) l.initial.own (events (objects_of l.objects l.values)) l.out (holding l.present l.bytes) l.own

abbrev pub decreases-values : goal.decreases-values
decreases-values l = length l.own

abbrev pub invariant-objects : goal.invariant-objects
invariant-objects l =
    Outer l.objects l.values l.room l.initial.out (holding l.initial.present l.initial.bytes) (events (objects_of l.fn.objects l.fn.values)) l.out (holding l.present l.bytes)

abbrev pub decreases-objects : goal.decreases-objects
decreases-objects l = length l.objects
