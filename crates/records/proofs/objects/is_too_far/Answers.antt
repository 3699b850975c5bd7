-- An object that ends within 65536 leaves what is left to decide, and so does one without values.
-- Assumes nothing.
use mathlib.Core.Path.{sym, ◌∙◌}
use native.Mathlib.Omega.{arith}
use Rattle.records.proofs.Tables.{far_on, good_next, skipped}
use Rattle.records.proofs.objects.is_too_far.Goals as goal

pub loop-objects-preserved-else-first-size_of-gt65536 : goal.loop-objects-preserved-else-first-size_of-gt65536
loop-objects-preserved-else-first-size_of-gt65536 c =
    let os = c.loop-objects.objects.now in
    let vs = c.loop-objects.values.now in
    let w = c.loop-objects.invariant in record {
      same = sym (far_on os vs (omega arith) (omega arith) c.count_of-count.ensures c.split_at.ensures.front c.split_at.ensures.back c.size_of.ensures (omega arith)) ∙ w.same;
      good = rw (c.split_at.ensures.back, c.count_of-count.ensures) (good_next os vs (omega arith) w.good);
    }

pub loop-objects-preserved : goal.loop-objects-preserved
loop-objects-preserved c =
    let w = c.loop-objects.invariant in
    let s = skipped c.loop-objects.objects.now c.loop-objects.values.now (omega arith) (omega arith) (omega (arith, c.count_of-count.ensures, c.if-count-gt0.false)) w.good in record {
      same = sym s.same ∙ w.same;
      good = s.good;
    }
