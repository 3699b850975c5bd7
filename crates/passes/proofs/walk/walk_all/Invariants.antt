-- `passes::walk::walk_all` meets its contract: the statements passed have been walked.
-- Assumes nothing.
use mathlib.Core.Path.{◌≡◌}
use Prim.Native.Nat.{◌≤◌}
use Rattle.passes.specs.Walks.{source, walk, begun, walk_of}
use Rattle.passes.proofs.walk.walk_all.Given as goal

abbrev pub invariant-loop-i : goal.invariant-loop-i
invariant-loop-i l = record {
  walked : walk l.s l.labels l.sizes l.starts ≡ walk_of (source l.list l.items l.nodes) l.i 0 (walk begun l.initial.labels l.initial.sizes l.initial.starts);
  bound : l.s.at ≤ 65536;
}
