-- How a measure grows with an object.
-- Assumes nothing.
use mathlib.Core.Path.{◌≡◌, refl, sym}
use Prim.Native.Nat.{ℕ, ◌+◌, ◌≤◌, ◌<◌}
use native.Mathlib.Omega.{arith}
use lib.Dec.{eqb}
use borrow.Author.Tests.{eqb-true}
use Rattle.ground.proofs.Choices.{by_test, by_pick}
use Rattle.assembly.specs.declared.tally.Tally.{Tally}
use Rattle.assembly.specs.Steps.{closed_length, started, grown, tallied}

module _ (t : Tally) (h : t.held < 32) where
  pub closed_short : closed_length t ≤ t.length + 74
  unfolding closed_length
  closed_short = by_pick (λ (n : ℕ). n ≤ t.length + 74) (eqb t.held 0) (omega arith) (omega arith)

  pub started_short : (address : ℕ) → ((started address t).held < 32) × ((started address t).length ≤ t.length + 74)
  unfolding started
  started_short address =
      by_pick (λ (x : Tally). (x.held < 32) × (x.length ≤ t.length + 74)) (eqb address t.next)
      (h, omega arith) (omega arith, closed_short)

  pub started_next : (address : ℕ) → (started address t).next ≡ address
  unfolding started
  started_next address =
      by_test (λ (x : Tally). x.next ≡ address) (eqb address t.next) (λ e. sym (eqb-true address t.next e)) (λ _. refl)

grown_short : (t : Tally) (size : ℕ) → t.held < 32 → size ≤ 65536 → ((grown size t).held < 32) × ((grown size t).length ≤ t.length + 156000)
unfolding grown
grown_short t size h s = (omega arith, omega arith)

pub object_short :
    (t : Tally) (address size : ℕ) → t.held < 32 → size ≤ 65536 →
    ((grown size (started address t)).held < 32) × ((grown size (started address t)).length ≤ t.length + 200000)
object_short t address size h s =
    let b = started_short t h address in
    let g = grown_short (started address t) size b.0 s in
    (g.0, omega (arith, b.1, g.1))

pub tallied_short :
    (kind address size : ℕ) (t : Tally) → t.held < 32 → size ≤ 65536 →
    ((tallied kind address size t).held < 32) × ((tallied kind address size t).length ≤ t.length + 200000)
unfolding tallied
tallied_short kind address size t h s =
    by_pick (λ (x : Tally). (x.held < 32) × (x.length ≤ t.length + 200000)) (eqb kind 1)
    (object_short t address size h s) (h, omega arith)
