-- `meanings::kind` meets its contract.
-- Assumes nothing.
use mathlib.Core.Path.{ap}
use Prim.Native.Nat.{ℕ}
use lib.Dec.{eqb}
use borrow.Author.Tests.{ne_eqb}
use Rattle.ground.specs.Choice.{pick}
use Rattle.meanings.specs.Means.{kind_of}
use Rattle.meanings.proofs.kind.Goals as goal

pub returns-in-0 : goal.returns-in-0
unfolding kind_of pick
returns-in-0 c =
    let k = c.in-0.is in
    rw (ap (λ (n : ℕ). eqb n 0) k)

pub returns-in-1 : goal.returns-in-1
unfolding kind_of pick
returns-in-1 c =
    let k = c.in-1.is in
    rw (ap (λ (n : ℕ). eqb n 0) k, ap (λ (n : ℕ). eqb n 1) k)

pub returns-in-2 : goal.returns-in-2
unfolding kind_of pick
returns-in-2 c =
    let k = c.in-2.is in
    rw (ap (λ (n : ℕ). eqb n 0) k, ap (λ (n : ℕ). eqb n 1) k, ap (λ (n : ℕ). eqb n 2) k)

pub returns-in-4 : goal.returns-in-4
unfolding kind_of pick
returns-in-4 c =
    let k = c.in-4.is in
    rw (ap (λ (n : ℕ). eqb n 0) k, ap (λ (n : ℕ). eqb n 1) k, ap (λ (n : ℕ). eqb n 2) k, ap (λ (n : ℕ). eqb n 4) k)

pub returns-in-3 : goal.returns-in-3
unfolding kind_of pick
returns-in-3 c =
    let k = c.in-3.is in
    rw (ap (λ (n : ℕ). eqb n 0) k, ap (λ (n : ℕ). eqb n 1) k, ap (λ (n : ℕ). eqb n 2) k, ap (λ (n : ℕ). eqb n 4) k, ap (λ (n : ℕ). eqb n 3) k) c.index_kind.ensures

pub returns-in-5 : goal.returns-in-5
unfolding kind_of pick
returns-in-5 c =
    let k = c.in-5.is in
    rw (ap (λ (n : ℕ). eqb n 0) k, ap (λ (n : ℕ). eqb n 1) k, ap (λ (n : ℕ). eqb n 2) k, ap (λ (n : ℕ). eqb n 4) k, ap (λ (n : ℕ). eqb n 3) k, ap (λ (n : ℕ). eqb n 5) k)

pub returns-in_default : goal.returns-in_default
unfolding kind_of pick
returns-in_default c =
    let r = c.in_default.in_default-own.rest in
    rw (ne_eqb _ _ r.0.0.0.0.0.1, ne_eqb _ _ r.0.0.0.0.1, ne_eqb _ _ r.0.0.0.1, ne_eqb _ _ r.0.0.1, ne_eqb _ _ r.0.1, ne_eqb _ _ r.1) c.list_kind.ensures
