-- `records::walk::Open::begin` meets its contract: at the next address nothing is written; elsewhere the record is closed.
-- Assumes nothing.
use mathlib.Core.Path.{◌≡◌, refl, sym}
use mathlib.Core.List.{◌∷◌}
use Prim.Native.Nat.{◌+◌}
use native.Mathlib.Omega.{arith}
use lib.ListN.{length}
use Rattle.records.specs.Text.{Start as From}
use Rattle.records.specs.Steps.{Present, holding, pending}
use Rattle.records.proofs.Steps.{ahead_joins, ahead_starts, goes_stay, goes_restart, pending_length}
use Rattle.records.proofs.walk.Open.begin.Goals as goal
use Rattle.records.proofs.walk.Open.begin.Goals.{Start}

abbrev held : Start → Present
held c = holding c.args.self c.args.bytes.now

counted : (c : Start) → length (pending (held c)) ≡ c.args.self.n
counted c = pending_length (held c) c.requires.0 (omega arith)

pub returns-then-address-self : goal.returns-then-address-self
returns-then-address-self c =
    let a = c.args in
    let s = held (goal.at.returns-then-address-self c).Start in
    let next : a.address ≡ s.start + length (pending s) = omega (arith, counted (goal.at.returns-then-address-self c).Start) in
    goes_stay a.out.now s s a.address (λ es. From a.address ∷ es)
    (λ es. sym (ahead_joins s.start (pending s) a.address es next)) refl c.requires.1 c.requires.0 (omega arith)

pub returns-else-address-self : goal.returns-else-address-self
returns-else-address-self c =
    let a = c.args in
    let s = held (goal.at.returns-else-address-self c).Start in
    goes_restart s (λ es. From a.address ∷ es) c.restart.ensures refl
    (λ es. ahead_starts s.start (pending s) a.address es (λ h. c.if-address-self.false (omega (arith, h, counted (goal.at.returns-else-address-self c).Start))))
