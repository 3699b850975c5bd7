-- One instruction of a list: the size of its build, and what it takes for it to be laid.
-- Assumes nothing.
use mathlib.Core.Path.{◌≡◌, refl, ap, ◌∙◌}
use Prim.Native.Nat.{ℕ, ◌+◌, ◌%◌, ◌≤◌}
use lib.Dec.{ltb}
use lib.ListN.{length}
use borrow.Author.Tests.{le-ltb, ltb-false}
use Rattle.std.specs.Prelude.{Result, Ok, Err}
use Rattle.ground.specs.declared.refusals.Refusal.{Refusal}
use Rattle.ground.specs.Choice.{pick}
use Rattle.ground.specs.declared.refusals.Refusal.{Refusal}
use Rattle.ground.proofs.Choices.{by_test}
use Rattle.instruction.specs.declared.Record.{Record}
use Rattle.instruction.specs.declared.Built.{Built}
use Rattle.instruction.specs.Building.{fresh_of, told, bytes_told, size_told}
use Rattle.instruction.proofs.Padded.{Told, fresh_told}
use Rattle.ground.proofs.Refused.{refused_number}
use Rattle.laying.specs.Laying.{built_at, size_at}

-- a build of the record that was read
pub built_from : {b : Result Built Refusal} {r : Record} (entry : Record) (at : ℕ) → r ≡ entry → b ≡ fresh_of r (at % 65536) → b ≡ built_at entry at
unfolding built_at
built_from entry at e d = d ∙ ap (λ (x : Record). fresh_of x (at % 65536)) e

-- as many bytes as it says, at most five
pub built_told : (entry : Record) (at : ℕ) → Told (built_at entry at)
unfolding built_at
built_told entry at = fresh_told entry (at % 65536)

pub built_bytes : (entry : Record) (at : ℕ) → length (bytes_told (built_at entry at)) ≡ size_told (built_at entry at)
built_bytes entry at = (built_told entry at).size

pub built_most : {b : Result Built Refusal} (entry : Record) (at : ℕ) → b ≡ built_at entry at → size_told b ≤ 5
built_most entry at e = rw e (built_told entry at).most

-- ---- none of its refusals
pub record Takes (b : Result Built Refusal) (at room : ℕ) : Type 0 where
  pub own : told b ≡ 0
  pub within : at + size_told b ≤ 65536
  pub enough : size_told b ≤ room

pub takes : (b : Result Built Refusal) (at room n : ℕ) → size_at b at room ≡ Ok n → Takes b at room × (n ≡ size_told b)
takes (Ok b) at room n =
    let P : Result ℕ Refusal → Type 0 = λ r. r ≡ Ok n → Takes (Ok b) at room × (n ≡ b.length) in
    by_test P (ltb 65536 (at + b.length)) (λ _ z. cc)
    (λ f.
    by_test P (ltb room b.length) (λ _ z. cc)
    (λ g z. (record { own = refl; within = ltb-false 65536 (at + b.length) f; enough = ltb-false room b.length g }, cc)))
takes (Err refusal) at room n = λ z. cc

pub taken : (b : Result Built Refusal) (at room : ℕ) → Takes b at room → size_at b at room ≡ Ok (size_told b)
unfolding pick
taken (Ok b) at room t = rw (le-ltb 65536 (at + b.length) t.within, le-ltb room b.length t.enough)
taken (Err refusal) at room t = absurd (refused_number refusal t.own)
