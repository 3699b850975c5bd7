-- Tests that antt computes: of every row of a list, and whether two answers are the same, with what such a test tells.
-- Assumes nothing.
use mathlib.Core.Path.{◌≡◌, ◌∙◌, ap}
use mathlib.Core.Bool.{Bool, true, false, ◌&&◌}
use mathlib.Core.List.{List, [], ◌∷◌}
use Prim.Native.Nat.{ℕ}
use lib.Dec.{T, eqb, eqb→eq}
use Rattle.std.specs.Prelude.{Result, Ok, Err}
use Rattle.ground.proofs.Ranges.{both_left, both_right}
use Rattle.ground.specs.Refusals.{number_of}
use Rattle.ground.specs.declared.refusals.Refusal.{Refusal}
use Rattle.rows.specs.declared.Code.{Code}
use Rattle.rows.specs.declared.Named.{Named}
use Rattle.rows.specs.Lookup.{coded, named}
use Rattle.rows.proofs.Told.{same_number}

-- the test f passes at every element
abbrev pub every : (ℕ → Bool) → List ℕ → Bool
every f [] = true
every f (x ∷ xs) = f x && every f xs

-- whether two answers are the same, by a test of what is answered
abbrev pub same : {A : Type 0} → (A → A → Bool) → Result A Refusal → Result A Refusal → Bool
same f (Ok a) (Ok b) = f a b
same f (Ok a) (Err r) = false
same f (Err r) (Ok a) = false
same f (Err r) (Err s) = eqb (number_of r) (number_of s)

abbrev pub same_coded : Result Code Refusal → Result Code Refusal → Bool
same_coded = same (λ (a b : Code). eqb a.page b.page && eqb a.code b.code)

abbrev pub same_named : Result Named Refusal → Result Named Refusal → Bool
same_named = same (λ (a b : Named). eqb a.operation b.operation && eqb a.form b.form)

same_lem : {A : Type 0} (f : A → A → Bool) → ((a b : A) → T (f a b) → a ≡ b) → (a b : Result A Refusal) → T (same f a b) → a ≡ b
same_lem f known (Ok a) (Ok b) t = ap Ok (known a b t)
same_lem f known (Ok a) (Err r) t = absurd t
same_lem f known (Err r) (Ok a) t = absurd t
same_lem f known (Err r) (Err s) t = ap Err (same_number r s (eqb→eq (number_of r) (number_of s) t))

pub same_coded_lem : (a b : Result Code Refusal) → T (same_coded a b) → a ≡ b
same_coded_lem = same_lem (λ (a b : Code). eqb a.page b.page && eqb a.code b.code) both
  where
    both : (a b : Code) → T (eqb a.page b.page && eqb a.code b.code) → a ≡ b
    both a b t =
        let e : a.page ≡ b.page = eqb→eq a.page b.page (both_left (eqb a.page b.page) (eqb a.code b.code) t) in
        let f : a.code ≡ b.code = eqb→eq a.code b.code (both_right (eqb a.page b.page) (eqb a.code b.code) t) in
        ap (λ (n : ℕ). record { page = n; code = a.code }) e ∙ ap (λ (n : ℕ). record { page = b.page; code = n }) f

pub same_named_lem : (a b : Result Named Refusal) → T (same_named a b) → a ≡ b
same_named_lem = same_lem (λ (a b : Named). eqb a.operation b.operation && eqb a.form b.form) both
  where
    both : (a b : Named) → T (eqb a.operation b.operation && eqb a.form b.form) → a ≡ b
    both a b t =
        let e : a.operation ≡ b.operation = eqb→eq a.operation b.operation (both_left (eqb a.operation b.operation) (eqb a.form b.form) t) in
        let f : a.form ≡ b.form = eqb→eq a.form b.form (both_right (eqb a.operation b.operation) (eqb a.form b.form) t) in
        ap (λ (n : ℕ). record { operation = n; form = a.form }) e ∙ ap (λ (n : ℕ). record { operation = b.operation; form = n }) f

-- a code is its page and its number, and a name its operation and its form
pub coded_parts : (p q c d : ℕ) → coded p c ≡ coded q d → (p ≡ q) × (c ≡ d)
coded_parts p q c d e =
    let f : ◌≡◌ {A = Code} (record { page = p; code = c }) (record { page = q; code = d }) = cc in
    (ap (λ (a : Code). a.page) f, ap (λ (a : Code). a.code) f)

pub named_parts : (o p f g : ℕ) → named o f ≡ named p g → (o ≡ p) × (f ≡ g)
named_parts o p f g e =
    let d : ◌≡◌ {A = Named} (record { operation = o; form = f }) (record { operation = p; form = g }) = cc in
    (ap (λ (a : Named). a.operation) d, ap (λ (a : Named). a.form) d)
