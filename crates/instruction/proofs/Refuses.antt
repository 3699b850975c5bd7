-- Which refusals a build has: making tells 1 and 2, and what was made is refused 3 to 8. So an operand that passed alone is never refused 1 or 2
-- once its values are lawful.
-- Assumes nothing.
use mathlib.Core.Path.{◌≡◌, refl, ◌∙◌}
use mathlib.Core.Bool.{true, false, not, ◌&&◌}
use Prim.Native.Nat.{ℕ, ◌≤◌}
use native.Mathlib.Omega.{arith}
use lib.Dec.{ltb}
use Rattle.std.specs.Prelude.{Result, Ok, Err, Option, None, IfOk, IfErr, IfSome, ⊤}
use Rattle.ground.specs.Choice.{pick}
use Rattle.ground.specs.declared.refusals.Refusal.{Refusal}
use Rattle.ground.specs.declared.refusals.Refusal.TheVariants.{NoSuchMode, ValueMissing, BranchTooFar}
use Rattle.ground.specs.Refusals.{number_of}
use Rattle.ground.proofs.Choices.{by_pick}
use Rattle.ground.proofs.Tests.{both_first}
use Rattle.values.specs.declared.pages.Page.{Page}
use Rattle.values.specs.declared.pages.Page.TheVariants.{Unknown}
use Rattle.instruction.specs.declared.Operand.{Operand}
use Rattle.instruction.specs.declared.Values.{Values}
use Rattle.instruction.specs.declared.Record.{Record}
use Rattle.instruction.specs.declared.Instruction.{Instruction}
use Rattle.instruction.specs.declared.Chosen.{Chosen}
use Rattle.instruction.specs.declared.Built.{Built}
use Rattle.instruction.specs.Records.{recognised, lawful, sound}
use Rattle.instruction.specs.Forms.{form_of, lacks, needs_value}
use Rattle.instruction.specs.Choosing.{choose_of}
use Rattle.instruction.specs.Building.{no_values, made_as, make_of, operand_refusal, early_of, finished_of, after, tried_of, fresh_of}
use Rattle.instruction.proofs.Before.{refusal_in, make_refusal}
use Rattle.instruction.proofs.Ready.{lacking_none, made_ready}
use Rattle.instruction.proofs.Choice.{not_strange, choice, address_choice}

-- no refusal, or one of 3 to 8
abbrev pub Late : {A : Type 0} → Result A Refusal → Type 0
Late r = IfErr r (λ n. (number_of ValueMissing ≤ number_of n) × (number_of n ≤ number_of BranchTooFar))

-- ---- a build of what is sound and whose row has its form
module _ (i : Instruction) (v : Values) (fine : sound i v ≡ true) (has : lacks i.operand i.form ≡ false) where
  choose_late : (page : Page) (address : ℕ) → Late (choose_of i v page address)
  unfolding sound
  choose_late page address =
      let P : Result Chosen Refusal → Type 0 = Late in
      choice i v page address P (λ n t. omega arith) (λ _ _ _. tt) (λ _ _ _. tt)
      (λ _. address_choice i v page P (λ _ _ _. tt) (λ _ _ _ _. omega arith) (λ _ _ _ _. omega arith))
      (not_strange i.operand (both_first (recognised i.operand) (ltb i.form 7 && lawful v) fine)) (lacking_none i.operand i.form has)

  early_late : Late (early_of i v)
  unfolding early_of pick
  early_late = rw (fine, has) (by_pick (λ (n : Result ⊤ Refusal). Late n) (needs_value i.operand.mode i.form && not v.given) (omega arith) tt)

  build_late : (page : Page) (address : ℕ) → Late (tried_of i v page address)
  unfolding tried_of
  build_late page address = go (early_of i v) early_late (choose_of i v page address) (choose_late page address)
    where
      go : (n : Result ⊤ Refusal) → Late n → (c : Result Chosen Refusal) → Late c → Late (after n (finished_of i c address))
      go (Ok passed) l (Ok c) k = tt
      go (Ok passed) l (Err n) k = k
      go (Err n) l c k = l

-- ---- a fresh build
-- it is refused as making is, or what was made is built
record Fresh (r : Record) (address : ℕ) (m : Result Instruction Refusal) : Type 0 where
  unmade : IfErr m (λ n. fresh_of r address ≡ Err n)
  built : IfOk m (λ _. Late (fresh_of r address))

fresh_tells : (r : Record) (address : ℕ) (m : Result Instruction Refusal) → make_of r ≡ m → Fresh r address m
unfolding fresh_of
fresh_tells r address (Ok i) e =
    let ready = made_ready r i e in
    record { unmade = tt; built = rw e (build_late i r.values ready.0 ready.1 r.page address) }
fresh_tells r address (Err n) e = record { unmade = rw e; built = tt }

make_small : (r : Record) → IfErr (make_of r) (λ n. number_of n ≤ number_of NoSuchMode)
unfolding make_of made_as
make_small r =
    let P : Result Instruction Refusal → Type 0 = λ m. IfErr m (λ n. number_of n ≤ number_of NoSuchMode) in
    by_pick P (recognised r.operand && lawful r.values)
    (by_pick P (lacks r.operand (form_of r.operand r.values r.page)) (omega arith) tt)
    (omega arith)

-- the operand alone is refused 1 or 2, or passes
pub operand_small : (o : Operand) → IfSome (operand_refusal o) (λ n. number_of n ≤ number_of NoSuchMode)
unfolding operand_refusal
operand_small o =
    let P : Option Refusal → Type 0 = λ m. IfSome m (λ n. number_of n ≤ number_of NoSuchMode) in
    by_pick P (recognised o) (by_pick P (lacks o (form_of o no_values Unknown)) (omega arith) tt) (omega arith)

-- a fresh build is refused 1 to 8, or accepted, whatever its record holds
pub fresh_small : (r : Record) (address : ℕ) → IfErr (fresh_of r address) (λ n. number_of n ≤ number_of BranchTooFar)
fresh_small r address = go (make_of r) (fresh_tells r address (make_of r) refl) (make_small r)
  where
    P : Result Built Refusal → Type 0
    P b = IfErr b (λ n. number_of n ≤ number_of BranchTooFar)

    late : (b : Result Built Refusal) → Late b → P b
    late (Ok b) l = tt
    late (Err n) l = l.1

    go : (m : Result Instruction Refusal) → Fresh r address m → IfErr m (λ n. number_of n ≤ number_of NoSuchMode) → P (fresh_of r address)
    go (Ok i) f s = late (fresh_of r address) f.built
    go (Err n) f s = rw f.unmade (omega arith)

-- where the operand passed alone and the values are lawful, it is refused neither 1 nor 2
pub fresh_late : (r : Record) (address : ℕ) → operand_refusal r.operand ≡ None → lawful r.values ≡ true → Late (fresh_of r address)
fresh_late r address z l = go (make_of r) (fresh_tells r address (make_of r) refl) (make_refusal r l ∙ z)
  where
    go : (m : Result Instruction Refusal) → Fresh r address m → refusal_in m ≡ None → Late (fresh_of r address)
    go (Ok i) f e = f.built
    go (Err n) f e = absurd (cc)
