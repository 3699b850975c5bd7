-- Refusal 7 is parser mode Direct's alone: Direct, not on trial, under a page that does not reach the number, once 1 to 3 passed; and there it comes.
-- Assumes nothing.
use mathlib.Core.Path.{◌≡◌, refl, ap}
use mathlib.Core.Bool.{false, not, ◌&&◌}
use Prim.Native.Nat.{ℕ, ◌<◌, ◌≤◌}
use native.Mathlib.Omega.{arith}
use borrow.Author.Tests.{eqb-true}
use Rattle.std.specs.Prelude.{Result, Ok, Err, IfErr, ⊤}
use Rattle.ground.specs.Choice.{pick}
use Rattle.ground.specs.declared.refusals.Refusal.{Refusal}
use Rattle.ground.specs.declared.refusals.Refusal.TheVariants.{ValueMissing, DirectNotAllowed}
use Rattle.ground.specs.Refusals.{number_of}
use Rattle.ground.proofs.Choices.{by_pick}
use Rattle.values.specs.declared.pages.Page.{Page}
use Rattle.values.specs.Pages.{reaches}
use Rattle.rows.specs.Forms.{direct}
use Rattle.instruction.specs.declared.Operand.{Operand}
use Rattle.instruction.specs.declared.Values.{Values}
use Rattle.instruction.specs.declared.Instruction.{Instruction}
use Rattle.instruction.specs.declared.Chosen.{Chosen}
use Rattle.instruction.specs.Names.{mode_direct}
use Rattle.instruction.specs.Records.{sound}
use Rattle.instruction.specs.Forms.{becomes_direct, lacks, needs_value}
use Rattle.instruction.specs.Choosing.{leaves_direct, stays_direct, directly_of, address_of, choose_of}
use Rattle.instruction.specs.Building.{early_of, finished_of, after, tried_of, refused_with, build_of, told}
use Rattle.instruction.specs.Sequences.{Present, built_with, OutOfReach, SevenDirect}
use Rattle.instruction.proofs.Tests.{not_third}
use Rattle.instruction.proofs.Fits.{Early, early_leaves}
use Rattle.instruction.proofs.Results.{of_ok, back}
use Rattle.instruction.proofs.Choice.{not_strange, choice, address_choice}

-- 1 to 3 come first
pub early_small : (i : Instruction) (v : Values) → IfErr (early_of i v) (λ n. number_of n ≤ number_of ValueMissing)
unfolding early_of
early_small i v =
    let P : Result ⊤ Refusal → Type 0 = λ m. IfErr m (λ n. number_of n ≤ number_of ValueMissing) in
    by_pick P (sound i v)
    (by_pick P (lacks i.operand i.form) (omega arith)
    (by_pick P (needs_value i.operand.mode i.form && not v.given) (omega arith) tt))
    (omega arith)

-- a refusal past 3 is that of the choice
pub late_choice :
    (i : Instruction) (v : Values) (page : Page) (address : ℕ) (m : Refusal) → number_of ValueMissing < number_of m → tried_of i v page address ≡ Err m →
    (early_of i v ≡ Ok tt) × (choose_of i v page address ≡ Err m)
unfolding tried_of
late_choice i v page address m late = go (early_of i v) (early_small i v) (choose_of i v page address)
  where
    go :
        (n : Result ⊤ Refusal) → IfErr n (λ k. number_of k ≤ number_of ValueMissing) →
        (c : Result Chosen Refusal) → after n (finished_of i c address) ≡ Err m → (n ≡ Ok tt) × (c ≡ Err m)
    go (Ok passed) s (Ok c) e = absurd (cc)
    go (Ok passed) s (Err k) e = (refl, cc)
    go (Err k) s c e = let same : k ≡ m = cc in absurd (omega (arith, ap number_of same))

seven_there : (i : Instruction) (p : Present) → built_with i p ≡ Err (refused_with i DirectNotAllowed) → OutOfReach i p
unfolding build_of
seven_there i p e = seven (ap told chosen.1)
  where
    v : Values
    v = p.values

    chosen : (early_of i v ≡ Ok tt) × (choose_of i v p.page p.address ≡ Err DirectNotAllowed)
    chosen = late_choice i v p.page p.address DirectNotAllowed (omega arith) (back i (tried_of i v p.page p.address) e)

    left : Early i v
    left = of_ok (λ (_ : ⊤). Early i v) (early_leaves i v) chosen.0

    Q : Result Chosen Refusal → Type 0
    Q c = told c ≡ number_of DirectNotAllowed → OutOfReach i p

    seven : Q (choose_of i v p.page p.address)
    seven =
        choice i v p.page p.address Q (λ n t z. absurd (t.1.1 z)) (λ _ _ _ z. absurd (omega arith)) (λ _ _ _ z. absurd (omega arith))
        (λ _. address_choice i v p.page Q (λ _ _ _ z. absurd (omega arith)) (λ _ _ _ _ z. absurd (omega arith))
        (λ m f b u _. record {
          passed = chosen.0;
          mode = eqb-true i.operand.mode mode_direct m;
          form = eqb-true i.form direct f;
          unmarked = u;
          beyond = b;
        }))
        (not_strange i.operand left.known) left.small

-- what Direct does not reach does not become Direct
beyond_stays : (o : Operand) (v : Values) (page : Page) → reaches page v.unsigned.number ≡ false → becomes_direct o v page ≡ false
unfolding becomes_direct
beyond_stays o v page b = rw b (not_third v.given (not o.forced))

seven_back : (i : Instruction) (p : Present) → OutOfReach i p → built_with i p ≡ Err (refused_with i DirectNotAllowed)
unfolding build_of tried_of choose_of address_of directly_of stays_direct leaves_direct pick
seven_back i p x = rw (x.passed, beyond_stays i.operand p.values p.page x.beyond, x.beyond, x.unmarked, x.mode, x.form)

pub seven_direct : SevenDirect
seven_direct i p = (seven_there i p, seven_back i p)
