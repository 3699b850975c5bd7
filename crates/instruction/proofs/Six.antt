-- Refusal 6 of an address is that of a wide forced value under known page 0, and of nothing else.
-- Assumes nothing.
use mathlib.Core.Path.{◌≡◌, sym, ap, subst}
use mathlib.Core.Bool.{Bool, true, ◌&&◌, false≢true, and-false}
use mathlib.Core.Logic.{◌⊎◌, inl, inr}
use Prim.Native.Nat.{ℕ, ◌/◌}
use native.Mathlib.Omega.{arith}
use lib.Dec.{eqb}
use borrow.Author.Tests.{eqb-true, lt-ltb}
use Rattle.std.specs.Prelude.{Result, Ok, Err}
use Rattle.ground.specs.Choice.{pick}
use Rattle.ground.specs.declared.refusals.Refusal.{Refusal}
use Rattle.ground.specs.declared.refusals.Refusal.TheVariants.{BadWidth}
use Rattle.ground.specs.Refusals.{number_of}
use Rattle.ground.proofs.Tests.{both_first, both_second}
use Rattle.values.specs.declared.pages.Page.{Page}
use Rattle.values.specs.declared.pages.Page.TheVariants.{Unknown, Known}
use Rattle.values.specs.Pages.{reaches, is_zero}
use Rattle.values.proofs.Reached.{zero_reaches}
use Rattle.rows.specs.Forms.{direct, extended}
use Rattle.instruction.specs.declared.Values.{Values}
use Rattle.instruction.specs.declared.Instruction.{Instruction}
use Rattle.instruction.specs.declared.Chosen.{Chosen}
use Rattle.instruction.specs.Names.{mode_direct}
use Rattle.instruction.specs.Forms.{becomes_direct}
use Rattle.instruction.specs.Choosing.{forced_wide, stays_direct, directly_of, address_of, choose_of}
use Rattle.instruction.specs.Building.{early_of, tried_of, refused_with, build_of, told}
use Rattle.instruction.specs.Sequences.{Present, built_with, WideForced, SixUnderZero}
use Rattle.instruction.proofs.Choice.{address_choice}
use Rattle.instruction.proofs.Results.{back}
use Rattle.instruction.proofs.Seven.{late_choice}

known_zero : (page : Page) → is_zero page ≡ true → page ≡ Known 0
known_zero Unknown e = absurd (false≢true e)
known_zero (Known high) e = ap Known (eqb-true high 0 e)

-- what is Direct or Extended is chosen as an address
chosen_address :
    (i : Instruction) (v : Values) (page : Page) (address : ℕ) →
    (i.form ≡ direct) ⊎ (i.form ≡ extended) →
    choose_of i v page address ≡ address_of i v page
unfolding choose_of pick
chosen_address i v page address (inl d) = rw d
chosen_address i v page address (inr d) = rw d

six_there : (i : Instruction) (p : Present) → (i.form ≡ direct) ⊎ (i.form ≡ extended) → built_with i p ≡ Err (refused_with i BadWidth) → WideForced i p
unfolding build_of forced_wide
six_there i p f e = six (ap told chosen.1)
  where
    v : Values
    v = p.values

    n : ℕ
    n = v.unsigned.number

    chosen : (early_of i v ≡ Ok tt) × (choose_of i v p.page p.address ≡ Err BadWidth)
    chosen = late_choice i v p.page p.address BadWidth (omega arith) (back i (tried_of i v p.page p.address) e)

    Q : Result Chosen Refusal → Type 0
    Q c = told c ≡ number_of BadWidth → WideForced i p

    wide : Bool
    wide = eqb v.unsigned.width 16

    zero : Bool
    zero = is_zero p.page

    six : Q (choose_of i v p.page p.address)
    six =
        subst Q (sym (chosen_address i v p.page p.address f))
        (address_choice i v p.page Q (λ _ _ _ z. absurd (omega arith))
        (λ m d b w _.
        let both = both_second i.operand.forced (wide && zero) w in
        let known = known_zero p.page (both_second wide zero both) in
        record {
          passed = chosen.0;
          mode = eqb-true i.operand.mode mode_direct m;
          form = eqb-true i.form direct d;
          forced = both_first i.operand.forced (wide && zero) w;
          wide = eqb-true v.unsigned.width 16 (both_first wide zero both);
          page = known;
          within = let h = eqb-true 0 (n / 256) (subst (λ (q : Page). reaches q n ≡ true) known b) in omega arith;
        })
        (λ _ _ _ _ z. absurd (omega arith)))

six_back : (i : Instruction) (p : Present) → WideForced i p → built_with i p ≡ Err (refused_with i BadWidth)
unfolding build_of tried_of choose_of address_of directly_of becomes_direct stays_direct forced_wide pick
six_back i p x =
    rw (x.passed, x.page, zero_reaches p.values.unsigned.number, lt-ltb p.values.unsigned.number 256 x.within, x.mode, x.form, x.forced, x.wide, and-false p.values.given)

pub six_under_zero : SixUnderZero
six_under_zero i p f = (six_there i p f, six_back i p)
