-- What an accepted effect tells: of an instruction that its fresh build was accepted, of FCB, FDB and FCC that no item is refused.
-- Assumes nothing.
use mathlib.Core.Path.{◌≡◌, refl}
use mathlib.Core.Bool.{Bool, true, false}
use mathlib.Core.List.{List, ◌∷◌}
use mathlib.Core.Logic.{◌⊎◌}
use Prim.Native.Nat.{ℕ, ◌≤◌}
use native.Mathlib.Omega.{arith}
use Rattle.std.specs.Prelude.{Option, None, Some, Result, Ok, Err}
use Rattle.std.specs.Result.{result_err}
use Rattle.ground.specs.declared.refusals.Refusal.{Refusal}
use Rattle.ground.specs.Choice.{pick}
use Rattle.ground.specs.declared.refusals.Refusal.{Refusal}
use Rattle.values.specs.declared.Value.{Value}
use Rattle.values.specs.declared.pages.Page.{Page}
use Rattle.records.specs.Fine.{Each}
use Rattle.instruction.specs.declared.Values.{Values}
use Rattle.instruction.specs.declared.Built.{Built}
use Rattle.instruction.specs.Building.{fresh_of, told, size_told, dirties_told}
use Rattle.statements.specs.declared.Statement.TheVariants.{Instruction}
use Rattle.statements.specs.declared.Entry.{Entry}
use Rattle.statements.specs.declared.Datum.{Datum}
use Rattle.statements.specs.declared.Turn.TheVariants.{Keeps, Forgets}
use Rattle.statements.specs.declared.Effect.{Effect}
use Rattle.statements.specs.Order.{place_of, earlier}
use Rattle.statements.specs.Asking.{asked_of, answers_from, refusals_in}
use Rattle.statements.specs.Effects.{own_label, after, labelled, entry_refusal, record_of, built_of, made_of, instruction_effect, data_refusal, effect_of}
use Rattle.statements.proofs.Firsts.{Among, first_of_all, one_of_them, Ordered, neither, none_of_them}

-- ---- what is accepted
-- has nothing before it that refuses it
pub after_ok : {A : Type 0} (o : Option Refusal) (r : Result A Refusal) {x : A} → after o r ≡ Ok x → (o ≡ None) × (r ≡ Ok x)
after_ok None r e = (refl, e)
after_ok (Some why) r e = absurd (cc)

pub own_well : (ill : Bool) → own_label ill ≡ None → ill ≡ false
unfolding own_label pick
own_well true e = absurd (cc)
own_well false e = refl

-- is an answer whose statement has its own label
pub labelled_ok : {A : Type 0} (a : Result A Refusal) (ill : Bool) {x : A} → labelled a ill ≡ Ok x → (a ≡ Ok x) × (ill ≡ false)
unfolding labelled
labelled_ok a ill e =
    let both = after_ok (earlier (result_err a) (own_label ill)) a e in
    (both.1, own_well ill (neither (result_err a) (own_label ill) both.0).1)

-- ---- an instruction
-- "1, 2, 11, 10, 3, ..": each stage where the ones before it refuse nothing
module _ (e : Entry) (a : Result Values Refusal) (ill : Bool) (page : Page) (here : ℕ) where
  pub operand_first : {why : Refusal} → entry_refusal e ≡ Some why → made_of e a ill page here ≡ Err why
  unfolding made_of
  operand_first h = rw h

  pub values_then_lem :
      {why : Refusal} → entry_refusal e ≡ None → earlier (result_err a) (own_label ill) ≡ Some why → made_of e a ill page here ≡ Err why
  unfolding made_of labelled
  values_then_lem z h = rw (z, h)

  pub build_last : entry_refusal e ≡ None → earlier (result_err a) (own_label ill) ≡ None → made_of e a ill page here ≡ built_of e a page here
  unfolding made_of labelled
  build_last z h = rw (z, h)

  -- accepted, nothing refused it
  pub made_built : {b : Built} → made_of e a ill page here ≡ Ok b → (built_of e a page here ≡ Ok b) × (ill ≡ false)
  unfolding made_of
  made_built {b} q = go (labelled a ill) refl (after_ok (entry_refusal e) (built_of e (labelled a ill) page here) q).1
    where
      go : (l : Result Values Refusal) → labelled a ill ≡ l → built_of e l page here ≡ Ok b → (built_of e a page here ≡ Ok b) × (ill ≡ false)
      go (Ok v) is h = let own = labelled_ok a ill is in (rw own.0 h, own.1)
      go (Err why) is h = absurd (cc)

-- and the build is the fresh one of its record
pub built_fresh :
    (e : Entry) (a : Result Values Refusal) (page : Page) (here : ℕ) {b : Built} → built_of e a page here ≡ Ok b →
    fresh_of (record_of e a page) here ≡ Ok b
built_fresh e (Ok v) page here q = q
built_fresh e (Err why) page here q = absurd (cc)

-- what an accepted instruction's effect says is what its fresh build says
pub record Fresh (b : Result Built Refusal) (e : Effect) : Type 0 where
  pub accepted : told b ≡ 0
  pub counted : e.size ≡ size_told b
  pub turned : e.turn ≡ pick (dirties_told b) Forgets Keeps

-- an accepted instruction was made
pub effect_made : (e : Entry) (m : Result Built Refusal) → (instruction_effect e m).refusal ≡ None → (b : Built) × (m ≡ Ok b)
effect_made e (Ok b) z = (b, refl)
effect_made e (Err why) z = absurd (cc)

pub instruction_fresh :
    (node : ℕ) (e : Entry) (items ns ls : List ℕ) (here : ℕ) (page : Page) (ill : Bool) →
    (effect_of (Instruction node) e items ns ls here page ill).refusal ≡ None →
    Fresh (fresh_of (record_of e (asked_of ns ls node here) page) here) (effect_of (Instruction node) e items ns ls here page ill)
instruction_fresh node e items ns ls here page ill z =
    let a = asked_of ns ls node here in
    let made = effect_made e (made_of e a ill page here) z in
    let fresh = built_fresh e a page here (made_built e a ill page here made.1).0 in
    rw (made.1, fresh) (record { accepted = refl; counted = refl; turned = refl })

-- ---- FCB, FDB, FCC
pub label_ordered : (ill : Bool) → Ordered (own_label ill)
unfolding own_label pick
label_ordered true = omega arith
label_ordered false = tt

-- of the label's refusal and those of all items, none stands before the one that is given
pub data_first :
    (answers : List (Result Value Refusal)) (ill : Bool) (r : Option Refusal) → Among r (own_label ill ∷ refusals_in answers) → place_of (data_refusal answers ill) ≤ place_of r
unfolding data_refusal
data_first answers ill r m = first_of_all (own_label ill ∷ refusals_in answers) r m

-- and it is one of them, or none
pub data_one : (answers : List (Result Value Refusal)) (ill : Bool) → (data_refusal answers ill ≡ None) ⊎ Among (data_refusal answers ill) (own_label ill ∷ refusals_in answers)
unfolding data_refusal
data_one answers ill = one_of_them (own_label ill ∷ refusals_in answers)

pub data_none :
    (kind : Datum) (items ns ls : List ℕ) (here first n : ℕ) (ill : Bool) →
    data_refusal (answers_from kind items ns ls here first n) ill ≡ None →
    Each (λ (r : Option Refusal). r ≡ None) (refusals_in (answers_from kind items ns ls here first n))
unfolding data_refusal
data_none kind items ns ls here first n ill e =
    let rs = refusals_in (answers_from kind items ns ls here first n) in
    none_of_them rs (neither (own_label ill) _ e).1
