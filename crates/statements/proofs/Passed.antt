-- 1 and 2 are told of an instruction's operand alone, before any value is evaluated: where it passed, the values that were evaluated are lawful, and
-- its build is refused 3 to 8, or accepted.
-- Assumes nothing.
use mathlib.Core.Path.{◌≡◌, refl}
use mathlib.Core.Bool.{Bool, true, false, not, ◌&&◌}
use mathlib.Core.List.{List}
use mathlib.Core.Logic.{◌⊎◌, inl, inr}
use Prim.Native.Nat.{ℕ, ◌%◌, ◌≤◌}
use lib.Dec.{eqb, leb}
use borrow.Author.Tests.{eq-eqb}
use Rattle.std.specs.Prelude.{Option, None, Some, Result, Ok, Err, IfOk, IfSome}
use Rattle.std.specs.Result.{result_err}
use Rattle.ground.specs.Choice.{pick}
use Rattle.ground.specs.declared.refusals.Refusal.{Refusal}
use Rattle.ground.specs.declared.refusals.Refusal.TheVariants.{ValueMissing, BranchTooFar, BadLabel, TooDeep}
use Rattle.ground.specs.Refusals.{number_of}
use Rattle.ground.proofs.Choices.{by_pick}
use Rattle.values.specs.declared.Value.{Value}
use Rattle.values.specs.declared.pages.Page.{Page}
use Rattle.values.specs.Widths.{valid_of}
use Rattle.expressions.specs.declared.finding.Found.{Found}
use Rattle.expressions.specs.Finding.{deepest, node_value}
use Rattle.expressions.specs.Answers.{narrow_of, value_of, pair_of, evaluations}
use Rattle.expressions.specs.Numbers.{Cells, Short}
use Rattle.expressions.proofs.Values.{Agree, values_agree}
use Rattle.expressions.proofs.Fits.{Answers, evaluated_valid}
use Rattle.instruction.specs.declared.Values.{Values}
use Rattle.instruction.specs.declared.Built.{Built}
use Rattle.instruction.specs.Records.{narrower, agreeing, lawful}
use Rattle.instruction.specs.Building.{no_values, fresh_of}
use Rattle.instruction.proofs.Refuses.{Late, fresh_late}
use Rattle.statements.specs.declared.Statement.TheVariants.{Instruction}
use Rattle.statements.specs.declared.Entry.{Entry}
use Rattle.statements.specs.Order.{place_of, earlier}
use Rattle.statements.specs.Listing.{none, statement_at, entry_at}
use Rattle.statements.specs.Asking.{given, asked_of}
use Rattle.statements.specs.Effects.{own_label, after, labelled, entry_refusal, record_of, built_of, made_of, instruction_effect, effect_at}
use Rattle.statements.proofs.Refuses.{asked_known}

-- ---- the values
-- 8 bits or 16
abbrev Width : ℕ → Type 0
Width w = (w ≡ 8) ⊎ (w ≡ 16)

value_width : (signed : Bool) (f : Found) → Width (value_of signed f).width
unfolding value_of
value_width signed f = by_pick (λ (v : Value). Width v.width) (narrow_of signed f.number && not f.wide) (inl refl) (inr refl)

-- two values that agree pass the instruction's test of a pair
pair_agreeing :
    (u s : Value) → Width u.width → Width s.width → Agree u s → agreeing (record { given = true; unsigned = u; signed = s }) ≡ true
unfolding agreeing narrower pick
pair_agreeing u s (inl a) (inl b) e = rw a (eq-eqb (u.number % 256) (s.number % 256) (rw (a, b) at e))
pair_agreeing u s (inl a) (inr b) e = rw a (eq-eqb (u.number % 256) (s.number % 256) (rw (a, b) at e))
pair_agreeing u s (inr a) (inl b) e = rw (a, b) (eq-eqb (u.number % 256) (s.number % 256) (rw (a, b) at e))
pair_agreeing u s (inr a) (inr b) e = rw (a, b) (eq-eqb (u.number % 65536) (s.number % 65536) (rw (a, b) at e))

-- ---- the refusal
-- 10, 11 or one of 3 to 8
abbrev pub AfterOperand : Refusal → Type 0
AfterOperand r = ((number_of ValueMissing ≤ number_of r) × (number_of r ≤ number_of BranchTooFar)) ⊎ (r ≡ BadLabel) ⊎ (r ≡ TooDeep)

-- no refusal, or one of these
abbrev pub After : Option Refusal → Type 0
After r = IfSome r AfterOperand

abbrev Passes : {A : Type 0} → Result A Refusal → Type 0
Passes a = After (result_err a)

of_values : {A : Type 0} (a : Result A Refusal) → Answers a → Passes a
of_values (Ok x) k = tt
of_values (Err r) (inl e) = inr (inl e)
of_values (Err r) (inr e) = inr (inr e)

own_after : (ill : Bool) → After (own_label ill)
unfolding own_label
own_after ill = by_pick After ill (inr (inl refl)) tt

after_passes : {A : Type 0} (o : Option Refusal) (a : Result A Refusal) → After o → Passes a → Passes (after o a)
after_passes None a p q = q
after_passes (Some why) a p q = p

labelled_passes : {A : Type 0} (a : Result A Refusal) (ill : Bool) → Passes a → Passes (labelled a ill)
unfolding labelled earlier
labelled_passes a ill p =
    after_passes (earlier (result_err a) (own_label ill)) a
    (by_pick After (leb (place_of (result_err a)) (place_of (own_label ill))) p (own_after ill)) p

late_passes : {A : Type 0} (a : Result A Refusal) → Late a → Passes a
late_passes (Ok x) l = tt
late_passes (Err r) l = inl l

labelled_lawful : (a : Result Values Refusal) (ill : Bool) → IfOk a (λ v. lawful v ≡ true) → IfOk (labelled a ill) (λ v. lawful v ≡ true)
unfolding labelled
labelled_lawful a ill h = go (earlier (result_err a) (own_label ill))
  where
    go : (o : Option Refusal) → IfOk (after o a) (λ v. lawful v ≡ true)
    go None = h
    go (Some why) = tt

made_after : (e : Entry) (m : Result Built Refusal) → Passes m → After (instruction_effect e m).refusal
made_after e (Ok b) p = tt
made_after e (Err why) p = p

module _ (ns ls : List ℕ) (nodes_fit : Cells Short ns) (labels_fit : Cells Short ls) where
  -- what was evaluated is lawful, and so is no value at all
  asked_lawful : (node here : ℕ) → Short here → IfOk (asked_of ns ls node here) (λ v. lawful v ≡ true)
  unfolding asked_of no_values evaluations lawful pick
  asked_lawful node here h =
      by_pick (λ (a : Result Values Refusal). IfOk a (λ v. lawful v ≡ true)) (eqb node none) refl
      (of_found (node_value deepest ns ls node here) (evaluated_valid ns ls nodes_fit labels_fit node here false h) (evaluated_valid ns ls nodes_fit labels_fit node here true h))
    where
      of_found :
          (f : Result Found Refusal) → IfOk f (λ x. valid_of (value_of false x) ≡ true) → IfOk f (λ x. valid_of (value_of true x) ≡ true) →
          IfOk (given (pair_of f)) (λ v. lawful v ≡ true)
      of_found (Ok f) u s = rw (u, s) (pair_agreeing _ _ (value_width false f) (value_width true f) (values_agree f))
      of_found (Err why) u s = tt

  module _ (e : Entry) (page : Page) (here : ℕ) (passed : entry_refusal e ≡ None) where
    lawful_late : (v : Values) → lawful v ≡ true → Late (built_of e (Ok v) page here)
    unfolding entry_refusal
    lawful_late v l = fresh_late (record_of e (Ok v) page) here passed l

    -- the build of an operand that passed, with its values evaluated: 3 to 8, or accepted
    pub built_late : (node : ℕ) → Short here → (v : Values) → asked_of ns ls node here ≡ Ok v → Late (built_of e (asked_of ns ls node here) page here)
    built_late node h v q = rw q (lawful_late v (rw q at (asked_lawful node here h)))

    -- and with values that may be refused
    built_passes : (a : Result Values Refusal) → IfOk a (λ v. lawful v ≡ true) → Passes a → Passes (built_of e a page here)
    built_passes (Ok v) l p = late_passes (built_of e (Ok v) page here) (lawful_late v l)
    built_passes (Err why) l p = p

    instruction_after : (node : ℕ) (ill : Bool) → Short here → Passes (made_of e (asked_of ns ls node here) ill page here)
    unfolding made_of
    instruction_after node ill h =
        let a = asked_of ns ls node here in
        rw passed
        (built_passes (labelled a ill) (labelled_lawful a ill (asked_lawful node here h)) (labelled_passes a ill (of_values a (asked_known ns ls node here))))

  -- so the statement is refused neither 1 nor 2, where the tables hold numbers of 16 bits
  pub operand_passed :
      (list items : List ℕ) (i node here : ℕ) (page : Page) (ill : Bool) → Short here →
      statement_at list i ≡ Instruction node → entry_refusal (entry_at list i) ≡ None →
      After (effect_at list items ns ls i here page ill).refusal
  unfolding effect_at
  operand_passed list items i node here page ill h s z =
      let e = entry_at list i in
      rw s (made_after e (made_of e (asked_of ns ls node here) ill page here) (instruction_after e page here z node ill h))
