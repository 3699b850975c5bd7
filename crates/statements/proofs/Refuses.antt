-- Which refusals a statement meets: those that 01's order of a build has, and 18 at a running address, whatever the tables hold.
-- Assumes nothing.
use mathlib.Core.Path.{◌≡◌, refl}
use mathlib.Core.Bool.{Bool}
use mathlib.Core.List.{List}
use mathlib.Core.Logic.{◌⊎◌, inl, inr}
use Prim.Native.Nat.{ℕ, ◌+◌, ◌≤◌}
use native.Mathlib.Omega.{arith}
use lib.Dec.{eqb, ltb, leb}
use Rattle.std.specs.Prelude.{Option, None, Some, Result, Ok, Err, IfErr, IfSome}
use Rattle.std.specs.Option.{option_or}
use Rattle.std.specs.Result.{result_err}
use Rattle.ground.specs.Choice.{pick}
use Rattle.ground.specs.declared.refusals.Refusal.{Refusal}
use Rattle.ground.specs.declared.refusals.Refusal.TheVariants as refusal
use Rattle.ground.specs.Refusals.{number_of}
use Rattle.ground.proofs.Choices.{by_pick}
use Rattle.values.specs.declared.Value.{Value}
use Rattle.values.specs.declared.pages.Page.{Page}
use Rattle.expressions.specs.declared.finding.Found.{Found}
use Rattle.expressions.specs.Finding.{deepest, node_value}
use Rattle.expressions.specs.Answers.{pair_of, evaluations}
use Rattle.expressions.proofs.Fits.{Answers, node_known}
use Rattle.instruction.specs.declared.Values.{Values}
use Rattle.instruction.specs.declared.Built.{Built}
use Rattle.instruction.specs.Building.{operand_refusal, fresh_of}
use Rattle.instruction.proofs.Refuses.{operand_small, fresh_small}
use Rattle.statements.specs.declared.Statement.{Statement}
use Rattle.statements.specs.declared.Statement.TheVariants.{Label, Instruction, Rmb, Fcb, Fdb, Fcc, Org, Setdp, Unknown}
use Rattle.statements.specs.declared.Entry.{Entry}
use Rattle.statements.specs.declared.Datum.{Datum}
use Rattle.statements.specs.declared.Datum.TheVariants.{Byte, Word, Character}
use Rattle.statements.specs.declared.Effect.{Effect}
use Rattle.statements.specs.Order.{earlier}
use Rattle.statements.specs.Listing.{none, statement_at, entry_at}
use Rattle.statements.specs.Asking.{given, asked_of, wanted_of, answers_from, refusals_in}
use Rattle.statements.specs.Effects.{own_label, after, labelled, entry_refusal, record_of, built_of, made_of, instruction_effect, reserved_effect, origin_effect, setdp_effect, data_refusal, effect_of, effect_at, counted_of}
use Rattle.statements.proofs.Firsts.{Ordered, earlier_ordered, earliest_ordered}
use Rattle.statements.proofs.Answered.{known_ordered, wanted_ordered, answers_ordered}
use Rattle.statements.proofs.Told.{label_ordered}

-- an answer is refused, if at all, by what the order has
abbrev pub Fine : {A : Type 0} → Result A Refusal → Type 0
Fine a = Ordered (result_err a)

after_fine : {A : Type 0} (o : Option Refusal) (a : Result A Refusal) → Ordered o → Fine a → Fine (after o a)
after_fine None a p q = q
after_fine (Some why) a p q = p

labelled_fine : {A : Type 0} (a : Result A Refusal) (ill : Bool) → Fine a → Fine (labelled a ill)
unfolding labelled
labelled_fine a ill p =
    after_fine (earlier (result_err a) (own_label ill)) a (earlier_ordered (result_err a) (own_label ill) p (label_ordered ill)) p

-- ---- an instruction
-- the order has what a build tells, 1 to 8
small_ordered : (r : Refusal) → number_of r ≤ 8 → Ordered (Some r)
unfolding pick
small_ordered refusal.Unknown h = omega arith
small_ordered refusal.NoSuchMode h = omega arith
small_ordered refusal.ValueMissing h = omega arith
small_ordered refusal.BadRegister h = omega arith
small_ordered refusal.SingleStepIndirect h = omega arith
small_ordered refusal.BadWidth h = omega arith
small_ordered refusal.DirectNotAllowed h = omega arith
small_ordered refusal.BranchTooFar h = omega arith
small_ordered refusal.NoRoom h = omega arith
small_ordered refusal.BadLabel h = omega arith
small_ordered refusal.TooDeep h = omega arith
small_ordered refusal.SegmentRepeated h = omega arith
small_ordered refusal.NotSettled h = omega arith
small_ordered refusal.Undefined h = omega arith
small_ordered refusal.CutShort h = omega arith
small_ordered refusal.BrokenText h = omega arith
small_ordered refusal.OverLimit h = omega arith
small_ordered refusal.Beyond h = omega arith

entry_ordered : (e : Entry) → Ordered (entry_refusal e)
unfolding entry_refusal
entry_ordered e = go (operand_refusal e.operand) (operand_small e.operand)
  where
    go : (o : Option Refusal) → IfSome o (λ n. number_of n ≤ 2) → Ordered o
    go None h = tt
    go (Some r) h = small_ordered r (omega arith)

pub asked_known : (ns ls : List ℕ) (node here : ℕ) → Answers (asked_of ns ls node here)
unfolding asked_of evaluations
asked_known ns ls node here =
    by_pick (λ (a : Result Values Refusal). Answers a) (eqb node none) tt (of_found (node_value deepest ns ls node here) (node_known ns ls deepest node here))
  where
    of_found : (f : Result Found Refusal) → Answers f → Answers (given (pair_of f))
    of_found (Ok f) k = tt
    of_found (Err why) k = k

asked_fine : (a : Result Values Refusal) → Answers a → Fine a
asked_fine (Ok v) k = tt
asked_fine (Err why) k = known_ordered why k

built_fine : (e : Entry) (a : Result Values Refusal) (page : Page) (here : ℕ) → Fine a → Fine (built_of e a page here)
built_fine e (Ok v) page here h = go (fresh_of (record_of e (Ok v) page) here) (fresh_small (record_of e (Ok v) page) here)
  where
    go : (b : Result Built Refusal) → IfErr b (λ n. number_of n ≤ 8) → Fine b
    go (Ok b) k = tt
    go (Err r) k = small_ordered r k
built_fine e (Err why) page here h = h

made_fine : (e : Entry) (a : Result Values Refusal) (ill : Bool) (page : Page) (here : ℕ) → Fine a → Fine (made_of e a ill page here)
unfolding made_of
made_fine e a ill page here h =
    after_fine (entry_refusal e) (built_of e (labelled a ill) page here) (entry_ordered e) (built_fine e (labelled a ill) page here (labelled_fine a ill h))

-- ---- every statement
made_ordered : (e : Entry) (m : Result Built Refusal) → Fine m → Ordered (instruction_effect e m).refusal
made_ordered e (Ok b) h = tt
made_ordered e (Err why) h = h

reserved_ordered : (a : Result Value Refusal) → Fine a → Ordered (reserved_effect a).refusal
reserved_ordered (Ok v) h = tt
reserved_ordered (Err why) h = h

origin_ordered : (a : Result Value Refusal) → Fine a → Ordered (origin_effect a).refusal
origin_ordered (Ok v) h = tt
origin_ordered (Err why) h = h

data_ordered :
    (kind : Datum) (items ns ls : List ℕ) (here first n : ℕ) (ill : Bool) → Ordered (data_refusal (answers_from kind items ns ls here first n) ill)
unfolding data_refusal
data_ordered kind items ns ls here first n ill =
    let rs = refusals_in (answers_from kind items ns ls here first n) in
    earlier_ordered (own_label ill) _ (label_ordered ill) (earliest_ordered rs (answers_ordered kind items ns ls here first n))

unknown_ordered : Ordered (Some refusal.Unknown)
unfolding pick
unknown_ordered = omega arith

bad_label_ordered : Ordered (Some refusal.BadLabel)
unfolding pick
bad_label_ordered = omega arith

setdp_ordered : (number : ℕ) (ill : Bool) → Ordered (setdp_effect number ill).refusal
unfolding setdp_effect
setdp_ordered number ill =
    let P : Effect → Type 0 = λ x. Ordered x.refusal in
    by_pick P (ltb number 256) (by_pick P ill bad_label_ordered tt) unknown_ordered

effect_ordered :
    (s : Statement) (e : Entry) (items ns ls : List ℕ) (here : ℕ) (page : Page) (ill : Bool) → Ordered (effect_of s e items ns ls here page ill).refusal
effect_ordered Label e items ns ls here page ill = label_ordered ill
effect_ordered (Instruction node) e items ns ls here page ill =
    let a = asked_of ns ls node here in
    made_ordered e (made_of e a ill page here) (made_fine e a ill page here (asked_fine a (asked_known ns ls node here)))
effect_ordered (Rmb node) e items ns ls here page ill =
    let a = wanted_of ns ls node here in
    reserved_ordered (labelled a ill) (labelled_fine a ill (wanted_ordered ns ls node here))
effect_ordered (Fcb first n) e items ns ls here page ill = data_ordered Byte items ns ls here first n ill
effect_ordered (Fdb first n) e items ns ls here page ill = data_ordered Word items ns ls here first n ill
effect_ordered (Fcc first n) e items ns ls here page ill = data_ordered Character items ns ls here first n ill
effect_ordered (Org node) e items ns ls here page ill =
    let a = wanted_of ns ls node 0 in
    origin_ordered (labelled a ill) (labelled_fine a ill (wanted_ordered ns ls node 0))
effect_ordered (Setdp number) e items ns ls here page ill = setdp_ordered number ill
effect_ordered Unknown e items ns ls here page ill = unknown_ordered

-- ---- at a running address
-- no refusal, one that the order has, or 18
abbrev pub Running : Option Refusal → Type 0
Running r = Ordered r ⊎ (r ≡ Some refusal.Beyond)

pub counted_running :
    (at : ℕ) (list items ns ls : List ℕ) (i here : ℕ) (page : Page) (ill : Bool) →
    Running (counted_of at (effect_at list items ns ls i here page ill)).refusal
unfolding counted_of effect_at
counted_running at list items ns ls i here page ill =
    let e = effect_of (statement_at list i) (entry_at list i) items ns ls here page ill in
    let own = effect_ordered (statement_at list i) (entry_at list i) items ns ls here page ill in
    by_pick (λ (x : Effect). Running x.refusal) (leb (at + e.size) 65536) (inl own) (beyond e.refusal own)
  where
    beyond : (o : Option Refusal) → Ordered o → Running (option_or o (Some refusal.Beyond))
    beyond None h = inr refl
    beyond (Some why) h = inl h
