-- Which refusals a pass has, and so when 13 is answered: a pass refuses what 01's order of a build has, or 18, and so never 13. 13 is the answer
-- exactly where 64 passes were made and each of them changed something.
-- Assumes nothing.
use mathlib.Core.Path.{◌≡◌, ap, ◌∙◌}
use mathlib.Core.Bool.{true, false}
use mathlib.Core.List.{List}
use mathlib.Core.Logic.{◌↔◌, inl, inr}
use Prim.Native.Nat.{ℕ, zero, suc, ◌+◌, ◌<◌}
use native.Mathlib.Nat.{le_of_suc-le-suc}
use native.Mathlib.Omega.{arith}
use lib.ListN.{length, replicate}
use Rattle.ground.specs.Choice.{pick}
use Rattle.std.proofs.Common.{Option, Some, None, Result, Ok, Err}
use Rattle.std.specs.Option.{option_or}
use Rattle.ground.specs.declared.refusals.Refusal.{Refusal}
use Rattle.ground.specs.declared.refusals.Refusal.TheVariants.{NotSettled}
use Rattle.ground.proofs.Choices.{pick_false, by_test, by_pick}
use Rattle.segments.specs.Segments.{added_to}
use Rattle.segments.proofs.Refuses.{Adding, added_refuses}
use Rattle.statements.specs.declared.Effect.{Effect}
use Rattle.statements.specs.Listing.{rows_of}
use Rattle.statements.proofs.Refuses.{Running, counted_running}
use Rattle.passes.specs.declared.walk.State.{State}
use Rattle.passes.specs.declared.Ended.{Ended}
use Rattle.passes.specs.declared.Settled.{Settled}
use Rattle.passes.specs.Labels.{ill_of, begun_table, labels_fit}
use Rattle.passes.specs.Walks.{Source, Walk, start_of, here_of, marks_of, marked_state, effect_in, sized_state, judged, origin_from, advanced_by, advanced_state, mark_of, resize_of, advance_of, done_of, step_of, walk_of, walk_to}
use Rattle.passes.specs.Passes.{pass_of, ended, end_of, answer_of, Outcome, after_of, settle_of, most_passes, passed_of, too_many, ended_of, settled_end, settled_of}
use Rattle.passes.specs.Counts.{pass_at}
use Rattle.passes.proofs.Counted.{never_settled, not_settled_lem}

-- ---- one statement
-- the segment of an ORG
adding_running : (why : Refusal) → Adding (Err why) → Running (Some why)
unfolding pick
adding_running why (inl e) = inl (rw e (omega arith))
adding_running why (inr (inl e)) = inl (rw e (omega arith))
adding_running why (inr (inr e)) = inl (rw e (omega arith))

-- the first of two refusals
first_running : (a b : Option Refusal) → Running a → Running b → Running (option_or a b)
first_running None b p q = q
first_running (Some why) b p q = p

origin_running :
    (r : Result ℕ Refusal) (i to : ℕ) (s : State) → Adding r → Running s.refusal → Running (origin_from r i to s).refusal
unfolding origin_from judged
origin_running (Ok count) i to s own before = first_running s.refusal None before (inl tt)
origin_running (Err why) i to s own before = first_running s.refusal (Some why) before (adding_running why own)

advanced_running :
    (ts : List ℕ) (i : ℕ) (e : Effect) (s : State) → Running s.refusal → Running e.refusal → Running (advanced_state ts i e s).refusal
unfolding advanced_state judged
advanced_running ts i e s before own = go e.to
  where
    go : (to : Option ℕ) → Running (advanced_by to ts i e s).refusal
    go None = first_running s.refusal e.refusal before own
    go (Some to) = origin_running (added_to ts s.count to) i to s (added_refuses ts s.count to) before

-- ---- one pass
module _ (src : Source) where
  step_running : (i : ℕ) (w : Walk) → Running w.state.refusal → Running (step_of src i w).state.refusal
  unfolding step_of done_of resize_of advance_of mark_of marked_state sized_state effect_in
  step_running i w before =
      let s = w.state in
      let m = mark_of src.list i w in
      let e = effect_in src m.labels i s in
      let marked : Running m.state.refusal = by_pick (λ (t : State). Running t.refusal) (marks_of src.list i) before before in
      advanced_running w.starts i e (sized_state w.sizes i e m.state) marked
      (counted_running s.at src.list src.items src.nodes m.labels i (here_of s) s.page (ill_of src.list i))

  walk_running : (n i : ℕ) (w : Walk) → Running w.state.refusal → Running (walk_of src n i w).state.refusal
  unfolding walk_of
  walk_running zero i w before = before
  walk_running (suc n) i w before = walk_running n (i + 1) (step_of src i w) (step_running i w before)

  -- a pass over any tables, settled or not
  pub pass_running : (ls zs : List ℕ) → Running (pass_of src ls zs).state.refusal
  unfolding walk_to
  pass_running ls zs = walk_running (rows_of src.list) 0 (start_of ls zs) (inl tt)

-- ---- never 13
running_never : Running (Some NotSettled) → ⊥
unfolding pick
running_never (inl p) = omega arith
running_never (inr b) = cc

module _ (src : Source) where
  -- what is answered of a pass, settled or not, is another number
  pub answer_never : (made : ℕ) (ls zs : List ℕ) → (answer_of made (pass_of src ls zs).state).end ≡ Err NotSettled → ⊥
  unfolding answer_of end_of
  answer_never made ls zs = ends_never (pass_of src ls zs).state.refusal (pass_of src ls zs).state.at (pass_running src ls zs)
    where
      ends_never : (o : Option Refusal) (at : ℕ) → Running o → end_of o at ≡ Err NotSettled → ⊥
      ends_never None at r e = cc
      ends_never (Some why) at r e = let same : why ≡ NotSettled = cc in running_never (rw same at r)

  -- so where 13 is answered of n passes, each of them changed something
  settle_never :
      (n made : ℕ) (ls zs : List ℕ) → (settle_of src n made ls zs).answer.end ≡ Err NotSettled →
      (k : ℕ) → k < n → (pass_at src k ls zs).state.changed ≡ true
  unfolding settle_of after_of pass_at
  settle_never zero made ls zs = λ e k b. absurd (omega arith)
  settle_never (suc n) made ls zs =
      let w = pass_of src ls zs in
      by_test (λ (o : Outcome). o.answer.end ≡ Err NotSettled → (k : ℕ) → k < suc n → (pass_at src k ls zs).state.changed ≡ true) w.state.changed
      (λ c e. each c (settle_never n (made + 1) w.labels w.sizes e))
      (λ _ e. absurd (answer_never (made + 1) ls zs e))
    where
      each :
          (pass_of src ls zs).state.changed ≡ true →
          ((k : ℕ) → k < n → (pass_at src k (pass_of src ls zs).labels (pass_of src ls zs).sizes).state.changed ≡ true) →
          (k : ℕ) → k < suc n → (pass_at src k ls zs).state.changed ≡ true
      each c more zero b = c
      each c more (suc k) b = more k (le_of_suc-le-suc b)

-- ---- of `settle_in`'s own definition
module _ (src : Source) (ls : List ℕ) where
  -- passes are made, and each of the 64 changed something
  abbrev pub Unsettled : Type 0
  Unsettled =
      (too_many src.list src.nodes ≡ false)
      × ((k : ℕ) → k < most_passes → (pass_at src k (begun_table src.list ls) (replicate 1024 0)).state.changed ≡ true)

  unsettled_ends : Unsettled → ended_of src ls ≡ ended most_passes (Err NotSettled) 0
  unfolding ended_of passed_of
  unsettled_ends u =
      pick_false _ _ u.0 ∙ never_settled src most_passes 0 (begun_table src.list ls) (replicate 1024 0) u.1

  -- "64 passes and not settled": 13 then, and only then
  pub thirteen_exactly : ((ended_of src ls).end ≡ Err NotSettled) ↔ Unsettled
  unfolding ended_of passed_of
  thirteen_exactly = (
    by_test (λ (a : Ended). a.end ≡ Err NotSettled → Unsettled) (too_many src.list src.nodes)
        (λ _ z. absurd cc)
        (λ q e. (q, settle_never src most_passes 0 (begun_table src.list ls) (replicate 1024 0) e)),
    λ u. ap (λ (a : Ended). a.end) (unsettled_ends u),
  )

  -- and with 64 passes
  pub thirteen_passes : (ended_of src ls).end ≡ Err NotSettled → (ended_of src ls).passes ≡ most_passes
  thirteen_passes e = ap (λ (a : Ended). a.passes) (unsettled_ends (thirteen_exactly.0 e))

  -- so it is with the answer to a caller: the 9 of a label's row is no 13
  pub settle_thirteen : ((settled_of src ls).end ≡ Err NotSettled) ↔ Unsettled
  unfolding settled_of settled_end
  settle_thirteen = (
    by_pick (λ (r : Result ℕ Refusal). r ≡ Err NotSettled → Unsettled) (labels_fit src.list (length ls) (ended_of src ls).fine) thirteen_exactly.0 (λ z. absurd cc),
    λ u. ap (λ (a : Settled). a.end) (not_settled_lem src ls u.0 u.1),
  )
