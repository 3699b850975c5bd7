-- The number of passes in the answer is the definition's count, and at most as many as are allowed. The first settled pass is the last one made and
-- answers; 13 is the answer where none of them settles.
-- Assumes nothing.
use mathlib.Core.Path.{◌≡◌, refl, ap, ◌∙◌}
use mathlib.Core.Bool.{Bool, true, false}
use mathlib.Core.List.{List}
use Prim.Native.Nat.{ℕ, zero, suc, ◌+◌, ◌≤◌, ◌<◌}
use native.Mathlib.Omega.{arith}
use lib.ListN.{replicate}
use Rattle.ground.specs.Choice.{pick}
use Rattle.std.proofs.Common.{Err}
use Rattle.ground.specs.declared.refusals.Refusal.{Refusal}
use Rattle.ground.specs.declared.refusals.Refusal.TheVariants.{NotSettled, OverLimit}
use Rattle.ground.proofs.Choices.{by_pick}
use Rattle.passes.specs.declared.walk.State.{State}
use Rattle.passes.specs.Labels.{begun_table, labels_fit}
use Rattle.passes.specs.Walks.{Source}
use Rattle.passes.specs.Passes.{pass_of, ended, answer_of, outcome, Outcome, after_of, settle_of, most_passes, passed_of, too_many, ended_of, settled_end, settled_of, labels_after}
use Rattle.passes.specs.Counts.{pass_at, count_of}

pub answer_passes : (made : ℕ) (s : State) → (answer_of made s).passes ≡ made
unfolding answer_of
answer_passes made s = refl

after_count :
    (b : Bool) (o p : Outcome) (made k : ℕ) → o.answer.passes ≡ (made + 1) + k → p.answer.passes ≡ made + 1 →
    (pick b o p).answer.passes ≡ made + suc (pick b k 0)
unfolding pick
after_count true o p made k e f = omega arith
after_count false o p made k e f = omega arith

module _ (src : Source) where
  -- the number in the answer is the count
  pub counted : (n made : ℕ) (ls zs : List ℕ) → (settle_of src n made ls zs).answer.passes ≡ made + count_of src n ls zs
  unfolding settle_of count_of after_of
  counted zero made ls zs = omega arith
  counted (suc n) made ls zs =
      let w = pass_of src ls zs in
      after_count w.state.changed (settle_of src n (made + 1) w.labels w.sizes)
      (outcome (answer_of (made + 1) w.state) w.labels w.sizes) made (count_of src n w.labels w.sizes)
      (counted n (made + 1) w.labels w.sizes) (answer_passes (made + 1) w.state)

  pub at_most : (n : ℕ) (ls zs : List ℕ) → count_of src n ls zs ≤ n
  unfolding count_of
  at_most zero ls zs = omega arith
  at_most (suc n) ls zs =
      let w = pass_of src ls zs in
      let m = at_most n w.labels w.sizes in
      by_pick (λ (k : ℕ). suc k ≤ suc n) w.state.changed (omega arith) (omega arith)

  -- every pass of n changed something: 13, with n passes
  pub never_settled :
      (n made : ℕ) (ls zs : List ℕ) → ((k : ℕ) → k < n → (pass_at src k ls zs).state.changed ≡ true) →
      (settle_of src n made ls zs).answer ≡ ended (made + n) (Err NotSettled) 0
  unfolding settle_of after_of pass_at pick
  never_settled zero made ls zs h = ap (λ (m : ℕ). ended m (Err NotSettled) 0) (omega arith)
  never_settled (suc n) made ls zs h =
      let w = pass_of src ls zs in
      rw (h zero (omega arith))
      (never_settled n (made + 1) w.labels w.sizes (λ k b. h (suc k) (omega arith))
      ∙ ap (λ (m : ℕ). ended m (Err NotSettled) 0) (omega arith))

  -- pass number k + 1 is the first that changed nothing: its outcome, with k + 1 passes
  pub first_settled :
      (n k made : ℕ) (ls zs : List ℕ) → k < n → ((j : ℕ) → j < k → (pass_at src j ls zs).state.changed ≡ true) →
      (pass_at src k ls zs).state.changed ≡ false →
      settle_of src n made ls zs
      ≡ outcome (answer_of (made + suc k) (pass_at src k ls zs).state) (pass_at src k ls zs).labels (pass_at src k ls zs).sizes
  unfolding settle_of after_of pass_at pick
  first_settled zero k made ls zs b h e = absurd (omega arith)
  first_settled (suc n) zero made ls zs b h e = let one : made + 1 ≡ made + suc zero = omega arith in rw (e, one)
  first_settled (suc n) (suc k) made ls zs b h e =
      let w = pass_of src ls zs in
      let more : (made + 1) + suc k ≡ made + suc (suc k) = omega arith in
      rw (h zero (omega arith), ← more)
      (first_settled n k (made + 1) w.labels w.sizes (omega arith) (λ j l. h (suc j) (omega arith)) e)

-- ---- of `settle`'s own definition
module _ (src : Source) (ls : List ℕ) where
  -- the passes that the walk's definition counts
  abbrev pub count : ℕ
  count = count_of src most_passes (begun_table src.list ls) (replicate 1024 0)

  pub count_is : too_many src.list src.nodes ≡ false → (settled_of src ls).passes ≡ count
  unfolding settled_of ended_of passed_of pick
  count_is e = rw e (counted src most_passes 0 (begun_table src.list ls) (replicate 1024 0) ∙ omega arith)

  -- "any other 17" has made none
  pub early : too_many src.list src.nodes ≡ true → settled_of src ls ≡ record { passes = 0; end = Err OverLimit }
  unfolding settled_of settled_end ended_of labels_fit pick
  early e = rw e

  pub count_most : (settled_of src ls).passes ≤ most_passes
  count_most = from (too_many src.list src.nodes) refl
    where
      from : (many : Bool) → too_many src.list src.nodes ≡ many → (settled_of src ls).passes ≤ most_passes
      from true e = rw (early e) (omega arith)
      from false e = rw (count_is e) (at_most src most_passes (begun_table src.list ls) (replicate 1024 0))

  -- "64 passes and not settled"
  pub not_settled_lem :
      too_many src.list src.nodes ≡ false →
      ((k : ℕ) → k < most_passes → (pass_at src k (begun_table src.list ls) (replicate 1024 0)).state.changed ≡ true) →
      settled_of src ls ≡ record { passes = most_passes; end = Err NotSettled }
  unfolding settled_of settled_end ended_of passed_of labels_fit pick
  not_settled_lem e h = rw (e, never_settled src most_passes 0 (begun_table src.list ls) (replicate 1024 0) h)

  -- a refusal leaves the lent label table
  pub refused_leaves : (why : Refusal) → (settled_of src ls).end ≡ Err why → labels_after src ls ≡ ls
  unfolding settled_of labels_after pick
  refused_leaves why e = rw e
