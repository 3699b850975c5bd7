-- One turn of each loop over passes and statements.
-- Assumes nothing.
use mathlib.Core.Path.{◌≡◌, refl}
use mathlib.Core.Bool.{Bool, true, false, ◌||◌}
use mathlib.Core.List.{List}
use Prim.Native.Nat.{ℕ, suc, ◌+◌, ◌-◌, ◌≤◌, ◌<◌}
use native.Mathlib.Omega.{arith}
use lib.Dec.{ltb}
use borrow.Author.Tests.{ltb-false}
use Rattle.ground.specs.Choice.{pick}
use Rattle.std.proofs.Common.{Err, is_ok}
use Rattle.ground.specs.declared.refusals.Refusal.TheVariants.{NotSettled, OverLimit}
use Rattle.ground.proofs.Tests.{neither_left}
use Rattle.expressions.specs.Answers as expressions
use Rattle.statements.specs.Listing.{rows_of}
use Rattle.passes.specs.declared.walk.State.{State}
use Rattle.passes.specs.declared.Ended.{Ended}
use Rattle.passes.specs.Walks.{Source}
use Rattle.passes.specs.Passes.{pass_of, ended, answer_of, outcome, after_of, settle_of, most_passes, passed_of, overfull_in, too_many, ended_of, worked_table}

module _ (src : Source) where
  module _
      (made : ℕ) (s : State) (ls zs ls' zs' : List ℕ) (h : made < most_passes)
      (p : s ≡ (pass_of src ls zs).state) (q : ls' ≡ (pass_of src ls zs).labels) (r : zs' ≡ (pass_of src ls zs).sizes)
    where
      pub settle_again :
          s.changed ≡ true → settle_of src (most_passes - (made + 1)) (made + 1) ls' zs' ≡ settle_of src (most_passes - made) made ls zs
      unfolding settle_of after_of pick
      settle_again e =
          let n : 64 - made ≡ suc (64 - (made + 1)) = omega arith in
          rw (n, ← p, e, q, r)

      pub settle_stop :
          (a : Ended) → a ≡ answer_of (made + 1) s → s.changed ≡ false →
          outcome a ls' zs' ≡ settle_of src (most_passes - made) made ls zs
      unfolding settle_of after_of pick
      settle_stop a f e =
          let n : 64 - made ≡ suc (64 - (made + 1)) = omega arith in
          rw (n, f, ← p, e, q, r)

  pub settle_out :
      (made : ℕ) (ls zs : List ℕ) → made ≡ most_passes → settle_of src (most_passes - made) made ls zs ≡ outcome (ended most_passes (Err NotSettled) 0) ls zs
  unfolding settle_of
  settle_out made ls zs h = rw h

-- the answers of `settle_in`, from what its calls ensure
pub few : (list nodes : List ℕ) → too_many list nodes ≡ false → rows_of list ≤ 1024
unfolding too_many
few list nodes e = ltb-false 1024 (rows_of list) (neither_left (ltb 1024 (rows_of list)) (expressions.too_many nodes || overfull_in list (rows_of list)) e)

-- the answers of `settle`: without a refusal there were passes
pub accepted_passed : (src : Source) (ls table : List ℕ) → is_ok (ended_of src ls).end ≡ true → worked_table src ls table ≡ (passed_of src ls).table
unfolding ended_of worked_table pick
accepted_passed src ls table = from (too_many src.list src.nodes)
  where
    from :
        (many : Bool) → is_ok (pick many (ended 0 (Err OverLimit) 0) (passed_of src ls).answer).end ≡ true →
        pick many table (passed_of src ls).table ≡ (passed_of src ls).table
    from true = λ z. absurd cc
    from false = λ z. refl
