-- What the passes leave: they did not settle, or another pass over the tables that they left is the settled pass again, and the answer is that pass's.
-- Assumes nothing.
use mathlib.Core.Path.{◌≡◌, refl, sym, ap, ◌∙◌}
use mathlib.Core.Bool.{Bool, true, false}
use mathlib.Core.List.{List}
use mathlib.Core.Logic.{◌⊎◌, inl, inr, ⊎_elim}
use Prim.Native.Nat.{ℕ, zero, suc, ◌+◌, ◌<◌}
use native.Mathlib.Omega.{arith}
use lib.ListN.{replicate}
use Rattle.ground.specs.Choice.{pick}
use Rattle.std.proofs.Common.{Err, is_ok}
use Rattle.ground.specs.declared.refusals.Refusal.{Refusal}
use Rattle.ground.specs.declared.refusals.Refusal.TheVariants.{NotSettled, OverLimit}
use Rattle.passes.specs.declared.walk.State.{State}
use Rattle.passes.specs.declared.Ended.{Ended}
use Rattle.passes.specs.Labels.{begun_table}
use Rattle.passes.specs.Walks.{Source, Walk}
use Rattle.passes.specs.Passes.{pass_of, ended, answer_of, outcome, Outcome, after_of, settle_of, most_passes, passed_of, too_many, ended_of}
use Rattle.passes.proofs.Still.{settled_still}
use Rattle.passes.proofs.Counted.{answer_passes}

-- a pass over these tables changes nothing, and gives this answer
pub record Rests (src : Source) (o : Outcome) : Type 0 where
  pub still : (pass_of src o.table o.sizes).state.changed ≡ false
  pub answers : o.answer ≡ answer_of o.answer.passes (pass_of src o.table o.sizes).state

abbrev pub Ends : Source → ℕ → Outcome → Type 0
Ends src made o = (o.answer ≡ ended made (Err NotSettled) 0) ⊎ Rests src o

module _ (src : Source) where
  pass_rests :
      (made : ℕ) (ls zs : List ℕ) → (pass_of src ls zs).state.changed ≡ false →
      Rests src (outcome (answer_of made (pass_of src ls zs).state) (pass_of src ls zs).labels (pass_of src ls zs).sizes)
  pass_rests made ls zs h =
      let s = (pass_of src ls zs).state in
      let same = ap (λ (w : Walk). w.state) (settled_still src ls zs h) in
      record {
        still = ap (λ (t : State). t.changed) same ∙ h;
        answers =
            ap (λ (t : State). answer_of made t) (sym same)
            ∙ ap (λ (m : ℕ). answer_of m (pass_of src (pass_of src ls zs).labels (pass_of src ls zs).sizes).state) (sym (answer_passes made s));
      }

  after_rests :
      (changed : Bool) (n made : ℕ) (ls zs : List ℕ) → (pass_of src ls zs).state.changed ≡ changed →
      Ends src ((made + 1) + n) (settle_of src n (made + 1) (pass_of src ls zs).labels (pass_of src ls zs).sizes) →
      Ends src (made + suc n) (settle_of src (suc n) made ls zs)
  unfolding settle_of after_of pick
  after_rests true n made ls zs e more = let m : made + suc n ≡ (made + 1) + n = omega arith in rw (e, m) more
  after_rests false n made ls zs e more = rw e (inr (pass_rests (made + 1) ls zs e))

  pub settle_rests : (n made : ℕ) (ls zs : List ℕ) → Ends src (made + n) (settle_of src n made ls zs)
  unfolding settle_of
  settle_rests zero made ls zs = inl (ap (λ (m : ℕ). ended m (Err NotSettled) 0) (omega arith))
  settle_rests (suc n) made ls zs =
      let w = pass_of src ls zs in
      after_rests w.state.changed n made ls zs refl (settle_rests n (made + 1) w.labels w.sizes)

-- ---- of `settle_in`: where there is no refusal, or a statement before the refused one, the tables are those of a settled pass
module _ (src : Source) (ls : List ℕ) where
  abbrev Told : Ended → Type 0
  Told e = (is_ok e.end ≡ true) ⊎ (0 < e.fine)

  untold : (why : Refusal) (made : ℕ) → Told (ended made (Err why) 0) → ⊥
  untold why made t = ⊎_elim (λ (h : false ≡ true). cc) (λ (h : 0 < 0). omega arith) t

  passed_rests : Told (passed_of src ls).answer → Rests src (passed_of src ls)
  unfolding passed_of
  passed_rests t =
      ⊎_elim
      (λ e. absurd (untold NotSettled (0 + most_passes) (rw e at t)))
      (λ r. r)
      (settle_rests src most_passes 0 (begun_table src.list ls) (replicate 1024 0))

  pub ended_rests :
      (many : Bool) → too_many src.list src.nodes ≡ many → Told (ended_of src ls) → (many ≡ false) × Rests src (passed_of src ls)
  unfolding ended_of pick
  ended_rests true e t = absurd (untold OverLimit 0 (rw e at t))
  ended_rests false e t = (refl, passed_rests (rw e at t))
