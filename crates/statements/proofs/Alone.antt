-- The four ways that a lone build ends: 17, a refusal of the statement, 9, or its values at the front of the table.
-- Assumes nothing.
use mathlib.Core.Path.{◌≡◌, refl, sym, ap, ◌∙◌}
use mathlib.Core.Bool.{Bool, true, false}
use mathlib.Core.List.{List, ◌++◌}
use Prim.Native.Nat.{ℕ, ◌*◌, ◌<◌, ◌≤◌}
use native.Mathlib.Omega.{arith}
use lib.ListN.{length, drop}
use borrow.Author.Tests.{lt-ltb, le-ltb}
use Rattle.ground.specs.Choice.{pick}
use Rattle.std.specs.Prelude.{Option, None, Some, Result, Ok, Err, is_ok}
use Rattle.ground.specs.declared.refusals.Refusal.{Refusal}
use Rattle.ground.specs.declared.refusals.Refusal.TheVariants.{NoRoom, OverLimit}
use Rattle.ground.specs.Stores.{put}
use Rattle.ground.proofs.Stores.{put_front}
use Rattle.values.specs.declared.pages.Page.{Page}
use Rattle.statements.specs.declared.Effect.{Effect}
use Rattle.statements.specs.declared.lone.Lone.{Lone}
use Rattle.statements.specs.Listing.{overfull_at}
use Rattle.statements.specs.Effects.{effect_at}
use Rattle.statements.specs.Objects.{values_at, count_in}
use Rattle.statements.specs.Lone.{accepted, answer_of, lone_at, table_after}
use Rattle.statements.proofs.Lengths.{values_length}

pub no_refusal : (o : Option Refusal) → ((why : Refusal) → o ≡ Some why → ⊥) → o ≡ None
no_refusal None h = refl
no_refusal (Some why) h = absurd (h why refl)

module _ (list items ns ls : List ℕ) (i here : ℕ) (page : Page) (ill : Bool) (table : List ℕ) where
  abbrev effect : Effect
  effect = effect_at list items ns ls i here page ill

  abbrev values : List ℕ
  values = values_at list items ns ls i here page

  abbrev lone : Result Lone Refusal
  lone = lone_at list items ns ls i here page ill (length table)

  abbrev after_build : List ℕ
  after_build = table_after list items ns ls i here page ill table

  -- what is refused leaves the table as it was
  kept : (why : Refusal) → lone ≡ Err why → (Err why ≡ lone) × (table ≡ after_build)
  unfolding table_after pick
  kept why e = (sym e, rw e)

  pub too_many_lem : overfull_at list i ≡ true → (Err OverLimit ≡ lone) × (table ≡ after_build)
  unfolding lone_at answer_of pick
  too_many_lem o = kept OverLimit (rw o)

  pub own : {why : Refusal} → overfull_at list i ≡ false → effect.refusal ≡ Some why → (Err why ≡ lone) × (table ≡ after_build)
  unfolding lone_at answer_of pick
  own {why} o r = kept why (rw (o, r))

  pub no_room_lem :
      overfull_at list i ≡ false → effect.refusal ≡ None → length table < 2 * count_in values → (Err NoRoom ≡ lone) × (table ≡ after_build)
  unfolding lone_at answer_of pick
  no_room_lem o r h =
      let n = values_length list items ns ls i here page in
      kept NoRoom (rw (o, r, lt-ltb (length table) (length values) (omega arith)))

  pub stored :
      overfull_at list i ≡ false → effect.refusal ≡ None → 2 * count_in values ≤ length table →
      (Ok (accepted effect (count_in values)) ≡ lone) × (put table 0 values ≡ after_build)
  unfolding lone_at answer_of table_after pick
  stored o r h =
      let n = values_length list items ns ls i here page in
      let e : lone ≡ Ok (accepted effect (count_in values)) = rw (o, r, le-ltb (length table) (length values) (omega arith)) in
      (sym e, put_front table values (omega arith) ∙ sym (ap (λ (l : Result Lone Refusal). pick (is_ok l) (values ++ drop (length values) table) table) e))
