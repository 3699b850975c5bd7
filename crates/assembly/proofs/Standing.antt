-- Where objects stand: one with data stands where its statement does, and what an ORG counts is never cut off.
-- Assumes nothing.
use mathlib.Core.Path.{◌≡◌, refl, sym, ap, ◌∙◌}
use mathlib.Core.Bool.{Bool}
use mathlib.Core.List.{List}
use mathlib.Core.Logic.{◌⊎◌, inl, inr, ⊎_elim}
use Prim.Native.Nat.{ℕ, ◌+◌, ◌≤◌}
use native.Mathlib.Omega.{arith}
use lib.Dec.{ltb, leb}
use borrow.Author.Tests.{le-leb}
use Rattle.std.specs.Prelude.{None, Result, Ok, Err}
use Rattle.ground.specs.declared.refusals.Refusal.{Refusal}
use Rattle.values.specs.declared.Value.{Value}
use Rattle.instruction.specs.declared.Built.{Built}
use Rattle.statements.specs.Asking.{asked_of, wanted_of}
use Rattle.ground.proofs.Choices.{pick_true, by_pick}
use Rattle.values.specs.declared.pages.Page.{Page}
use Rattle.statements.specs.declared.Statement.{Statement}
use Rattle.statements.specs.declared.Statement.TheVariants.{Label, Instruction, Rmb, Fcb, Fdb, Fcc, Org, Setdp, Unknown}
use Rattle.statements.specs.declared.Entry.{Entry}
use Rattle.statements.specs.declared.Effect.{Effect}
use Rattle.statements.specs.Listing.{statement_at, entry_at, object_of}
use Rattle.statements.specs.Effects.{labelled, made_of, instruction_effect, reserved_effect, origin_effect, setdp_effect, effect_of, effect_at, counted_of}
use Rattle.assembly.specs.Objects.{kind_at, stands_at}

-- a statement moves nothing, or it counts none and its object has no data
abbrev Moves : Statement → Effect → Type 0
Moves s e = (e.to ≡ None) ⊎ ((e.size ≡ 0) × (object_of s ≡ 0))

made_moves : (node : ℕ) (e : Entry) (m : Result Built Refusal) → Moves (Instruction node) (instruction_effect e m)
made_moves node e (Ok b) = inl refl
made_moves node e (Err why) = inl refl

reserved_moves : (node : ℕ) (a : Result Value Refusal) → Moves (Rmb node) (reserved_effect a)
reserved_moves node (Ok v) = inl refl
reserved_moves node (Err why) = inl refl

origin_moves : (node : ℕ) (a : Result Value Refusal) → Moves (Org node) (origin_effect a)
origin_moves node (Ok v) = inr (refl, refl)
origin_moves node (Err why) = inl refl

effect_moves : (s : Statement) (e : Entry) (items ns ls : List ℕ) (here : ℕ) (page : Page) (ill : Bool) → Moves s (effect_of s e items ns ls here page ill)
unfolding setdp_effect
effect_moves Label e items ns ls here page ill = inl refl
effect_moves (Instruction node) e items ns ls here page ill = made_moves node e (made_of e (asked_of ns ls node here) ill page here)
effect_moves (Rmb node) e items ns ls here page ill = reserved_moves node (labelled (wanted_of ns ls node here) ill)
effect_moves (Fcb first count) e items ns ls here page ill = inl refl
effect_moves (Fdb first count) e items ns ls here page ill = inl refl
effect_moves (Fcc first count) e items ns ls here page ill = inl refl
effect_moves (Org node) e items ns ls here page ill = origin_moves node (labelled (wanted_of ns ls node 0) ill)
effect_moves (Setdp number) e items ns ls here page ill =
    by_pick (Moves (Setdp number)) (ltb number 256) (by_pick (Moves (Setdp number)) ill (inl refl) (inl refl)) (inl refl)
effect_moves Unknown e items ns ls here page ill = inl refl

stays : (e : Effect) (here : ℕ) → e.to ≡ None → stands_at e here ≡ here
unfolding stands_at
stays e here m = rw m

pub counted_whole : (at : ℕ) (e : Effect) → at + e.size ≤ 65536 → counted_of at e ≡ e
unfolding counted_of
counted_whole at e h = pick_true _ _ (le-leb (at + e.size) 65536 h)

counted_stays : (at : ℕ) (e : Effect) → e.to ≡ None → (counted_of at e).to ≡ None
unfolding counted_of
counted_stays at e m = by_pick (λ (x : Effect). x.to ≡ None) (leb (at + e.size) 65536) m refl

module _ (list items ns ls : List ℕ) (i here : ℕ) (page : Page) (ill : Bool) where
  abbrev does : Effect
  does = effect_at list items ns ls i here page ill

  moves_at : Moves (statement_at list i) does
  unfolding effect_at
  moves_at = effect_moves (statement_at list i) (entry_at list i) items ns ls here page ill

  pub with_data_stays : kind_at list i ≡ 1 → stands_at does here ≡ here
  with_data_stays one = ⊎_elim (λ m. stays does here m) (λ o. absurd (omega (arith, o.1, one))) moves_at

  -- counting it changes nothing of that
  pub counted_stands : (at : ℕ) → at ≤ 65536 → stands_at (counted_of at does) here ≡ stands_at does here
  counted_stands at h =
      ⊎_elim
      (λ m. stays (counted_of at does) here (counted_stays at does m) ∙ sym (stays does here m))
      (λ o. ap (λ (x : Effect). stands_at x here) (counted_whole at does (omega (arith, o.0, h))))
      moves_at
