-- The page after each statement, exactly: SETDP sets it, an accepted instruction that dirties leaves it unknown, and all else keeps it, a refused one too.
-- Assumes nothing.
use mathlib.Core.Path.{◌≡◌, refl}
use mathlib.Core.Bool.{Bool, true, false}
use mathlib.Core.List.{List, []}
use Prim.Native.Nat.{ℕ, ◌+◌, ◌<◌}
use native.Mathlib.Omega.{arith}
use lib.Dec.{ltb, leb}
use borrow.Author.Tests.{ltb-true, ltb-false, lt-ltb}
use Rattle.ground.specs.Choice.{pick}
use Rattle.std.specs.Prelude.{None, Some, Result, Ok, Err}
use Rattle.ground.specs.declared.refusals.Refusal.{Refusal}
use Rattle.ground.specs.declared.refusals.Refusal.TheVariants as refusal
use Rattle.ground.proofs.Choices.{by_test, by_pick}
use Rattle.values.specs.declared.Value.{Value}
use Rattle.values.specs.declared.pages.Page.{Page}
use Rattle.values.specs.declared.pages.Page.TheVariants as pages
use Rattle.instruction.specs.declared.Built.{Built}
use Rattle.instruction.specs.Building.{fresh_of, dirties_told}
use Rattle.statements.specs.declared.Statement.{Statement}
use Rattle.statements.specs.declared.Statement.TheVariants.{Label, Instruction, Rmb, Fcb, Fdb, Fcc, Org, Setdp, Unknown}
use Rattle.statements.specs.declared.Entry.{Entry}
use Rattle.statements.specs.declared.Turn.TheVariants.{Keeps, Forgets}
use Rattle.statements.specs.declared.Effect.{Effect}
use Rattle.statements.specs.Listing.{none, statement_at, entry_at, object_of}
use Rattle.statements.specs.Asking.{asked_of, wanted_of}
use Rattle.statements.specs.Turns.{turned}
use Rattle.statements.specs.Effects.{labelled, record_of, made_of, instruction_effect, reserved_effect, origin_effect, setdp_effect, effect_of, effect_at, counted_of}
use Rattle.statements.specs.Objects.{values_at}
use Rattle.statements.proofs.Told.{instruction_fresh}

-- ---- a refused statement
abbrev Kept : Effect → Type 0
Kept x = (x.refusal ≡ None → ⊥) → x.turn ≡ Keeps

made_kept : (e : Entry) (m : Result Built Refusal) → Kept (instruction_effect e m)
made_kept e (Ok b) = λ r. absurd (r refl)
made_kept e (Err why) = λ _. refl

reserved_kept : (a : Result Value Refusal) → (reserved_effect a).turn ≡ Keeps
reserved_kept (Ok v) = refl
reserved_kept (Err why) = refl

origin_kept : (a : Result Value Refusal) → (origin_effect a).turn ≡ Keeps
origin_kept (Ok v) = refl
origin_kept (Err why) = refl

effect_kept : (s : Statement) (e : Entry) (items ns ls : List ℕ) (here : ℕ) (page : Page) (ill : Bool) → Kept (effect_of s e items ns ls here page ill)
unfolding setdp_effect
effect_kept Label e items ns ls here page ill = λ _. refl
effect_kept (Instruction node) e items ns ls here page ill = made_kept e (made_of e (asked_of ns ls node here) ill page here)
effect_kept (Rmb node) e items ns ls here page ill = λ _. reserved_kept (labelled (wanted_of ns ls node here) ill)
effect_kept (Fcb first count) e items ns ls here page ill = λ _. refl
effect_kept (Fdb first count) e items ns ls here page ill = λ _. refl
effect_kept (Fcc first count) e items ns ls here page ill = λ _. refl
effect_kept (Org node) e items ns ls here page ill = λ _. origin_kept (labelled (wanted_of ns ls node 0) ill)
effect_kept (Setdp number) e items ns ls here page ill =
    by_pick Kept (ltb number 256) (by_pick Kept ill (λ _. refl) (λ r. absurd (r refl))) (λ _. refl)
effect_kept Unknown e items ns ls here page ill = λ _. refl

-- ---- a kind that has nothing to do with the page
others_kept :
    (s : Statement) (e : Entry) (items ns ls : List ℕ) (here : ℕ) (page : Page) (ill : Bool) →
    ((node : ℕ) → s ≡ Instruction node → ⊥) → ((number : ℕ) → s ≡ Setdp number → ⊥) → (effect_of s e items ns ls here page ill).turn ≡ Keeps
others_kept Label e items ns ls here page ill f g = refl
others_kept (Instruction node) e items ns ls here page ill f g = absurd (f node refl)
others_kept (Rmb node) e items ns ls here page ill f g = reserved_kept (labelled (wanted_of ns ls node here) ill)
others_kept (Fcb first count) e items ns ls here page ill f g = refl
others_kept (Fdb first count) e items ns ls here page ill f g = refl
others_kept (Fcc first count) e items ns ls here page ill f g = refl
others_kept (Org node) e items ns ls here page ill f g = origin_kept (labelled (wanted_of ns ls node 0) ill)
others_kept (Setdp number) e items ns ls here page ill f g = absurd (g number refl)
others_kept Unknown e items ns ls here page ill f g = refl

-- ---- statement i of a list
module _ (list items ns ls : List ℕ) (i here : ℕ) (page : Page) (ill : Bool) where
  abbrev effect : Effect
  effect = effect_at list items ns ls i here page ill

  -- "a statement SETDP with a number 0 to 255 sets it"
  pub setdp_sets : (number : ℕ) → statement_at list i ≡ Setdp number → number < 256 → ill ≡ false → turned effect.turn page ≡ pages.Known number
  unfolding effect_at setdp_effect pick
  setdp_sets number s h own = rw (s, lt-ltb number 256 h, own)

  -- "An operation that dirtied the page now makes it unknown", where the instruction is accepted; another keeps the page
  pub instruction_turns :
      (node : ℕ) → statement_at list i ≡ Instruction node → effect.refusal ≡ None →
      turned effect.turn page ≡ pick (dirties_told (fresh_of (record_of (entry_at list i) (asked_of ns ls node here) page) here)) pages.Unknown page
  unfolding effect_at pick
  instruction_turns node s z =
      let b = fresh_of (record_of (entry_at list i) (asked_of ns ls node here) page) here in
      rw (s, (instruction_fresh node (entry_at list i) items ns ls here page ill (rw s at z)).turned) (go (dirties_told b))
    where
      go : (dirties : Bool) → turned (pick dirties Forgets Keeps) page ≡ pick dirties pages.Unknown page
      go true = refl
      go false = refl

  -- "no refused one dirties", nor does one set the page, nor what is 18 at a running address
  pub refused_keeps : (effect.refusal ≡ None → ⊥) → turned effect.turn page ≡ page
  unfolding effect_at
  refused_keeps r = rw (effect_kept (statement_at list i) (entry_at list i) items ns ls here page ill r)

  pub counted_keeps : (at : ℕ) → ((counted_of at effect).refusal ≡ None → ⊥) → turned (counted_of at effect).turn page ≡ page
  unfolding effect_at counted_of
  counted_keeps at =
      by_pick (λ (x : Effect). (x.refusal ≡ None → ⊥) → turned x.turn page ≡ page) (leb (at + effect.size) 65536) refused_keeps (λ _. refl)

  -- every other kind keeps it
  pub others_keep :
      ((node : ℕ) → statement_at list i ≡ Instruction node → ⊥) → ((number : ℕ) → statement_at list i ≡ Setdp number → ⊥) →
      turned effect.turn page ≡ page
  unfolding effect_at
  others_keep f g = rw (others_kept (statement_at list i) (entry_at list i) items ns ls here page ill f g)

  -- ---- SETDP
  -- "1 for another SETDP number", and for no other reason
  pub setdp_one :
      (number : ℕ) → statement_at list i ≡ Setdp number →
      (255 < number → effect.refusal ≡ Some refusal.Unknown) × (effect.refusal ≡ Some refusal.Unknown → 255 < number)
  unfolding effect_at setdp_effect
  setdp_one number s =
      let P : Effect → Type 0 = λ x. (255 < number → x.refusal ≡ Some refusal.Unknown) × (x.refusal ≡ Some refusal.Unknown → 255 < number) in
      rw s
      (by_test P (ltb number 256)
      (λ t. let small = ltb-true number 256 t in
      by_pick P ill (λ h. absurd (omega arith), λ z. absurd (cc)) (λ h. absurd (omega arith), λ z. absurd (cc)))
      (λ t. (λ _. refl, λ _. omega (arith, ltb-false number 256 t))))

  -- it counts nothing, has no object and no values
  pub setdp_bare :
      (number : ℕ) → statement_at list i ≡ Setdp number →
      (effect.size ≡ 0) × (object_of (statement_at list i) ≡ none) × (values_at list items ns ls i here page ≡ [])
  unfolding effect_at setdp_effect values_at
  setdp_bare number s =
      rw s
      (by_pick (λ (x : Effect). x.size ≡ 0) (ltb number 256) (by_pick (λ (x : Effect). x.size ≡ 0) ill refl refl) refl, refl, refl)
