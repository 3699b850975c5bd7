-- What an accepted effect tells of its statement: its own label is not refused. And an effect that moves is not refused and keeps the page.
-- Assumes nothing.
use mathlib.Core.Path.{◌≡◌, refl}
use mathlib.Core.Bool.{Bool, true, false}
use mathlib.Core.List.{List}
use Prim.Native.Nat.{ℕ, ◌+◌}
use lib.Dec.{ltb, leb}
use Rattle.std.specs.Prelude.{None, Result, Ok, Err, IfSome}
use Rattle.ground.specs.declared.refusals.Refusal.{Refusal}
use Rattle.ground.specs.Choice.{pick}
use Rattle.ground.proofs.Choices.{by_pick}
use Rattle.values.specs.declared.Value.{Value}
use Rattle.values.specs.declared.pages.Page.{Page}
use Rattle.instruction.specs.declared.Built.{Built}
use Rattle.statements.specs.declared.Statement.{Statement}
use Rattle.statements.specs.declared.Statement.TheVariants.{Label, Instruction, Rmb, Fcb, Fdb, Fcc, Org, Setdp, Unknown}
use Rattle.statements.specs.declared.Entry.{Entry}
use Rattle.statements.specs.declared.Turn.TheVariants.{Keeps}
use Rattle.statements.specs.declared.Effect.{Effect}
use Rattle.statements.specs.Order.{earliest}
use Rattle.statements.specs.Listing.{statement_at, entry_at}
use Rattle.statements.specs.Asking.{asked_of, wanted_of, refusals_in}
use Rattle.statements.specs.Effects.{own_label, labelled, made_of, instruction_effect, reserved_effect, origin_effect, setdp_effect, data_refusal, effect_of, effect_at, counted_of}
use Rattle.statements.proofs.Firsts.{neither}
use Rattle.statements.proofs.Told.{own_well, labelled_ok, made_built, effect_made}

-- ---- an accepted statement's label is its own
data_well : (answers : List (Result Value Refusal)) (ill : Bool) → data_refusal answers ill ≡ None → ill ≡ false
unfolding data_refusal
data_well answers ill z = own_well ill (neither (own_label ill) (earliest (refusals_in answers)) z).0

reserved_well : (a : Result Value Refusal) (ill : Bool) (l : Result Value Refusal) → labelled a ill ≡ l → (reserved_effect l).refusal ≡ None → ill ≡ false
reserved_well a ill (Ok v) is z = (labelled_ok a ill is).1
reserved_well a ill (Err why) is z = absurd (cc)

origin_well : (a : Result Value Refusal) (ill : Bool) (l : Result Value Refusal) → labelled a ill ≡ l → (origin_effect l).refusal ≡ None → ill ≡ false
origin_well a ill (Ok v) is z = (labelled_ok a ill is).1
origin_well a ill (Err why) is z = absurd (cc)

setdp_well : (number : ℕ) (ill : Bool) → (setdp_effect number ill).refusal ≡ None → ill ≡ false
unfolding setdp_effect pick
setdp_well number true z =
    by_pick (λ (x : Effect). x.refusal ≡ None → true ≡ false) (ltb number 256) (λ y. absurd (cc)) (λ y. absurd (cc)) z
setdp_well number false z = refl

effect_well :
    (s : Statement) (e : Entry) (items ns ls : List ℕ) (here : ℕ) (page : Page) (ill : Bool) →
    (effect_of s e items ns ls here page ill).refusal ≡ None → ill ≡ false
effect_well Label e items ns ls here page ill z = own_well ill z
effect_well (Instruction node) e items ns ls here page ill z =
    let a = asked_of ns ls node here in
    (made_built e a ill page here (effect_made e (made_of e a ill page here) z).1).1
effect_well (Rmb node) e items ns ls here page ill z = reserved_well (wanted_of ns ls node here) ill _ refl z
effect_well (Fcb first count) e items ns ls here page ill z = data_well _ ill z
effect_well (Fdb first count) e items ns ls here page ill z = data_well _ ill z
effect_well (Fcc first count) e items ns ls here page ill z = data_well _ ill z
effect_well (Org node) e items ns ls here page ill z = origin_well (wanted_of ns ls node 0) ill _ refl z
effect_well (Setdp number) e items ns ls here page ill z = setdp_well number ill z
effect_well Unknown e items ns ls here page ill z = absurd (cc)

pub accepted_well :
    (list items ns ls : List ℕ) (i here : ℕ) (page : Page) (ill : Bool) → (effect_at list items ns ls i here page ill).refusal ≡ None → ill ≡ false
unfolding effect_at
accepted_well list items ns ls i here page ill = effect_well (statement_at list i) (entry_at list i) items ns ls here page ill

-- ---- an effect that moves does nothing else
pub record Plain (e : Effect) : Type 0 where
  pub accepted : e.refusal ≡ None
  pub keeping : e.turn ≡ Keeps

abbrev pub Moving : Effect → Type 0
Moving e = IfSome e.to (λ _. Plain e)

made_moving : (e : Entry) (m : Result Built Refusal) → Moving (instruction_effect e m)
made_moving e (Ok b) = tt
made_moving e (Err why) = tt

reserved_moving : (a : Result Value Refusal) → Moving (reserved_effect a)
reserved_moving (Ok v) = tt
reserved_moving (Err why) = tt

origin_moving : (a : Result Value Refusal) → Moving (origin_effect a)
origin_moving (Ok v) = record { accepted = refl; keeping = refl }
origin_moving (Err why) = tt

effect_moving : (s : Statement) (e : Entry) (items ns ls : List ℕ) (here : ℕ) (page : Page) (ill : Bool) → Moving (effect_of s e items ns ls here page ill)
unfolding setdp_effect
effect_moving Label e items ns ls here page ill = tt
effect_moving (Instruction node) e items ns ls here page ill = made_moving e (made_of e (asked_of ns ls node here) ill page here)
effect_moving (Rmb node) e items ns ls here page ill = reserved_moving (labelled (wanted_of ns ls node here) ill)
effect_moving (Fcb first count) e items ns ls here page ill = tt
effect_moving (Fdb first count) e items ns ls here page ill = tt
effect_moving (Fcc first count) e items ns ls here page ill = tt
effect_moving (Org node) e items ns ls here page ill = origin_moving (labelled (wanted_of ns ls node 0) ill)
effect_moving (Setdp number) e items ns ls here page ill = by_pick Moving (ltb number 256) (by_pick Moving ill tt tt) tt
effect_moving Unknown e items ns ls here page ill = tt

pub counted_moving :
    (at : ℕ) (list items ns ls : List ℕ) (i here : ℕ) (page : Page) (ill : Bool) → Moving (counted_of at (effect_at list items ns ls i here page ill))
unfolding counted_of effect_at
counted_moving at list items ns ls i here page ill =
    let e = effect_of (statement_at list i) (entry_at list i) items ns ls here page ill in
    by_pick Moving (leb (at + e.size) 65536) (effect_moving (statement_at list i) (entry_at list i) items ns ls here page ill) tt
