-- How many statements stand before the first refused one, and what each of them does in a settled pass: it is accepted at its address, and moves the
-- walk on by its own effect alone. So what is written out of a settled pass needs no segments and no refusals.
-- Assumes nothing.
use mathlib.Core.Path.{◌≡◌, refl, sym, ap, subst, ◌∙◌}
use mathlib.Core.Bool.{Bool, true, false, not}
use mathlib.Core.List.{List}
use Prim.Native.Nat.{ℕ, zero, suc, ◌+◌, ◌-◌, ◌≤◌, ◌<◌}
use native.Mathlib.Nat.{le_of_suc-le-suc}
use native.Mathlib.Omega.{arith}
use lib.Dec.{eqb}
use lib.ListN.{get_or}
use Rattle.std.proofs.Common.{Option, Some, None, Result, Ok, Err, is_none, IfSome}
use Rattle.std.specs.Option.{option_or, unwrap_or}
use Rattle.std.proofs.lemmas.Option.{none-some}
use Rattle.ground.specs.Choice.{pick}
use Rattle.ground.specs.declared.refusals.Refusal.{Refusal}
use Rattle.ground.proofs.Choices.{pick_true, pick_false, by_pick}
use Rattle.segments.specs.Segments.{added_to}
use Rattle.statements.specs.declared.Effect.{Effect}
use Rattle.statements.specs.Turns.{turned}
use Rattle.statements.specs.Effects.{effect_at, counted_of}
use Rattle.statements.proofs.Sizes.{counted_accepted}
use Rattle.passes.specs.declared.walk.State.{State}
use Rattle.statements.specs.Listing.{rows_of}
use Rattle.passes.specs.Labels.{ill_of}
use Rattle.passes.specs.Walks.{Source, Walk, start_of, here_of, touched, marks_of, cell_of, marked_state, effect_in, sized_state, judged, grown, moved, origin_from, advanced_by, advanced_state, mark_of, resize_of, advance_of, done_of, step_of, walk_of, walk_to}
use Rattle.passes.specs.Passes.{pass_of}
use Rattle.passes.proofs.Still.{pass_next, settled_effects}
use Rattle.statements.proofs.Accepted.{Plain, Moving, accepted_well, counted_moving}

-- ---- the first refusal stays, and `fine` counts the statements up to it
pub record Judged (i : ℕ) (refusal : Option Refusal) (fine : ℕ) (t : State) : Type 0 where
  pub counts : t.fine ≡ pick (is_none t.refusal) (i + 1) fine
  pub stays : is_none refusal ≡ false → t.refusal ≡ refusal

or_stays : (a b : Option Refusal) → is_none a ≡ false → option_or a b ≡ a
or_stays None b n = absurd cc
or_stays (Some why) b n = refl

judged_tells : (i : ℕ) (why : Option Refusal) (s : State) → Judged i s.refusal s.fine (judged i why s)
unfolding judged
judged_tells i why s = record { counts = refl; stays = or_stays s.refusal why }

origin_judged : (r : Result ℕ Refusal) (i to : ℕ) (s : State) → Judged i s.refusal s.fine (origin_from r i to s)
unfolding origin_from
origin_judged (Ok count) i to s = judged_tells i None (moved to count s)
origin_judged (Err why) i to s = judged_tells i (Some why) s

advanced_judged : (ts : List ℕ) (i : ℕ) (e : Effect) (s : State) → Judged i s.refusal s.fine (advanced_state ts i e s)
unfolding advanced_state
advanced_judged ts i e s = go e.to
  where
    go : (to : Option ℕ) → Judged i s.refusal s.fine (advanced_by to ts i e s)
    go None = judged_tells i e.refusal (grown e s)
    go (Some to) = origin_judged (added_to ts s.count to) i to s

step_judged : (src : Source) (i : ℕ) (w : Walk) → Judged i w.state.refusal w.state.fine (step_of src i w).state
unfolding step_of done_of resize_of advance_of mark_of marked_state sized_state
step_judged src i w =
    let e = effect_in src (mark_of src.list i w).labels i w.state in
    let other = not (eqb (get_or w.sizes i 0) e.size) in
    let address = not (eqb (get_or w.labels (cell_of src.list i) 0) (here_of w.state)) in
    by_pick (λ (x : State). Judged i w.state.refusal w.state.fine (advanced_state w.starts i e (touched other x)))
    (marks_of src.list i)
    (advanced_judged w.starts i e (touched other (touched address w.state)))
    (advanced_judged w.starts i e (touched other w.state))

module _ (src : Source) where
  -- once a statement is refused, the rest of the walk changes neither
  refused_stays :
      (n i : ℕ) (w : Walk) → is_none w.state.refusal ≡ false →
      ((walk_of src n i w).state.refusal ≡ w.state.refusal) × ((walk_of src n i w).state.fine ≡ w.state.fine)
  unfolding walk_of
  refused_stays zero i w h = (refl, refl)
  refused_stays (suc n) i w h =
      let j = step_judged src i w in
      let r = j.stays h in
      let n' : is_none (step_of src i w).state.refusal ≡ false = rw r h in
      let more = refused_stays n (i + 1) (step_of src i w) n' in
      (more.0 ∙ r, more.1 ∙ j.counts ∙ pick_false (i + 1) w.state.fine n')

  -- a walk, cut after k statements
  walk_cut : (k n i : ℕ) (w : Walk) → k ≤ n → walk_of src n i w ≡ walk_of src (n - k) (i + k) (walk_of src k i w)
  unfolding walk_of
  walk_cut zero n i w b =
      let z : n - 0 ≡ n = omega arith in
      let y : i + 0 ≡ i = omega arith in
      rw (z, y)
  walk_cut (suc k) zero i w b = absurd (omega arith)
  walk_cut (suc k) (suc n) i w b =
      let z : suc n - suc k ≡ n - k = omega arith in
      let y : i + suc k ≡ (i + 1) + k = omega arith in
      rw (z, y) (walk_cut k n (i + 1) (step_of src i w) (le_of_suc-le-suc b))

  module _ (ls zs : List ℕ) where
    abbrev state_at : ℕ → State
    state_at i = (walk_to src ls zs i).state

    next_judged : (i : ℕ) → Judged i (state_at i).refusal (state_at i).fine (state_at (i + 1))
    next_judged i =
        subst (λ (v : Walk). Judged i (state_at i).refusal (state_at i).fine v.state) (sym (pass_next src ls zs i))
        (step_judged src i (walk_to src ls zs i))

    -- no more are fine than were walked
    pub fine_most : (i : ℕ) → (state_at i).fine ≤ i
    unfolding walk_to walk_of
    fine_most zero = omega arith
    fine_most (suc i) =
        let one : suc i ≡ i + 1 = omega arith in
        let j = next_judged i in
        let m = fine_most i in
        rw (one, j.counts) (by_pick (λ (f : ℕ). f ≤ i + 1) (is_none (state_at (i + 1)).refusal) (omega arith) (omega arith))

    -- and where none is refused all are
    pub fine_all : (i : ℕ) → (state_at i).refusal ≡ None → (state_at i).fine ≡ i
    unfolding walk_to walk_of
    fine_all zero z = refl
    fine_all (suc i) z =
        let one : suc i ≡ i + 1 = omega arith in
        let z' : is_none (state_at (i + 1)).refusal ≡ true = ap is_none (rw one at z) in
        rw one ((next_judged i).counts ∙ pick_true (i + 1) (state_at i).fine z')

    -- the statements before the refused one are not refused
    pub fine_accepted : (i : ℕ) → i < (pass_of src ls zs).state.fine → (state_at (i + 1)).refusal ≡ None
    unfolding walk_to
    fine_accepted i b = from (state_at (i + 1)).refusal refl
      where
        from : (o : Option Refusal) → (state_at (i + 1)).refusal ≡ o → (state_at (i + 1)).refusal ≡ None
        from None e = e
        from (Some why) e =
            let n : is_none (state_at (i + 1)).refusal ≡ false = rw e in
            let rows = rows_of src.list in
            let m = fine_most rows in
            let cut = walk_cut (i + 1) rows 0 (start_of ls zs) (omega arith) in
            let end = (refused_stays (rows - (i + 1)) (0 + (i + 1)) (walk_to src ls zs (i + 1)) n).1 in
            let f = (next_judged i).counts ∙ pick_false (i + 1) (state_at i).fine n in
            let g = ap (λ (v : Walk). v.state.fine) cut ∙ end ∙ f in
            absurd (omega (arith, g, fine_most i))

-- ---- what an accepted statement does
pub record Goes (e : Effect) (s t : State) : Type 0 where
  pub accepted : e.refusal ≡ None
  pub at : t.at ≡ unwrap_or e.to (s.at + e.size)
  pub page : t.page ≡ turned e.turn s.page

first_both : (a b : Option Refusal) → option_or a b ≡ None → b ≡ None
first_both None b z = z
first_both (Some why) b z = absurd cc

origin_goes :
    (r : Result ℕ Refusal) (i to : ℕ) (s : State) → (origin_from r i to s).refusal ≡ None →
    ((origin_from r i to s).at ≡ to) × ((origin_from r i to s).page ≡ s.page)
unfolding origin_from judged
origin_goes (Ok count) i to s z = (refl, refl)
origin_goes (Err why) i to s z = absurd (none-some why (sym (first_both s.refusal (Some why) z)))

advanced_goes :
    (ts : List ℕ) (i : ℕ) (e : Effect) (s : State) → Moving e → (advanced_state ts i e s).refusal ≡ None → Goes e s (advanced_state ts i e s)
unfolding advanced_state judged
advanced_goes ts i e s k z = go e.to refl k z
  where
    go : (to : Option ℕ) → e.to ≡ to → IfSome to (λ _. Plain e) → (advanced_by to ts i e s).refusal ≡ None → Goes e s (advanced_by to ts i e s)
    go None m k z = record { accepted = first_both s.refusal e.refusal z; at = rw m; page = refl }
    go (Some to) m plain z =
        let g = origin_goes (added_to ts s.count to) i to s z in
        record { accepted = plain.accepted; at = rw m g.0; page = rw (g.1, plain.keeping) }

-- statement i of a settled pass, one of those before the refused one: its effect is its own, from the settled labels, and its label is not refused
pub settled_goes :
    (src : Source) (ls zs : List ℕ) → (pass_of src ls zs).state.changed ≡ false → (i : ℕ) → i < (pass_of src ls zs).state.fine →
    let s = (walk_to src ls zs i).state in
    let e = effect_at src.list src.items src.nodes ls i (here_of s) s.page false in
    Goes e s (walk_to src ls zs (i + 1)).state × (s.at + e.size ≤ 65536) × (ill_of src.list i ≡ false)
unfolding effect_in
settled_goes src ls zs h i b =
    let s = (walk_to src ls zs i).state in
    let t = (walk_to src ls zs (i + 1)).state in
    let m = fine_most src ls zs (rows_of src.list) in
    let ill = ill_of src.list i in
    let e = effect_at src.list src.items src.nodes ls i (here_of s) s.page ill in
    let step = settled_effects src ls zs h i (omega arith) in
    let z = ap (λ (x : State). x.refusal) (sym step) ∙ fine_accepted src ls zs i b in
    let c = counted_of s.at e in
    let goes = advanced_goes (walk_to src ls zs i).starts i c s (counted_moving s.at src.list src.items src.nodes ls i (here_of s) s.page ill) z in
    let own = counted_accepted s.at e goes.accepted in
    let well = accepted_well src.list src.items src.nodes ls i (here_of s) s.page ill own.1 in
    let goes_on_lem : Goes c s t = rw step goes in
    let goes_own : Goes e s t = rw own.0 at goes_on_lem in
    subst
    (λ (x : Bool).
    let f = effect_at src.list src.items src.nodes ls i (here_of s) s.page x in
    Goes f s t × (s.at + f.size ≤ 65536) × (ill ≡ false))
    well (goes_own, own.2, well)
