-- The ways that `prepare` and `assemble` end.
-- Assumes nothing.
use mathlib.Core.Path.{◌≡◌, refl, sym, ap, ◌∙◌}
use mathlib.Core.Bool.{Bool, true, false, ◌&&◌}
use mathlib.Core.List.{List, ◌++◌}
use Prim.Native.Nat.{ℕ, ◌/◌, ◌≤◌}
use native.Mathlib.Omega.{arith}
use lib.Dec.{leb}
use lib.ListN.{length, drop}
use borrow.Author.Tests.{ltb-false, leb-true}
use Rattle.std.proofs.Common.{Result, Ok, Err, is_ok}
use Rattle.std.specs.Result.{result_and}
use Rattle.ground.specs.Choice.{pick}
use Rattle.ground.specs.declared.refusals.Refusal.{Refusal}
use Rattle.ground.specs.declared.refusals.Refusal.TheVariants.{NoRoom}
use Rattle.ground.specs.Stores.{put}
use Rattle.ground.proofs.Choices.{by_test}
use Rattle.ground.proofs.Tests.{neither_left, both_first, both_second}
use Rattle.ground.proofs.Stores.{put_front}
use Rattle.values.specs.declared.pages.Page.{Page}
use Rattle.passes.specs.declared.Ended.{Ended}
use Rattle.statements.specs.Listing.{rows_of}
use Rattle.passes.specs.Labels.{laid_over, labels_fit}
use Rattle.passes.specs.Walks.{Source}
use Rattle.passes.specs.Passes.{passed_of, too_many, ended_of, worked_table}
use Rattle.assembly.specs.declared.Plan.{Plan}
use Rattle.assembly.specs.declared.Assembled.{Assembled}
use Rattle.assembly.specs.declared.Stored.{Stored}
use Rattle.assembly.specs.declared.output.Extent.{Extent}
use Rattle.assembly.specs.Objects.{object_built, values_built, address_at, page_at, gather, object_in, values_in, objects_of, values_of}
use Rattle.assembly.specs.Answers.{fitting, accepted_of, assembled_of, stored, labelled}
use Rattle.assembly.specs.Text.{settled_text}
use Rattle.assembly.specs.Steps.{first_place, rows_on, objects_on, values_on, tally_on, no_tally, end_of, extent_of, extent_in, plan_of}
use Rattle.assembly.proofs.Places.{first_place_lem, rows_settled}
use Rattle.assembly.proofs.Settled.{length_settled, passed_stand, passed_few}

-- what is said beside an answer
pub and_ok : {A : Type 0} (r : Result ℕ Refusal) (e x : A) → result_and r (Ok e) ≡ Ok x → (is_ok r ≡ true) × (x ≡ e)
and_ok (Ok end) e x h = (refl, cc)
and_ok (Err why) e x h = absurd cc

pub and_err : {A : Type 0} (r : Result ℕ Refusal) (e : A) (why : Refusal) → result_and r (Ok e) ≡ Err why → r ≡ Err why
and_err (Ok end) e why h = absurd cc
and_err (Err other) e why h = cc

pub and_is : {A : Type 0} (r : Result ℕ Refusal) (s : Result A Refusal) → is_ok r ≡ true → result_and r s ≡ s
and_is (Ok end) s h = refl
and_is (Err why) s h = absurd cc

module _ (src : Source) (ls : List ℕ) where
  abbrev many : Bool
  many = too_many src.list src.nodes

  -- ---- what is put out
  rows_few : many ≡ false → rows_of src.list ≤ 1024
  unfolding too_many
  rows_few q = ltb-false 1024 (rows_of src.list) (neither_left _ _ q)

  fine_from : (b : Bool) → many ≡ b → (ended_of src ls).fine ≤ 1024
  unfolding ended_of pick
  fine_from true q = rw q (omega arith)
  fine_from false q = rw q (omega (arith, passed_few src ls, rows_few q))

  -- never more than the statements that are allowed
  pub fine_few : (ended_of src ls).fine ≤ 1024
  fine_few = fine_from many refl

  module _ (t : List ℕ) where
    rows_from_lem :
        (f : ℕ → ℕ → Page → List ℕ) (b : Bool) → many ≡ b →
        rows_on src (worked_table src ls t) f (ended_of src ls).fine 0 first_place
        ≡ gather (λ k. f k (address_at src (passed_of src ls) k) (page_at src (passed_of src ls) k)) (ended_of src ls).fine 0
    unfolding ended_of worked_table rows_on gather pick
    rows_from_lem f true q = rw q
    rows_from_lem f false q =
        let o = passed_of src ls in
        rw q
        (ap (rows_on src o.table f o.answer.fine 0) (sym (first_place_lem src o))
        ∙ rows_settled src o o.answer.fine (passed_stand src ls) f o.answer.fine 0 (omega arith))

    worked_from : (b : Bool) → many ≡ b → (f : List ℕ → ℕ → ℕ → Page → List ℕ) →
        rows_on src (worked_table src ls t) (f (worked_table src ls t)) (ended_of src ls).fine 0 first_place
        ≡ rows_on src (worked_table src ls t) (f (passed_of src ls).table) (ended_of src ls).fine 0 first_place
    unfolding ended_of worked_table rows_on pick
    worked_from true q f = rw q
    worked_from false q f = rw q

    -- the walk over the worked tables puts out the objects of the settled pass
    pub rows_put : objects_on src (worked_table src ls t) (ended_of src ls).fine 0 first_place ≡ objects_of src ls
    unfolding objects_of object_in
    rows_put = worked_from many refl (object_built src) ∙ rows_from_lem (object_built src (passed_of src ls).table) many refl

    pub values_put : values_on src (worked_table src ls t) (ended_of src ls).fine 0 first_place ≡ values_of src ls
    unfolding values_of values_in
    values_put = worked_from many refl (values_built src) ∙ rows_from_lem (values_built src (passed_of src ls).table) many refl

    length_from_lem : (b : Bool) → many ≡ b → end_of (tally_on src (worked_table src ls t) (ended_of src ls).fine 0 first_place no_tally) ≡ length (settled_text src ls)
    unfolding ended_of worked_table settled_text objects_of values_of tally_on pick
    length_from_lem true q = rw q (length_settled src (passed_of src ls) 0 (λ i h. absurd (omega arith)))
    length_from_lem false q = rw q (length_settled src (passed_of src ls) (passed_of src ls).answer.fine (passed_stand src ls))

    -- and measures their text
    pub length_put : end_of (tally_on src (worked_table src ls t) (ended_of src ls).fine 0 first_place no_tally) ≡ length (settled_text src ls)
    length_put = length_from_lem many refl

    pub extent_put :
        extent_of src (worked_table src ls t) (ended_of src ls).fine
        ≡ record { objects = length (objects_of src ls); values = length (values_of src ls); length = length (settled_text src ls) }
    unfolding extent_of
    extent_put = rw (rows_put, values_put, length_put)

  -- ---- `prepare`
  module _
      (objects values : ℕ) (r : Ended) (x : Extent) (t t₀ : List ℕ) (fit : Bool) (n : ℕ)
      (p : r ≡ ended_of src ls) (q : t ≡ worked_table src ls t₀) (e : x ≡ extent_of src t r.fine)
      (f : fit ≡ labels_fit src.list (length ls) n) (before : n ≡ r.fine)
    where
      extent_is : x ≡ extent_in src ls
      unfolding extent_in
      extent_is = e ∙ rw (q, p) (extent_put t₀)

      fitting_is : (leb x.objects objects && (leb x.values values && fit)) ≡ fitting src ls objects values
      unfolding fitting extent_in
      fitting_is = rw (extent_is, f, before, p)

      pub plan_fits :
          (leb x.objects objects && (leb x.values values && fit)) ≡ true →
          record { passes = r.passes; fine = r.fine; extent = result_and r.end (Ok x) } ≡ plan_of src ls objects values
      unfolding plan_of accepted_of pick
      plan_fits b = rw (sym fitting_is ∙ b, extent_is, p)

      pub plan_short :
          (leb x.objects objects && (leb x.values values && fit)) ≡ false →
          record { passes = r.passes; fine = r.fine; extent = Err NoRoom } ≡ plan_of src ls objects values
      unfolding plan_of accepted_of pick
      plan_short b = rw (sym fitting_is ∙ b, p)

  -- ---- what is accepted fits, and has settled
  module _ (objects values : ℕ) (z : is_ok (accepted_of src ls objects values) ≡ true) where
    accepted_both : (fitting src ls objects values ≡ true) × (is_ok (ended_of src ls).end ≡ true)
    unfolding accepted_of
    accepted_both =
        by_test (λ (r : Result ℕ Refusal). is_ok r ≡ true → (fitting src ls objects values ≡ true) × (is_ok (ended_of src ls).end ≡ true)) (fitting src ls objects values)
        (λ b y. (b, y)) (λ _ y. absurd cc) z

    pub room_objects : length (objects_of src ls) ≤ objects
    unfolding fitting
    room_objects = leb-true _ objects (both_first (leb (length (objects_of src ls)) objects) _ accepted_both.0)

    pub room_values : length (values_of src ls) ≤ values
    unfolding fitting
    room_values =
        let labels = labels_fit src.list (length ls) (ended_of src ls).fine in
        leb-true _ values
        (both_first (leb (length (values_of src ls)) values) labels
        (both_second (leb (length (objects_of src ls)) objects) (leb (length (values_of src ls)) values && labels) accepted_both.0))

    many_from : (b : Bool) → many ≡ b → is_ok (ended_of src ls).end ≡ true → many ≡ false
    unfolding ended_of pick
    many_from true q y = let n : false ≡ true = rw q at y in absurd cc
    many_from false q y = q

    -- there are not too many statements
    pub many_not : many ≡ false
    many_not = many_from many refl accepted_both.1

    pub worked_passed : (t : List ℕ) → worked_table src ls t ≡ (passed_of src ls).table
    unfolding worked_table pick
    worked_passed t = rw many_not

  -- ---- `assemble`
  -- the answer, and the label table, the objects and the values after it
  abbrev pub Answered : Assembled → List ℕ → List ℕ → List ℕ → List ℕ → List ℕ → Type 0
  Answered r ls' os vs os' vs' =
      (r ≡ assembled_of src ls (length os) (length vs))
      × ((ls' ≡ labelled (is_ok (accepted_of src ls (length os) (length vs))) src ls)
      × ((os' ≡ stored (is_ok (accepted_of src ls (length os) (length vs))) (objects_of src ls) os)
      × (vs' ≡ stored (is_ok (accepted_of src ls (length os) (length vs))) (values_of src ls) vs)))

  module _ (os vs : List ℕ) (m : Plan) (p : m ≡ plan_of src ls (length os) (length vs)) where
    abbrev accepted : Result ℕ Refusal
    accepted = accepted_of src ls (length os) (length vs)

    planned : m.extent ≡ result_and accepted (Ok (extent_in src ls))
    unfolding plan_of
    planned = ap (λ (x : Plan). x.extent) p

    pub planned_err : (why : Refusal) → m.extent ≡ Err why → accepted ≡ Err why
    planned_err why n = and_err accepted (extent_in src ls) why (sym planned ∙ n)

    pub refused_answers : (r : Assembled) (why : Refusal) → m.extent ≡ Err why → r ≡ record { passes = m.passes; stored = Err why } → Answered r ls os vs os vs
    unfolding plan_of assembled_of labelled stored pick
    refused_answers r why n e = let q = planned_err why n in (rw q (rw p at e), (rw q, (rw q, rw q)))

    module _ (x : Extent) (z : m.extent ≡ Ok x) (t t₀ : List ℕ) (w : t ≡ worked_table src ls t₀) where
      both : (is_ok accepted ≡ true) × (x ≡ extent_in src ls)
      both = and_ok accepted (extent_in src ls) x (sym planned ∙ z)

      pub stored_objects :
          (os' : List ℕ) → os' ≡ put os 0 (objects_on src t m.fine 0 first_place) →
          os' ≡ objects_of src ls ++ drop (length (objects_of src ls)) os
      unfolding plan_of
      stored_objects os' e =
          e ∙ rw (w, p, rows_put t₀) (put_front os (objects_of src ls) (room_objects (length os) (length vs) both.0))

      pub stored_values :
          (vs' : List ℕ) → vs' ≡ put vs 0 (values_on src t m.fine 0 first_place) →
          vs' ≡ values_of src ls ++ drop (length (values_of src ls)) vs
      unfolding plan_of
      stored_values vs' e =
          e ∙ rw (w, p, values_put t₀) (put_front vs (values_of src ls) (room_values (length os) (length vs) both.0))

      pub stored_labels : (ls' : List ℕ) → ls' ≡ laid_over t ls → ls' ≡ laid_over (passed_of src ls).table ls
      stored_labels ls' e = e ∙ ap (λ (x : List ℕ). laid_over x ls) (w ∙ worked_passed (length os) (length vs) both.0 t₀)

      pub stored_answers :
          (r : Assembled) (ls' os' vs' : List ℕ) → ls' ≡ laid_over t ls →
          os' ≡ put os 0 (objects_on src t m.fine 0 first_place) → vs' ≡ put vs 0 (values_on src t m.fine 0 first_place) →
          r ≡ record { passes = m.passes; stored = Ok (record { objects = x.objects / 3; values = x.values / 2 }) } →
          Answered r ls' os vs os' vs'
      unfolding plan_of extent_in assembled_of labelled stored pick
      stored_answers r ls' os' vs' l o v e =
          let f = rw (p, both.1) at e in (
            f ∙ ap (λ (x : Result Stored Refusal). record { passes = (ended_of src ls).passes; stored = x }) (sym (and_is accepted _ both.0)),
            (rw both.0 (stored_labels ls' l), (rw both.0 (stored_objects os' o), rw both.0 (stored_values vs' v))),
          )
