-- The ways that `hex` ends.
-- Assumes nothing.
use mathlib.Core.Path.{◌≡◌, refl, sym, ap, ◌∙◌}
use mathlib.Core.List.{List}
use Prim.Native.Nat.{ℕ, ◌≤◌}
use native.Mathlib.Omega.{arith}
use lib.ListN.{length, take}
use lib.Seq.{take_at}
use borrow.Author.Tests.{ltb-false}
use mathlib.Core.Bool.{Bool, true, false}
use lib.Dec.{ltb}
use Rattle.std.proofs.Common.{Result, Ok, Err, is_ok}
use Rattle.std.specs.Result.{result_and}
use Rattle.ground.specs.Choice.{pick}
use Rattle.ground.specs.declared.refusals.Refusal.{Refusal}
use Rattle.ground.specs.declared.refusals.Refusal.TheVariants.{NoRoom}
use Rattle.ground.specs.Stores.{put}
use Rattle.ground.proofs.Stores.{put_length}
use Rattle.expressions.specs.Numbers.{Cells, Short}
use Rattle.records.specs.Written.{buffer_of}
use Rattle.passes.specs.Labels.{laid_over}
use Rattle.passes.specs.Walks.{Source}
use Rattle.passes.specs.Passes.{worked_table}
use Rattle.assembly.specs.declared.Plan.{Plan}
use Rattle.assembly.specs.declared.output.Extent.{Extent}
use Rattle.assembly.specs.declared.Hexed.{Hexed}
use Rattle.assembly.specs.Objects.{objects_of, values_of}
use Rattle.assembly.specs.Answers.{accepted_of, stored, labelled}
use Rattle.assembly.specs.Text.{settled_text, hex_length, hexed_of}
use Rattle.assembly.specs.Steps.{first_place, objects_on, values_on, extent_in, plan_of, roomy}
use Rattle.assembly.proofs.Lawful.{text_stored}
use Rattle.assembly.proofs.Endings.{and_ok, room_objects, room_values, stored_objects, stored_values, stored_labels}

-- whether there is room, beside what is accepted
roomy_err :
    (room : ℕ) (r : Result ℕ Refusal) (e : Extent) (why : Refusal) → roomy room (result_and r (Ok e)) ≡ Err why →
    result_and r (pick (ltb room e.length) (Err NoRoom) (Ok e.length)) ≡ Err why
unfolding roomy pick
roomy_err room (Err other) e why = λ h. cc
roomy_err room (Ok end) e why = from (ltb room e.length)
  where
    from : (t : Bool) → pick t (Err NoRoom) (Ok e) ≡ Err why → ◌≡◌ {A = Result ℕ Refusal} (pick t (Err NoRoom) (Ok e.length)) (Err why)
    from true = λ h. cc
    from false = λ h. absurd cc

roomy_ok :
    (room : ℕ) (r : Result ℕ Refusal) (e x : Extent) → roomy room (result_and r (Ok e)) ≡ Ok x →
    (result_and r (Ok e) ≡ Ok x) × ((x.length ≤ room) × (result_and r (pick (ltb room e.length) (Err NoRoom) (Ok e.length)) ≡ Ok x.length))
unfolding roomy pick
roomy_ok room (Err other) e x = λ h. absurd cc
roomy_ok room (Ok end) e x = from (ltb room e.length) refl
  where
    from :
        (t : Bool) → ltb room e.length ≡ t → pick {A = Result Extent Refusal} t (Err NoRoom) (Ok e) ≡ Ok x →
        (◌≡◌ {A = Result Extent Refusal} (Ok e) (Ok x)) × ((x.length ≤ room) × (pick {A = Result ℕ Refusal} t (Err NoRoom) (Ok e.length) ≡ Ok x.length))
    from true q = λ h. absurd cc
    from false q = λ h. let same : e ≡ x = cc in rw (← same) (refl, (ltb-false room e.length q, refl))

module _ (src : Source) (ls os vs out : List ℕ) where
  abbrev accepted : Result ℕ Refusal
  accepted = accepted_of src ls (length os) (length vs)

  abbrev last : Result ℕ Refusal
  last = hex_length src ls (length os) (length vs) (length out)

  -- the answer, and everything lent after it
  abbrev pub Answered : Hexed → List ℕ → List ℕ → List ℕ → List ℕ → Type 0
  Answered r ls' os' vs' out' =
      (r ≡ hexed_of src ls (length os) (length vs) (length out))
      × ((ls' ≡ labelled (is_ok (hex_length src ls (length os) (length vs) (length out))) src ls)
      × ((os' ≡ stored (is_ok (hex_length src ls (length os) (length vs) (length out))) (objects_of src ls) os)
      × ((vs' ≡ stored (is_ok (hex_length src ls (length os) (length vs) (length out))) (values_of src ls) vs)
      × (out' ≡ stored (is_ok (hex_length src ls (length os) (length vs) (length out))) (settled_text src ls) out))))

  module _ (m : Plan) (p : m ≡ plan_of src ls (length os) (length vs)) where
    roomed : roomy (length out) m.extent ≡ roomy (length out) (result_and accepted (Ok (extent_in src ls)))
    unfolding plan_of
    roomed = ap (λ (x : Plan). roomy (length out) x.extent) p

    -- a refusal leaves everything
    pub refused_answers :
        (r : Hexed) (why : Refusal) → roomy (length out) m.extent ≡ Err why → r ≡ record { passes = m.passes; length = Err why } →
        Answered r ls os vs out
    unfolding hexed_of hex_length labelled stored plan_of extent_in pick
    refused_answers r why n e =
        let q = roomy_err (length out) accepted (extent_in src ls) why (sym roomed ∙ n) in
        (rw q (rw p at e), (rw q, (rw q, (rw q, rw q))))

    module _ (x : Extent) (n : roomy (length out) m.extent ≡ Ok x) where
      fits_lem :
          (result_and accepted (Ok (extent_in src ls)) ≡ Ok x)
          × ((x.length ≤ length out)
          × (result_and accepted (pick (ltb (length out) (extent_in src ls).length) (Err NoRoom) (Ok (extent_in src ls).length)) ≡ Ok x.length))
      fits_lem = roomy_ok (length out) accepted (extent_in src ls) x (sym roomed ∙ n)

      both : (is_ok accepted ≡ true) × (x ≡ extent_in src ls)
      both = and_ok accepted (extent_in src ls) x fits_lem.0

      planned : m.extent ≡ Ok x
      unfolding plan_of
      planned = ap (λ (y : Plan). y.extent) p ∙ fits_lem.0

      written : last ≡ Ok x.length
      unfolding hex_length extent_in
      written = fits_lem.1.1

      module _ (t t₀ : List ℕ) (w : t ≡ worked_table src ls t₀) where
        pub rows_there : (os' : List ℕ) → os' ≡ put os 0 (objects_on src t m.fine 0 first_place) → x.objects ≤ length os'
        unfolding extent_in
        rows_there os' e =
            omega (arith, ap (λ (y : Extent). y.objects) both.1, room_objects src ls (length os) (length vs) both.0, ap length e, put_length os 0 (objects_on src t m.fine 0 first_place))

        pub values_there : (vs' : List ℕ) → vs' ≡ put vs 0 (values_on src t m.fine 0 first_place) → x.values ≤ length vs'
        unfolding extent_in
        values_there vs' e =
            omega (arith, ap (λ (y : Extent). y.values) both.1, room_values src ls (length os) (length vs) both.0, ap length e, put_length vs 0 (values_on src t m.fine 0 first_place))

        pub written_answers :
            (r : Hexed) (ls' os' vs' out' : List ℕ) → Cells Short src.nodes → Cells Short ls → ls' ≡ laid_over t ls →
            os' ≡ put os 0 (objects_on src t m.fine 0 first_place) → vs' ≡ put vs 0 (values_on src t m.fine 0 first_place) →
            out' ≡ buffer_of (take x.objects os') (take x.values vs') out →
            r ≡ record { passes = m.passes; length = Ok x.length } →
            Answered r ls' os' vs' out'
        unfolding hexed_of labelled stored plan_of extent_in pick
        written_answers r ls' os' vs' out' nf tf l o v b e =
            let objects = stored_objects src ls os vs m p x planned t t₀ w os' o in
            let values = stored_values src ls os vs m p x planned t t₀ w vs' v in
            let front : take x.objects os' ≡ objects_of src ls =
            rw objects (take_at (objects_of src ls) _ x.objects (sym (ap (λ (y : Extent). y.objects) both.1))) in
            let numbers : take x.values vs' ≡ values_of src ls =
            rw values (take_at (values_of src ls) _ x.values (sym (ap (λ (y : Extent). y.values) both.1))) in
            let room : length (settled_text src ls) ≤ length out = omega (arith, ap (λ (y : Extent). y.length) both.1, fits_lem.1.0) in (
              rw written (rw p at e),
              (
                rw written (stored_labels src ls os vs m p x planned t t₀ w ls' l),
                (
                  rw written objects,
                  (
                    rw written values,
                    rw written
                        (b ∙ ap (λ (y : List ℕ). buffer_of y (take x.values vs') out) front
                        ∙ ap (λ (y : List ℕ). buffer_of (objects_of src ls) y out) numbers
                        ∙ text_stored src ls nf tf out room),
                  ),
                ),
              ),
            )
