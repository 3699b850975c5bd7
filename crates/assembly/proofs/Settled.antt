-- The settled pass and the walk that puts out its objects: rows, values and the length of the text are the same.
-- Assumes nothing.
use mathlib.Core.Path.{◌≡◌, refl, sym, ap, ◌∙◌}
use mathlib.Core.Bool.{false}
use mathlib.Core.List.{List, []}
use mathlib.Core.Logic.{inl, inr, ⊎_elim}
use Prim.Native.Nat.{ℕ, zero, suc, ◌+◌, ◌%◌, ◌≤◌, ◌<◌}
use native.Mathlib.Omega.{arith}
use lib.ListN.{length, replicate}
use Rattle.records.specs.Objects.{objects_of}
use Rattle.records.specs.Text.{events, recs, text_of}
use Rattle.statements.specs.Objects.{count_in}
use Rattle.statements.proofs.Lengths.{values_length}
use Rattle.statements.proofs.Sizes.{sizes}
use Rattle.passes.specs.declared.Ended.{Ended}
use Rattle.statements.specs.Listing.{rows_of}
use Rattle.passes.specs.Labels.{begun_table}
use Rattle.passes.specs.Walks.{Source}
use Rattle.passes.specs.Passes.{Outcome, pass_of, answer_of, most_passes, passed_of}
use Rattle.passes.proofs.Fine.{fine_most}
use Rattle.passes.proofs.Rests.{Rests, Ends, settle_rests}
use Rattle.assembly.specs.declared.output.Place.{Place}
use Rattle.assembly.specs.declared.tally.Tally.{Tally}
use Rattle.assembly.specs.Objects.{kind_at, values_built, stands_at, object_built, address_at, page_at, object_in, values_in, gather, objects_from, values_from}
use Rattle.assembly.specs.Steps.{first_place, tallied, tally_on, no_tally, end_of}
use Rattle.assembly.proofs.Valued.{values_kinds}
use Rattle.assembly.proofs.Standing.{with_data_stays}
use Rattle.assembly.proofs.Places.{place, first_place_lem, own, Stands, stands, done_own, place_next}
use Rattle.assembly.proofs.Tallies.{tallied_short}
use Rattle.assembly.proofs.Texts.{ahead, ahead_end, text_length}
use Rattle.assembly.proofs.Rows.{Shape, shape_ahead}

module _ (src : Source) (o : Outcome) where
  -- the object of a statement that is not refused
  pub stands_shape :
      (i : ℕ) → Stands src o i →
      Shape (kind_at src.list i) (address_at src o i % 65536) (stands_at (own src o i) (address_at src o i % 65536)) (count_in (values_in src o i))
      (own src o i).size (object_in src o i) (values_in src o i)
  unfolding object_in object_built values_in values_built
  stands_shape i s =
      let here = address_at src o i % 65536 in
      let page = page_at src o i in
      record {
        says = refl;
        own = with_data_stays src.list src.items src.nodes o.table i here page false;
        long = values_length src.list src.items src.nodes o.table i here page;
        near = omega (arith, s.near);
        shown =
            ⊎_elim
            (λ one. inl (one, sizes src.list src.items src.nodes o.table i here page false one s.accepted))
            (λ other. inr other)
            (values_kinds src.list src.items src.nodes o.table i here page);
      }

  module _ (fine : ℕ) (all : (i : ℕ) → i < fine → Stands src o i) where
    tally_settled :
        (n i : ℕ) (t : Tally) → t.held < 32 → i + n ≤ fine →
        ahead t (events (objects_of (objects_from src o n i) (values_from src o n i))) ≡ end_of (tally_on src o.table n i (place src o i) t)
    unfolding gather tally_on
    tally_settled zero i t h l = ahead_end t
    tally_settled (suc n) i t h l =
        let s = all i (omega arith) in
        let shape = stands_shape i s in
        let u = tallied (kind_at src.list i) (address_at src o i % 65536) (own src o i).size t in
        shape_ahead _ _ _ _ _ _ _ shape (objects_from src o n (i + 1)) (values_from src o n (i + 1)) t h
        ∙ tally_settled n (i + 1) u (tallied_short _ _ _ t h (omega (arith, shape.near))).0 (omega arith)
        ∙ rw (place_next src o i s, done_own src o i s)

    pub length_settled :
        end_of (tally_on src o.table fine 0 first_place no_tally) ≡ length (text_of (objects_from src o fine 0) (values_from src o fine 0))
    unfolding text_of recs
    length_settled =
        let es = events (objects_of (objects_from src o fine 0) (values_from src o fine 0)) in
        ap (λ (p : Place). end_of (tally_on src o.table fine 0 p no_tally)) (sym (first_place_lem src o))
        ∙ sym (tally_settled fine 0 no_tally (omega arith) (omega arith))
        ∙ omega arith
        ∙ sym (text_length 0 [] es (omega arith))

-- ---- what the passes left: no statement is put out, or they settled
module _ (src : Source) (ls : List ℕ) where
  abbrev passed : Outcome
  passed = passed_of src ls

  -- the tables were never settled, or are those of a settled pass
  ends : Ends src (0 + most_passes) passed
  unfolding passed_of
  ends = settle_rests src most_passes 0 (begun_table src.list ls) (replicate 1024 0)

  settled_fine : Rests src passed → passed.answer.fine ≡ (pass_of src passed.table passed.sizes).state.fine
  unfolding answer_of
  settled_fine r =
      ap (λ (e : Ended). e.fine) r.answers

  -- the statements before the refused one stand
  pub passed_stand : (i : ℕ) → i < passed.answer.fine → Stands src passed i
  passed_stand i h =
      ⊎_elim
      (λ e. absurd (omega (arith, ap (λ (x : Ended). x.fine) e)))
      (λ r. stands src passed r.still i (omega (arith, settled_fine r)))
      ends

  -- and are no more than there are
  pub passed_few : passed.answer.fine ≤ rows_of src.list
  passed_few =
      ⊎_elim
      (λ e. omega (arith, ap (λ (x : Ended). x.fine) e))
      (λ r. omega (arith, settled_fine r, fine_most src passed.table passed.sizes (rows_of src.list)))
      ends
