-- A list and a run from one address, side by side: what agreed so far, and what is left of both from one place on, are the whole of both.
-- Assumes nothing.
use borrow.Author.Tests.{eqb-true, eqb-false, leb-true, leb-false}
use mathlib.Core.Path.{◌≡◌, refl, sym, ap, ◌∙◌}
use mathlib.Core.Bool.{Bool, true, false}
use mathlib.Core.List.{List, [], ◌∷◌}
use Prim.Native.Nat.{ℕ, suc, ◌+◌, ◌-◌, ◌*◌, ◌%◌, ◌≤◌, ◌<◌}
use native.Mathlib.Nat.{add-zero, sub-zero}
use native.Mathlib.Omega.{arith}
use lib.Dec.{eqb, leb}
use lib.ListN.{length, drop, length-drop}
use Rattle.std.specs.Prelude.{Ok, Err}
use Rattle.ground.specs.Choice.{pick}
use Rattle.ground.proofs.Choices.{pick_true, pick_false}
use Rattle.decoder.specs.declared.Origin.{Origin}
use Rattle.decoder.specs.declared.Decoded.{Decoded}
use Rattle.decoder.specs.Origin.{shifted, outside}
use Rattle.decoder.specs.Meaning.{Answer}
use Rattle.decoder.specs.Front.{front_of}
use Rattle.decoder.specs.Run.{run_of, next_of}
use Rattle.decoder.proofs.Origins.{inside}
use Rattle.decoder.proofs.Runs.{accepted_size, run_at, next_refused, next_none, run_start, run_next}
use Rattle.instruction.specs.declared.Record.{Record}
use Rattle.laying.specs.Entries.{rows_in, entry_at, entries_from, entries_of}
use Rattle.laying.specs.Laying.{built_at}
use Rattle.laying.specs.Meant.{meanings_from}
use Rattle.laying.proofs.Turns.{entries_next, entries_done}
use Rattle.laying.proofs.Decodes.{read_length}
use Rattle.roundtrip.specs.Same.{same, agreed, all_agree}
use Rattle.roundtrip.specs.Comparing.{answer}
use Rattle.roundtrip.specs.Steps.{meant_at, agreement}
use Rattle.roundtrip.proofs.Same.{same_equal, same_itself}

-- ---- the instruction at a place of a run, and the run from there on
module _ (l : List ℕ) (from : Origin) (at : ℕ) (q : outside l from ≡ false) where
  front_there : front_of (drop at l) (shifted from at) ≡ next_of l from at
  unfolding next_of pick
  front_there = rw q

  -- it is the first of the run there, where there is one
  heads : at < length l → (P : List Answer → Type 0) → ((ds : List Answer) → P (next_of l from at ∷ ds)) → P (run_at l from at)
  heads h P f = by (next_of l from at) refl
    where
      by : (x : Answer) → next_of l from at ≡ x → P (run_at l from at)
      by (Ok d) e = rw (run_next l from at d q e, ← e) (f _)
      by (Err r) e = rw (next_refused l from at r (front_there ∙ e) h, ← e) (f [])

  next_sized : (d : Decoded) → at ≤ length l → next_of l from at ≡ Ok d → (1 ≤ d.length) × (at + d.length ≤ length l)
  next_sized d h z =
      let s = accepted_size (drop at l) (shifted from at) d (front_there ∙ z) in
      (s.0, omega (arith, length-drop at l))

-- ---- side by side
-- the rows that are left after so many
abbrev left_of : List ℕ → ℕ → List Record
left_of list place = entries_from (rows_in list - place) list (place * 21)

pub record Agreeing (list theirs : List ℕ) (from : Origin) (at place : ℕ) : Type 0 where
  pub rows : place ≤ rows_in list
  pub other : at ≤ length theirs
  pub total :
      agreed (meanings_from (entries_of list) from.address) (run_of theirs from)
      ≡ place + agreed (meanings_from (left_of list place) (from.address + at)) (run_at theirs from at)
  pub whole :
      all_agree (meanings_from (entries_of list) from.address) (run_of theirs from)
      ≡ all_agree (meanings_from (left_of list place) (from.address + at)) (run_at theirs from at)

module _ (list theirs : List ℕ) (from : Origin) (small : from.address < 65536) (q : outside theirs from ≡ false) where
  abbrev means : List Decoded
  means = meanings_from (entries_of list) from.address

  pub agreeing_first : Agreeing list theirs from 0 0
  unfolding entries_of
  agreeing_first =
      let r = run_start theirs from small q in
      record {
        rows = omega arith;
        other = omega arith;
        total = rw (r, sub-zero, add-zero) (omega arith);
        whole = rw (r, sub-zero, add-zero) refl;
      }

  -- every place of the run is an address, and every row stands in the list
  pub agreeing_near : {at place : ℕ} → Agreeing list theirs from at place → (from.address + at ≤ 65536) × (place * 21 ≤ length list)
  unfolding rows_in
  agreeing_near a = (omega (arith, a.other, inside theirs from q), omega (arith, a.rows))

  module _ (at place : ℕ) (a : Agreeing list theirs from at place) where
    module _ (h : place < rows_in list) (m : Decoded) (o : Answer) (e : m ≡ meant_at list (place * 21) (from.address + at)) (f : o ≡ next_of theirs from at) where
      mine_first : meanings_from (left_of list place) (from.address + at) ≡ m ∷ meanings_from (left_of list (place + 1)) (from.address + (at + m.length))
      unfolding meanings_from
      mine_first =
          let left = rows_in list - place in
          let next : entries_from (left - 1) list (place * 21 + 21) ≡ left_of list (place + 1) =
          ap (λ (n : ℕ). entries_from n list (place * 21 + 21)) (omega arith) ∙ ap (entries_from (rows_in list - (place + 1)) list) (omega arith) in
          let entry = entry_at list (place * 21) in
          ap (λ (es : List Record). meanings_from es (from.address + at)) (entries_next left list (place * 21) (omega arith))
          ∙ ap (λ (n : ℕ). meant_at list (place * 21) (from.address + at) ∷ meanings_from (entries_from (left - 1) list (place * 21 + 21)) (from.address + at + n))
          (sym (read_length entry.values ((from.address + at) % 65536) (built_at entry (from.address + at))))
          ∙ ap (λ (d : Decoded). d ∷ meanings_from (entries_from (left - 1) list (place * 21 + 21)) (from.address + at + d.length)) (sym e)
          ∙ ap (λ (es : List Record). m ∷ meanings_from es (from.address + at + m.length)) next
          ∙ ap (λ (n : ℕ). m ∷ meanings_from (left_of list (place + 1)) n) (omega arith)

      -- both are the same, and both go on behind them
      pub agreeing_more : same m o ≡ true → Agreeing list theirs from (at + m.length) (place + 1)
      agreeing_more t =
          let n : next_of theirs from at ≡ Ok m = sym f ∙ same_equal m o t in
          let other_first = run_next theirs from at m q n in
          let u = next_sized theirs from at q m a.other n in
          let itself = same_itself m in
          let later = meanings_from (left_of list (place + 1)) (from.address + (at + m.length)) in
          let one : agreed (meanings_from (left_of list place) (from.address + at)) (run_at theirs from at) ≡ suc (agreed later (run_at theirs from (at + m.length))) =
          rw (mine_first, other_first) (pick_true _ _ itself) in
          let all : all_agree (meanings_from (left_of list place) (from.address + at)) (run_at theirs from at) ≡ all_agree later (run_at theirs from (at + m.length)) =
          rw (mine_first, other_first, itself) refl in
          record {
            rows = omega arith;
            other = omega arith;
            total = omega (arith, a.total);
            whole = a.whole ∙ all;
          }

      -- or they differ, or the run has ended
      pub agreeing_differs : same m o ≡ false → answer false place ≡ agreement means (run_of theirs from)
      agreeing_differs t =
          let mine = meanings_from (left_of list place) (from.address + at) in
          let Apart : List Answer → Type 0 = λ ds. (agreed mine ds ≡ 0) × (all_agree mine ds ≡ false) in
          let apart : Apart (run_at theirs from at) = by Apart (leb (length theirs) at) refl (rw mine_first (refl, refl)) (λ ds. rw (mine_first, ← f, t) (pick_false _ _ refl, refl)) in
          let b : agreed means (run_of theirs from) ≡ place = a.total ∙ omega (arith, apart.0) in
          let c : all_agree means (run_of theirs from) ≡ false = a.whole ∙ apart.1 in
          rw (b, c)
        where
          by :
              (P : List Answer → Type 0) (t : Bool) → leb (length theirs) at ≡ t → P [] → ((ds : List Answer) → P (next_of theirs from at ∷ ds))
              → P (run_at theirs from at)
          by P true u x y = rw (next_none theirs from at (leb-true (length theirs) at u)) x
          by P false u x y = heads theirs from at q (leb-false (length theirs) at u) P y

    -- no row is left: then all agree where nothing of the run is
    pub agreeing_end : rows_in list ≤ place → answer (eqb at (length theirs)) (rows_in list) ≡ agreement means (run_of theirs from)
    unfolding meanings_from
    agreeing_end h =
        let e : meanings_from (left_of list place) (from.address + at) ≡ [] =
        ap (λ (es : List Record). meanings_from es (from.address + at)) (entries_done (rows_in list - place) list (place * 21) (omega arith)) in
        let b : agreed means (run_of theirs from) ≡ rows_in list = a.total ∙ rw e (omega (arith, h, a.rows)) in
        let c : all_agree means (run_of theirs from) ≡ eqb at (length theirs) = a.whole ∙ rw e (last (eqb at (length theirs)) refl) in
        rw (b, c)
      where
        last : (t : Bool) → eqb at (length theirs) ≡ t → all_agree [] (run_at theirs from at) ≡ t
        last true t =
            let g = eqb-true at (length theirs) t in
            rw (next_none theirs from at (omega arith)) refl
        last false t =
            let g = eqb-false at (length theirs) t in
            heads theirs from at q (omega (arith, a.other)) (λ (ds : List Answer). all_agree [] ds ≡ false) (λ ds. refl)
