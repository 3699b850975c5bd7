-- The table of segments: its starts are what follows its first cell.
-- Assumes nothing.
use mathlib.Core.Path.{◌≡◌, refl, sym, ap, ◌∙◌}
use mathlib.Core.Bool.{Bool, true, false}
use mathlib.Core.List.{List, [], ◌∷◌, append-nil}
use Prim.Native.Nat.{ℕ, ◌-◌, ◌<◌}
use native.Mathlib.Omega.{arith}
use borrow.Rule.Slice.PartMut.{put_mid}
use lib.Dec.{eqb}
use lib.ListN.{length, take, drop, get_or, set, drop_of_length-le}
use lib.Seq.{take_all}
use Rattle.ground.specs.Choice.{pick}
use Rattle.ground.specs.Refusals.{unknown, number_of}
use Rattle.answers.specs.Said.{said}
use Rattle.answers.proofs.Laws.{Answers, refused, said_as}
use Rattle.std.proofs.Common.{Result, Ok, Err}
use Rattle.ground.specs.declared.refusals.Refusal.{Refusal}
use Rattle.segments.specs.declared.Segment.{Segment}
use Rattle.segments.specs.Segments.{counted_of, added_to, placed, table_after, segment_of}
use Rattle.segments.proofs.Laws.{added_next}
use Rattle.joltwagon.specs.Placing.{add_refusal, counted_with, segments_after, ends_said, segment_said}

-- the part of a table that is lent on
abbrev part : List ℕ → List ℕ
part l = take (length l - 1) (drop 1 l)

part_of : (n : ℕ) (starts : List ℕ) → part (n ∷ starts) ≡ starts
part_of n starts = take_all (length (n ∷ starts) - 1) starts (omega arith)

put_back : (n : ℕ) (starts e : List ℕ) → put_mid 1 (length (n ∷ starts) - 1) (n ∷ starts) e ≡ n ∷ e
put_back n starts e = rw (drop_of_length-le starts {i = length (n ∷ starts) - 1} (omega arith), append-nil)

-- a table without a cell
pub none_added : (l : List ℕ) (start : ℕ) → length l ≡ 0 → (unknown ≡ add_refusal l start) × (l ≡ segments_after l start)
unfolding add_refusal segments_after
none_added [] start h = (refl, refl)
none_added (n ∷ starts) start h = absurd (omega arith)

pub none_found : (l : List ℕ) (address : ℕ) (d : List ℕ) → length l ≡ 0 → Answers (segment_said l address) unknown d d
unfolding segment_said
none_found [] address d h = refused (said unknown []) d (λ e. omega arith)
none_found (n ∷ starts) address d h = absurd (omega arith)

-- the count after an added start is a cell's number
pub count_fits : (l : List ℕ) (n start next : ℕ) → added_to l n start ≡ Ok next → n < 65536 → next < 65536
unfolding added_to pick
count_fits l n start next e h = from (eqb start 0) e
  where
    from : (zeroth : Bool) → pick zeroth (Ok n) (counted_of l n start) ≡ Ok next → next < 65536
    from true = λ q. let same : n ≡ next = cc in omega arith
    from false = λ q. let a = added_next l n start next q in omega arith

-- a refusal leaves the starts
left_alone : (l : List ℕ) (n start : ℕ) (why : Refusal) → added_to l n start ≡ Err why → table_after l n start ≡ l
unfolding added_to table_after placed pick
left_alone l n start why = from (eqb start 0) (counted_of l n start)
  where
    from : (zeroth : Bool) (r : Result ℕ Refusal) → pick zeroth (Ok n) r ≡ Err why → pick zeroth l (placed l n start r) ≡ l
    from true r = λ _. refl
    from false (Ok next) = λ q. absurd cc
    from false (Err other) = λ _. refl

module _ (start : ℕ) {e : List ℕ} where
  pub added :
      (l : List ℕ) (next : ℕ) → (length l ≡ 0 → ⊥) → added_to (part l) (get_or l 0 0) start ≡ Ok next → e ≡ table_after (part l) (get_or l 0 0) start →
      (0 ≡ add_refusal l start) × (set (put_mid 1 (length l - 1) l e) 0 next ≡ segments_after l start)
  unfolding add_refusal segments_after counted_with
  added [] next h p q = absurd (h refl)
  added (n ∷ starts) next h p q =
      let p' : added_to starts n start ≡ Ok next = ap (λ (l : List ℕ). added_to l n start) (sym (part_of n starts)) ∙ p in
      let q' : e ≡ table_after starts n start = q ∙ ap (λ (l : List ℕ). table_after l n start) (part_of n starts) in
      (rw p', ap (λ (l : List ℕ). set l 0 next) (put_back n starts e) ∙ rw (p', ← q'))

  pub kept_out :
      (l : List ℕ) (why : Refusal) → (length l ≡ 0 → ⊥) → added_to (part l) (get_or l 0 0) start ≡ Err why → e ≡ table_after (part l) (get_or l 0 0) start →
      (number_of why ≡ add_refusal l start) × (put_mid 1 (length l - 1) l e ≡ segments_after l start)
  unfolding add_refusal segments_after counted_with
  kept_out [] why h p q = absurd (h refl)
  kept_out (n ∷ starts) why h p q =
      let p' : added_to starts n start ≡ Err why = ap (λ (l : List ℕ). added_to l n start) (sym (part_of n starts)) ∙ p in
      let q' : e ≡ table_after starts n start = q ∙ ap (λ (l : List ℕ). table_after l n start) (part_of n starts) in
      (rw p', put_back n starts e ∙ rw (p', ← q'))

pub found :
    (l : List ℕ) (address : ℕ) (d : List ℕ) {s : Segment} {r : ℕ} {e : List ℕ} → (length l ≡ 0 → ⊥) →
    s ≡ segment_of (part l) (get_or l 0 0) address → Answers (said 0 (s.left ∷ s.right ∷ [])) r d e →
    Answers (segment_said l address) r d e
unfolding segment_said ends_said
found [] address d h p a = absurd (h refl)
found (n ∷ starts) address d {s} h p a =
    said_as d (ap (λ (x : Segment). said 0 (x.left ∷ x.right ∷ [])) (p ∙ ap (λ (l : List ℕ). segment_of l n address) (part_of n starts))) a
