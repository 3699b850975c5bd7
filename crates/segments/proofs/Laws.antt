-- One turn of each loop, as a law of the definitions: what is left to do, done from here, is what was to be done at the start.
-- Assumes nothing.
use mathlib.Core.Path.{◌≡◌, refl, sym, ap}
use mathlib.Core.Bool.{Bool, true, false}
use mathlib.Core.List.{List, [], ◌∷◌, ◌++◌}
use Prim.Native.Nat.{ℕ, zero, suc, ◌+◌, ◌-◌, ◌≤◌, ◌<◌, min, max}
use native.Mathlib.Nat.{le_of_suc-le-suc}
use native.Mathlib.Numerals.{add-one, unary_clauses}
use native.Mathlib.Omega.{arith}
use lib.Dec.{leb}
use lib.ListN.{length, take, drop, get_or, set, drop_of_length-le}
use lib.Seq.{take-take, length-take-le}
use borrow.Author.Tests.{leb-false}
use Rattle.std.proofs.Common.{Ok, Err}
use Rattle.ground.specs.Choice.{pick}
use Rattle.ground.proofs.Choices.{by_pick}
use Rattle.ground.proofs.Stores.{drop_next}
use Rattle.ground.specs.declared.refusals.Refusal.TheVariants.{NoRoom, SegmentRepeated, OverLimit}
use Rattle.segments.specs.Segments.{holds_of, inserted, counted_of, left_of, right_of, segment_in}
use Rattle.segments.specs.Steps.{narrowed_by}
use Rattle.segments.specs.declared.Segment.{Segment}

-- a count beyond the table is the whole table
pub take_used : (n : ℕ) (l : List ℕ) → take (min n (length l)) l ≡ take n l
take_used zero [] = refl
take_used (suc n) [] = simp unary_clauses
take_used zero (x ∷ l) = simp unary_clauses
take_used (suc n) (x ∷ l) = simp unary_clauses (ap (λ (t : List ℕ). x ∷ t) (take_used n l))

-- the first i numbers as they are, and the carried one put into the rest, up to the last place
abbrev pub to_put : List ℕ → ℕ → ℕ → ℕ → List ℕ
to_put l last carry i = take i l ++ inserted carry (drop i (take last l))

put_next :
    (l : List ℕ) (last carry i : ℕ) → i < last → last ≤ length l →
    to_put (set l i (min carry (get_or l i 0))) last (max carry (get_or l i 0)) (suc i) ≡ to_put l last carry i
unfolding inserted
put_next [] last carry i h b = absurd (omega arith)
put_next (y ∷ l) zero carry i h b = absurd (omega arith)
put_next (y ∷ l) (suc last) carry zero h b = refl
put_next (y ∷ l) (suc last) carry (suc i) h b =
    ap (λ (t : List ℕ). y ∷ t) (put_next l last carry i (le_of_suc-le-suc h) (le_of_suc-le-suc b))

pub put_more :
    (l : List ℕ) (last carry i : ℕ) → i < last → last ≤ length l →
    to_put (set l i (min carry (get_or l i 0))) last (max carry (get_or l i 0)) (i + 1) ≡ to_put l last carry i
put_more l last carry i h b = rw (add-one i) (put_next l last carry i h b)

put_last : (l : List ℕ) (last carry : ℕ) → suc last ≡ length l → set l last carry ≡ to_put l last carry last
unfolding inserted
put_last [] last carry h = absurd (omega arith)
put_last (y ∷ []) zero carry h = refl
put_last (y ∷ z ∷ l) zero carry h = absurd (omega arith)
put_last (y ∷ l) (suc last) carry h = ap (λ (t : List ℕ). y ∷ t) (put_last l last carry (omega arith))

pub put_end : (l : List ℕ) (last carry i : ℕ) → i ≡ last → suc last ≡ length l → set l i carry ≡ to_put l last carry i
put_end l last carry i e h = rw e (put_last l last carry h)

-- the part that is lent, but for its last place
pub take_front : (l : List ℕ) (n : ℕ) → n < length l → take (length (take (n + 1) l) - 1) (take (n + 1) l) ≡ take n l
take_front l n h =
    let e : length (take (n + 1) l) - 1 ≡ n = omega (arith, length-take-le (n + 1) l (omega arith)) in
    rw e (take-take n (n + 1) l (omega arith))

-- a segment found so far, cut off at each start that is left
abbrev pub onward : Segment → ℕ → List ℕ → Segment
onward g a l = record { left = max g.left (left_of a l); right = min g.right (right_of a l) }

pub right_bound : (a : ℕ) (l : List ℕ) → right_of a l ≤ 65535
unfolding right_of
right_bound a [] = omega arith
right_bound a (s ∷ l) =
    let h = right_bound a l in
    by_pick (λ (r : ℕ). r ≤ 65535) (leb s a) h (omega arith)

pub onward_first : (a : ℕ) (l : List ℕ) → onward (record { left = 0; right = 65535 }) a l ≡ segment_in a l
onward_first a l =
    let h = right_bound a l in
    let e : min 65535 (right_of a l) ≡ right_of a l = omega arith in
    let f : max 0 (left_of a l) ≡ left_of a l = omega arith in
    rw (e, f)

-- one start more, below the address or above it
abbrev cut : Bool → ℕ → Segment → Segment
cut below s g =
    pick below
    (record { left = max g.left s; right = g.right })
    (record { left = g.left; right = min g.right (s - 1) })

cut_first :
    (below : Bool) (g : Segment) (s x y : ℕ) →
    ◌≡◌ {A = Segment}
    (record { left = max (cut below s g).left x; right = min (cut below s g).right y })
    (record { left = max g.left (pick below (max s x) x); right = min g.right (pick below y (min (s - 1) y)) })
unfolding pick
cut_first true g s x y = ap {B = Segment} (λ (n : ℕ). record { left = n; right = min g.right y }) (omega arith)
cut_first false g s x y = ap {B = Segment} (λ (n : ℕ). record { left = max g.left x; right = n }) (omega arith)

pub onward_more :
    (g : Segment) (a : ℕ) (l : List ℕ) (i : ℕ) → i < length l →
    onward (narrowed_by a (get_or l i 0) g) a (drop (i + 1) l) ≡ onward g a (drop i l)
unfolding left_of right_of narrowed_by
onward_more g a l i h =
    rw (drop_next l i h)
    (cut_first (leb (get_or l i 0) a) g (get_or l i 0) (left_of a (drop (i + 1) l)) (right_of a (drop (i + 1) l)))

pub onward_end : (g : Segment) (a : ℕ) (l : List ℕ) (i : ℕ) → length l ≤ i → g.right ≤ 65535 → onward g a (drop i l) ≡ g
unfolding left_of right_of
onward_end g a l i h b =
    let e : min g.right 65535 ≡ g.right = omega arith in
    let f : max g.left 0 ≡ g.left = omega arith in
    rw (drop_of_length-le l h, e, f)

-- where nothing is refused, the start is not there yet, and there is room
unrefused :
    (a b c : Bool) (n m : ℕ) → pick a (Err SegmentRepeated) (pick b (Err OverLimit) (pick c (Err NoRoom) (Ok n))) ≡ Ok m →
    (a ≡ false) × (b ≡ false) × (c ≡ false) × (m ≡ n)
unfolding pick
unrefused true b c n m h = absurd cc
unrefused false true c n m h = absurd cc
unrefused false false true n m h = absurd cc
unrefused false false false n m h = (refl, refl, refl, cc)

pub record Added (l : List ℕ) (count x next : ℕ) : Type 0 where
  pub absent : holds_of x (take count l) ≡ false
  pub under : count < 63
  pub room : count < length l
  pub counted : next ≡ count + 1

pub added_next : (l : List ℕ) (count x next : ℕ) → counted_of l count x ≡ Ok next → Added l count x next
unfolding counted_of
added_next l count x next h =
    let p = unrefused (holds_of x (take count l)) (leb 63 count) (leb (length l) count) (count + 1) next h in
    record { absent = p.0; under = leb-false _ _ p.1; room = leb-false _ _ p.2; counted = p.3 }

pub lent_length : (l : List ℕ) (count x next : ℕ) → counted_of l count x ≡ Ok next → next ≡ length (take next l)
lent_length l count x next h =
    let a = added_next l count x next h in
    sym (length-take-le next l (omega arith))
