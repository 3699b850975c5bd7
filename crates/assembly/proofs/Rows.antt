-- The rows of one statement before the rows of others, as the record writer takes them.
-- Assumes nothing.
use mathlib.Core.Path.{◌≡◌, refl, sym, ap, ◌∙◌}
use mathlib.Core.Bool.{false}
use mathlib.Core.List.{List, [], ◌∷◌, ◌++◌, map}
use mathlib.Core.Logic.{◌⊎◌, ⊎_elim}
use Prim.Native.Nat.{ℕ, ◌+◌, ◌-◌, ◌*◌, ◌/◌, ◌≤◌, ◌<◌}
use native.Mathlib.Omega.{arith}
use lib.ListN.{length, length-append}
use lib.Seq.{take_at, drop_at}
use borrow.Author.Tests.{eq-eqb, ne_eqb, le-ltb}
use Rattle.ground.specs.Choice.{pick}
use Rattle.ground.proofs.Choices.{pick_true, pick_false}
use Rattle.records.specs.Objects.{Object, With, Without, data_of, count_of, object_of, objects_of, bad_objects, too_far}
use Rattle.records.specs.Text.{Byte, events}
use Rattle.statements.specs.Listing.{none}
use Rattle.assembly.specs.declared.tally.Tally.{Tally}
use Rattle.assembly.specs.Objects.{object_row}
use Rattle.assembly.specs.Steps.{started, grown, tallied}
use Rattle.assembly.proofs.Tallies.{started_short}
use Rattle.assembly.proofs.Texts.{ahead, ahead_start, ahead_bytes}

-- an object of a kind, which its row says to stand somewhere, of a statement at an address: it has its count of values, with data as many bytes as its size
-- says and the statement's own address, and no values otherwise
pub record Shape (kind here stands count size : ℕ) (row values : List ℕ) : Type 0 where
  pub says : row ≡ object_row kind stands count
  pub own : kind ≡ 1 → stands ≡ here
  pub long : length values ≡ 2 * count
  pub near : here + size ≤ 65536
  pub shown :
      ((kind ≡ 1) × (length (data_of values) ≡ size))
      ⊎ (((kind ≡ 0) ⊎ (kind ≡ none)) × (values ≡ []))

row_there : (kind here count : ℕ) → (kind ≡ none → ⊥) → object_row kind here count ≡ kind ∷ here ∷ count ∷ []
unfolding object_row
row_there kind here count h = pick_false _ _ (ne_eqb kind none h)

row_none : (kind here count : ℕ) → kind ≡ none → object_row kind here count ≡ []
unfolding object_row
row_none kind here count e = pick_true _ _ (eq-eqb kind none e)

pub objects_with :
    (here count : ℕ) (values rows rest : List ℕ) → length values ≡ 2 * count →
    objects_of (1 ∷ here ∷ count ∷ rows) (values ++ rest) ≡ With here (data_of values) ∷ objects_of rows rest
unfolding count_of object_of pick
objects_with here count values rows rest e =
    rw (take_at values rest (2 * count) e, drop_at values rest (2 * count) e)

pub objects_without : (here count : ℕ) (rows rest : List ℕ) → objects_of (0 ∷ here ∷ count ∷ rows) rest ≡ Without ∷ objects_of rows rest
unfolding count_of object_of pick
objects_without here count rows rest = refl

tallied_with : (here size : ℕ) (t : Tally) → tallied 1 here size t ≡ grown size (started here t)
unfolding tallied pick
tallied_with here size t = refl

tallied_without : (kind here size : ℕ) (t : Tally) → (kind ≡ 1 → ⊥) → tallied kind here size t ≡ t
unfolding tallied
tallied_without kind here size t h = pick_false _ _ (ne_eqb kind 1 h)

module _ (kind here stands count size : ℕ) (row values : List ℕ) (s : Shape kind here stands count size row values) (rows rest : List ℕ) where
  -- the three cases of an object: with data, without, and none
  pub by_kind :
      (P : List ℕ → List ℕ → Type 0) →
      (kind ≡ 1 → length (data_of values) ≡ size → P (1 ∷ here ∷ count ∷ rows) (values ++ rest)) →
      (kind ≡ 0 → P (0 ∷ stands ∷ count ∷ rows) rest) →
      (kind ≡ none → P rows rest) →
      P (row ++ rows) (values ++ rest)
  by_kind P with_data without nothing =
      ⊎_elim
      (λ (one : (kind ≡ 1) × (length (data_of values) ≡ size)).
      let r : row ≡ 1 ∷ here ∷ count ∷ [] =
      s.says ∙ row_there kind stands count (λ e. omega (arith, one.0)) ∙ ap (λ (k : ℕ). k ∷ stands ∷ count ∷ []) one.0
      ∙ ap (λ (a : ℕ). 1 ∷ a ∷ count ∷ []) (s.own one.0) in
      rw r (with_data one.0 one.1))
      (λ (other : ((kind ≡ 0) ⊎ (kind ≡ none)) × (values ≡ [])).
      ⊎_elim
      (λ (z : kind ≡ 0).
      let r : row ≡ 0 ∷ stands ∷ count ∷ [] = s.says ∙ row_there kind stands count (λ e. omega arith) ∙ ap (λ (k : ℕ). k ∷ stands ∷ count ∷ []) z in
      rw (r, other.1) (without z))
      (λ (e : kind ≡ none). rw (s.says ∙ row_none kind stands count e, other.1) (nothing e))
      other.0)
      s.shown

  -- what is still to be written after the object
  pub shape_ahead :
      (t : Tally) → t.held < 32 →
      ahead t (events (objects_of (row ++ rows) (values ++ rest))) ≡ ahead (tallied kind here size t) (events (objects_of rows rest))
  shape_ahead t h =
      by_kind (λ os vs. ahead t (events (objects_of os vs)) ≡ ahead (tallied kind here size t) (events (objects_of rows rest)))
      (λ one long.
      ap (λ (os : List Object). ahead t (events os)) (objects_with here count values rows rest s.long)
      ∙ ahead_start here t (map Byte (data_of values) ++ events (objects_of rows rest))
      ∙ ahead_bytes (data_of values) (started here t) (events (objects_of rows rest)) (started_short t h here).0
      ∙ ap (λ (n : ℕ). ahead (grown n (started here t)) (events (objects_of rows rest))) long
      ∙ ap (λ (u : Tally). ahead u (events (objects_of rows rest))) (sym (ap (λ (k : ℕ). tallied k here size t) one ∙ tallied_with here size t)))
      (λ z.
      ap (λ (os : List Object). ahead t (events os)) (objects_without stands count rows rest)
      ∙ ap (λ (u : Tally). ahead u (events (objects_of rows rest))) (sym (tallied_without kind here size t (λ e. omega arith))))
      (λ z. ap (λ (u : Tally). ahead u (events (objects_of rows rest))) (sym (tallied_without kind here size t (λ e. omega arith))))

  -- no byte of it lies beyond 65535
  pub shape_near : too_far (objects_of rows rest) ≡ false → too_far (objects_of (row ++ rows) (values ++ rest)) ≡ false
  shape_near f =
      by_kind (λ os vs. too_far (objects_of os vs) ≡ false)
      (λ one long.
      ap too_far (objects_with here count values rows rest s.long)
      ∙ rw (le-ltb 65536 (here + length (data_of values)) (omega (arith, s.near))) f)
      (λ z. ap too_far (objects_without stands count rows rest) ∙ f)
      (λ z. f)

  -- its kind is known, and it counts no more values than there are
  pub shape_known : bad_objects (length rest / 2) rows ≡ false → bad_objects (length (values ++ rest) / 2) (row ++ rows) ≡ false
  unfolding count_of pick
  shape_known f =
      let n : length (values ++ rest) / 2 ≡ count + length rest / 2 = omega (arith, length-append values rest, s.long) in
      by_kind (λ os vs. bad_objects (length vs / 2) os ≡ false)
      (λ one long.
      let l : count + length rest / 2 - count ≡ length rest / 2 = omega arith in
      rw (n, le-ltb (count + length rest / 2) count (omega arith), l) f)
      (λ z.
      let l : length rest / 2 - 0 ≡ length rest / 2 = omega arith in
      rw (le-ltb (length rest / 2) 0 (omega arith), l) f)
      (λ z. f)
