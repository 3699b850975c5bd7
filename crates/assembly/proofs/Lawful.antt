-- The record writer never refuses what was assembled: neither 1 nor 18, whatever the room.
-- Assumes nothing.
use mathlib.Core.Path.{◌≡◌, refl}
use mathlib.Core.Bool.{Bool, true, false, not}
use mathlib.Core.List.{List, [], ◌∷◌, ◌++◌}
use Prim.Native.Nat.{ℕ, zero, suc, ◌+◌, ◌*◌, ◌/◌, ◌%◌, ◌≤◌, ◌<◌}
use native.Mathlib.Omega.{arith}
use lib.ListN.{length, drop}
use borrow.Author.Tests.{le-ltb}
use Rattle.std.specs.Prelude.{Ok}
use Rattle.ground.specs.Choice.{pick}
use Rattle.ground.proofs.Tests.{neither_left, neither_right}
use Rattle.expressions.specs.Numbers.{Cells, Short}
use Rattle.records.specs.Objects as records
use Rattle.records.specs.Objects.{fits, bad_values, bad_objects, faulty, too_far}
use Rattle.records.specs.Text.{text_of}
use Rattle.records.specs.Written.{written_of, buffer_of}
use Rattle.statements.proofs.Lawful.{values_lawful}
use Rattle.passes.specs.Walks.{Source}
use Rattle.passes.specs.Passes.{Outcome, passed_of, too_many, ended_of}
use Rattle.assembly.specs.Objects.{values_built, address_at, page_at, values_in, gather, objects_from, values_from, objects_of, values_of}
use Rattle.assembly.specs.Text.{settled_text}
use Rattle.assembly.proofs.Places.{Stands}
use Rattle.assembly.proofs.Rows.{shape_near, shape_known}
use Rattle.assembly.proofs.Settled.{stands_shape, passed_stand}
use Rattle.passes.proofs.Short.{passed_short}

-- values after values, in whole rows
good_append :
    (xs ys : List ℕ) (n : ℕ) → length xs ≡ 2 * n → bad_values xs ≡ false → bad_values ys ≡ false → bad_values (xs ++ ys) ≡ false
good_append [] ys n e g h = h
good_append (x ∷ []) ys n e g h = absurd (omega (arith, e))
good_append (x ∷ w ∷ xs) ys zero e g h = absurd (omega (arith, e))
good_append (x ∷ w ∷ xs) ys (suc n) e g h =
    rw (neither_left (not (fits x w)) (bad_values xs) g)
    (good_append xs ys n (omega (arith, e)) (neither_right (not (fits x w)) (bad_values xs) g) h)

module _ (src : Source) (o : Outcome) (fine : ℕ) (all : (i : ℕ) → i < fine → Stands src o i) where
  objects_near : (n i : ℕ) → i + n ≤ fine → too_far (records.objects_of (objects_from src o n i) (values_from src o n i)) ≡ false
  unfolding gather
  objects_near zero i h = refl
  objects_near (suc n) i h =
      shape_near _ _ _ _ _ _ _ (stands_shape src o i (all i (omega arith))) (objects_from src o n (i + 1)) (values_from src o n (i + 1))
      (objects_near n (i + 1) (omega arith))

  objects_known : (n i : ℕ) → i + n ≤ fine → bad_objects (length (values_from src o n i) / 2) (objects_from src o n i) ≡ false
  unfolding gather
  objects_known zero i h = refl
  objects_known (suc n) i h =
      shape_known _ _ _ _ _ _ _ (stands_shape src o i (all i (omega arith))) (objects_from src o n (i + 1)) (values_from src o n (i + 1))
      (objects_known n (i + 1) (omega arith))

  never_far : too_far (records.objects_of (objects_from src o fine 0) (values_from src o fine 0)) ≡ false
  never_far = objects_near fine 0 (omega arith)

  module _ (nodes_fit : Cells Short src.nodes) (labels_fit : Cells Short o.table) where
    values_good : (i : ℕ) → i < fine → bad_values (values_in src o i) ≡ false
    unfolding values_in values_built
    values_good i h =
        values_lawful src.nodes o.table nodes_fit labels_fit src.list src.items i (address_at src o i % 65536) (page_at src o i) false
        (omega arith) (all i h).accepted

    values_fit : (n i : ℕ) → i + n ≤ fine → bad_values (values_from src o n i) ≡ false
    unfolding gather
    values_fit zero i h = refl
    values_fit (suc n) i h =
        good_append (values_in src o i) (values_from src o n (i + 1)) _ (stands_shape src o i (all i (omega arith))).long
        (values_good i (omega arith)) (values_fit n (i + 1) (omega arith))

    never_faulty : faulty (objects_from src o fine 0) (values_from src o fine 0) ≡ false
    unfolding faulty
    never_faulty = rw (values_fit fine 0 (omega arith)) (objects_known fine 0 (omega arith))

-- what is neither faulty nor too far is written wherever there is room
module _ (os vs : List ℕ) (f : faulty os vs ≡ false) (t : too_far (records.objects_of os vs) ≡ false) where
  text_accepted : (room : ℕ) → length (text_of os vs) ≤ room → written_of os vs room ≡ Ok (length (text_of os vs))
  unfolding written_of pick
  text_accepted room h = rw (f, t, le-ltb room (length (text_of os vs)) h)

  text_written : (d : List ℕ) → length (text_of os vs) ≤ length d → buffer_of os vs d ≡ text_of os vs ++ drop (length (text_of os vs)) d
  unfolding buffer_of
  text_written d h = rw (text_accepted (length d) h)

module _ (src : Source) (ls : List ℕ) (nodes_fit : Cells Short src.nodes) (lent_fits : Cells Short ls) where
  lawful_from :
      (b : Bool) → too_many src.list src.nodes ≡ b →
      (faulty (objects_of src ls) (values_of src ls) ≡ false) × (too_far (records.objects_of (objects_of src ls) (values_of src ls)) ≡ false)
  unfolding objects_of values_of ended_of gather faulty pick
  lawful_from true q = (rw q, rw q)
  lawful_from false q =
      let o = passed_of src ls in (
        rw q (never_faulty src o o.answer.fine (passed_stand src ls) nodes_fit (passed_short src ls lent_fits)),
        rw q (never_far src o o.answer.fine (passed_stand src ls)),
      )

  -- the rows of the statements before the refused one, be there one or not
  pub lawful : (faulty (objects_of src ls) (values_of src ls) ≡ false) × (too_far (records.objects_of (objects_of src ls) (values_of src ls)) ≡ false)
  lawful = lawful_from (too_many src.list src.nodes) refl

  -- the writer refuses only for want of room
  pub never_refused :
      (room : ℕ) → length (settled_text src ls) ≤ room →
      written_of (objects_of src ls) (values_of src ls) room ≡ Ok (length (settled_text src ls))
  unfolding settled_text
  never_refused room h = text_accepted (objects_of src ls) (values_of src ls) lawful.0 lawful.1 room h

  -- and writes the text, followed by what the buffer held beyond it
  pub text_stored :
      (d : List ℕ) → length (settled_text src ls) ≤ length d →
      buffer_of (objects_of src ls) (values_of src ls) d ≡ settled_text src ls ++ drop (length (settled_text src ls)) d
  unfolding settled_text
  text_stored d h = text_written (objects_of src ls) (values_of src ls) lawful.0 lawful.1 d h
