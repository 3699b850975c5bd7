-- The reader's answer, and what it hands out: a refusal leaves all that is lent, and what is stored otherwise is the bytes and the rows of the runs.
-- Assumes nothing.
use borrow.Author.Tests.{ltb-false, not-true}
use mathlib.Core.Path.{◌≡◌, refl, sym, ap, ◌∙◌}
use mathlib.Core.Bool.{Bool, true, false, ◌||◌, false≢true}
use mathlib.Core.List.{List, [], ◌∷◌}
use Prim.Native.Nat.{ℕ, ◌*◌, ◌/◌, ◌≤◌}
use native.Mathlib.Omega.{arith}
use lib.Dec.{ltb}
use lib.ListN.{length}
use Rattle.ground.specs.Stores.{put}
use Rattle.ground.specs.Choice.{pick}
use Rattle.std.proofs.Common.{Ok, Err}
use Rattle.ground.specs.declared.refusals.Refusal.{Refusal}
use Rattle.ground.specs.declared.refusals.Refusal.TheVariants.{NoRoom}
use Rattle.ground.proofs.Choices.{pick_false}
use Rattle.ground.proofs.Tests.{neither_left, neither_right}
use Rattle.ground.proofs.Stores.{put_front}
use Rattle.records.specs.Text.{Rec}
use Rattle.records.specs.Runs.{runs_of}
use Rattle.reader.specs.Lines.{Found, Good, Bad, records_in}
use Rattle.reader.specs.Answers.{too_far, bytes_of, rows_of, size_of, room_of, read_of, runs_found, runs_in, onto, ReadIs}
use Rattle.reader.specs.Steps.{rows, records_of, fine, start, StoredIs}
use Rattle.reader.specs.declared.Read.{Read}
use Rattle.reader.proofs.Joins.{bytes_runs}
use Rattle.reader.proofs.Tallies.{rows_all, fine_size}

pub either_false : (a b : Bool) → (a || b) ≡ false → (a ≡ false) × (b ≡ false)
either_false a b e = (neither_left a b e, neither_right a b e)

rows_length : (rs : List Rec) → length (rows_of rs) ≡ 2 * length rs
rows_length [] = refl
rows_length (r ∷ rs) = omega (arith, rows_length rs)

-- what a text comes to that is not refused
size_fine : (rs : List Rec) (size : Read) → fine (Good rs) ≡ true → size_of (Good rs) ≡ Ok size
    → size ≡ record { bytes = length (bytes_of (runs_of rs)); runs = length (runs_of rs) }
size_fine rs size e q = let p = sym q ∙ pick_false _ _ (not-true (too_far rs) e) in cc

bytes_front : (f : Found) (size : Read) (d : List ℕ) → fine f ≡ true → size_of f ≡ Ok size → size.bytes ≤ length d
    → put d 0 (bytes_of (records_of f)) ≡ onto (bytes_of (runs_found f)) d
unfolding onto
bytes_front (Good rs) size d e q h =
    ap (put d 0) (sym (bytes_runs rs)) ∙ put_front d (bytes_of (runs_of rs)) (omega (arith, h, ap (λ (r : Read). r.bytes) (size_fine rs size e q)))
bytes_front Bad size d e q h = absurd (false≢true e)

rows_front : (f : Found) (size : Read) (t : List ℕ) → fine f ≡ true → size_of f ≡ Ok size → size.runs ≤ length t / 2
    → rows start (records_of f) t ≡ onto (rows_of (runs_found f)) t
unfolding onto
rows_front (Good rs) size t e q h =
    rows_all rs t
    ∙ put_front t (rows_of (runs_of rs)) (omega (arith, h, rows_length (runs_of rs), ap (λ (r : Read). r.runs) (size_fine rs size e q)))
rows_front Bad size t e q h = absurd (false≢true e)

pub fine_text : (text : List ℕ) (size : Read) → Ok size ≡ size_of (records_in text) → fine (records_in text) ≡ true
fine_text text size m = fine_size (records_in text) size (sym m)

module _ (text d t : List ℕ) where
  -- a refusal leaves all
  left_alone : (e : Refusal) → read_of text (length d) (length t) ≡ Err e → ReadIs text d t (Err e) d t
  unfolding onto
  left_alone e q = record { answer = sym q; bytes = rw q; rows = rw q }

  pub text_refused : (e : Refusal) → Err e ≡ size_of (records_in text) → ReadIs text d t (Err e) d t
  unfolding read_of
  text_refused e m = left_alone e (ap (room_of (length d) (length t)) (sym m))

  module _ (size : Read) (m : Ok size ≡ size_of (records_in text)) where
    abbrev short : Bool
    short = ltb (length d) size.bytes || ltb (length t / 2) size.runs

    answer : (b : Bool) → short ≡ b → read_of text (length d) (length t) ≡ pick b (Err NoRoom) (Ok size)
    unfolding read_of
    answer b s = ap (room_of (length d) (length t)) (sym m) ∙ rw s

    pub no_room_lem : short ≡ true → ReadIs text d t (Err NoRoom) d t
    unfolding pick
    no_room_lem s = left_alone NoRoom (answer true s)

    pub text_read : (d' t' : List ℕ) → short ≡ false → StoredIs text d t d' t' → ReadIs text d t (Ok size) d' t'
    unfolding pick runs_in
    text_read d' t' s w =
        let b = either_false (ltb (length d) size.bytes) (ltb (length t / 2) size.runs) s in
        let a = answer false s in
        record {
          answer = sym a;
          bytes = w.bytes ∙ bytes_front (records_in text) size d (fine_text text size m) (sym m) (ltb-false (length d) size.bytes b.0) ∙ rw a;
          rows = w.rows ∙ rows_front (records_in text) size t (fine_text text size m) (sym m) (ltb-false (length t / 2) size.runs b.1) ∙ rw a;
        }
