-- The round trip: reading the text of any objects with no byte beyond 65535 gives the runs of those that have bytes, in order.
-- Assumes nothing.
use borrow.Author.Tests.{le-ltb}
use mathlib.Core.Path.{◌≡◌, refl, ap, ◌∙◌}
use mathlib.Core.Bool.{false}
use mathlib.Core.List.{List, [], ◌∷◌}
use Prim.Native.Nat.{ℕ, ◌+◌, ◌/◌, ◌≤◌}
use native.Mathlib.Omega.{arith}
use lib.ListN.{length}
use Rattle.std.proofs.Common.{Ok}
use Rattle.ground.proofs.Choices.{pick_false}
use Rattle.records.specs.Objects.{Object, With, objects_of, faulty}
use Rattle.records.specs.Objects as written
use Rattle.records.specs.Text.{Rec, recs, text, text_of}
use Rattle.records.specs.Runs.{runs_of, pieces}
use Rattle.records.specs.Fine.{Each, Bytes, Fine, Sound}
use Rattle.records.proofs.Fine.{recs_fine, written_fine}
use Rattle.records.proofs.Runs.{runs_of_recs}
use Rattle.reader.specs.Lines.{Good, records_in}
use Rattle.reader.specs.Answers.{too_far, bytes_of, size_of, room_of, read_of, runs_found, runs_in}
use Rattle.reader.specs.declared.Read.{Read}
use Rattle.reader.proofs.Back.{Readable, read_back}

readable : (rs : List Rec) → Each Fine rs → Each Readable rs
readable [] f = tt
readable (r ∷ rs) f = (
  record {
    place = omega (arith, f.0.some, f.0.near);
    some = f.0.some;
    few = omega (arith, f.0.most);
    right = f.0.bytes;
  },
  readable rs f.1,
)

none_far : (rs : List Rec) → Each Fine rs → too_far rs ≡ false
none_far [] f = refl
none_far (r ∷ rs) f = rw (le-ltb 65536 (r.address + length r.bytes) f.0.near, none_far rs f.1)

module _ (os : List Object) (fine : Each Fine (recs os)) where
  -- the text holds the records it was written for
  records_back : records_in (text (recs os)) ≡ Good (recs os)
  records_back = read_back (recs os) (readable (recs os) fine)

  runs_back : runs_in (text (recs os)) ≡ runs_of (pieces os)
  unfolding runs_in
  runs_back = ap runs_found records_back ∙ runs_of_recs os

  abbrev all : Read
  all = record { bytes = length (bytes_of (runs_of (pieces os))); runs = length (runs_of (pieces os)) }

  size_back : size_of (records_in (text (recs os))) ≡ Ok all
  size_back = ap size_of records_back ∙ pick_false _ _ (none_far (recs os) fine) ∙ rw (runs_of_recs os)

  answer_back : (room cells : ℕ) → all.bytes ≤ room → all.runs ≤ cells / 2 → read_of (text (recs os)) room cells ≡ Ok all
  unfolding read_of
  answer_back room cells h k = ap (room_of room cells) size_back ∙ pick_false _ _ (rw (le-ltb room all.bytes h, le-ltb (cells / 2) all.runs k))

-- any objects with no byte beyond 65535: the runs are those of the objects that have bytes, and where there is room for them they are handed out
module _ (os : List Object) (sound : Each Sound os) (near : written.too_far os ≡ false) where
  pub written_reads : runs_in (text (recs os)) ≡ runs_of (pieces os)
  written_reads = runs_back os (recs_fine os sound near)

  pub written_answers :
      (room cells : ℕ) → length (bytes_of (runs_of (pieces os))) ≤ room → length (runs_of (pieces os)) ≤ cells / 2
      → read_of (text (recs os)) room cells
      ≡ Ok (record { bytes = length (bytes_of (runs_of (pieces os))); runs = length (runs_of (pieces os)) })
  written_answers = answer_back os (recs_fine os sound near)

-- the same of the tables of objects and values that the writer does not refuse
pub tables_read : (objects values : List ℕ) → faulty objects values ≡ false → written.too_far (objects_of objects values) ≡ false
    → runs_in (text_of objects values) ≡ runs_of (pieces (objects_of objects values))
unfolding text_of
tables_read objects values f t = runs_back (objects_of objects values) (written_fine objects values f t)

-- an object with bytes is one run
pub one_reads : (a b : ℕ) (bs : List ℕ) → Bytes (b ∷ bs) → a + length (b ∷ bs) ≤ 65536
    → runs_in (text (recs (With a (b ∷ bs) ∷ []))) ≡ record { address = a; bytes = b ∷ bs } ∷ []
one_reads a b bs w h = written_reads (With a (b ∷ bs) ∷ []) (w, tt) (rw (le-ltb 65536 (a + length (b ∷ bs)) h))

-- an object of no length is none
pub none_reads : (a : ℕ) → a ≤ 65536 → runs_in (text (recs (With a [] ∷ []))) ≡ []
none_reads a h = written_reads (With a [] ∷ []) (tt, tt) (rw (le-ltb 65536 (a + 0) (omega arith)))
