-- Reading a text with an answer beside it: where the answer has too few cells nothing is handed out, and else the two buffers are the reader's.
-- Assumes nothing.
use mathlib.Core.Path.{◌≡◌, refl, sym, ◌∙◌}
use mathlib.Core.Bool.{◌||◌}
use mathlib.Core.List.{List, [], ◌++◌}
use Prim.Native.Nat.{ℕ, ◌/◌, ◌<◌, ◌≤◌}
use native.Mathlib.Omega.{arith}
use lib.Dec.{ltb}
use lib.ListN.{length}
use Rattle.ground.specs.Choice.{pick}
use Rattle.std.specs.Prelude.{Result, Ok, Err}
use Rattle.ground.specs.declared.refusals.Refusal.{Refusal}
use Rattle.ground.specs.Refusals.{no_room, number_of}
use Rattle.ground.proofs.Choices.{pick_false, by_pick}
use Rattle.answers.specs.Said.{said, lent_after}
use Rattle.answers.specs.Sizes.{size_cells}
use Rattle.answers.specs.Steps.{late_of}
use Rattle.answers.proofs.Laws.{Answers, refused, late_answers, late_leaves, own_leaves}
use Rattle.records.specs.Text.{Rec}
use Rattle.reader.specs.declared.Read.{Read}
use Rattle.reader.specs.Lines.{records_in}
use Rattle.reader.specs.Answers.{size_of, room_of, read_of, runs_in, handed, bytes_of, rows_of, onto, ReadIs}
use Rattle.joltwagon.specs.Texts.{read_said, TextRead}
use Rattle.joltwagon.proofs.Sizes.{not_zero}
use Rattle.ground.proofs.Refused.{refused_number}

-- 9 is the last of the reader's refusals, so what comes late does not depend on the room
late_room : (room cells : ℕ) (s : Result Read Refusal) → late_of (read_said (room_of room cells s)).refusal ≡ late_of (read_said s).refusal
unfolding read_said late_of pick
late_room room cells (Err e) = refl
late_room room cells (Ok r) =
    by_pick (λ (x : Result Read Refusal). late_of (read_said x).refusal ≡ no_room) (ltb room r.bytes || ltb (cells / 2) r.runs) refl refl

late_read : (text : List ℕ) (room cells other more : ℕ) → late_of (read_said (read_of text room cells)).refusal ≡ late_of (read_said (read_of text other more)).refusal
unfolding read_of
late_read text room cells other more = late_room room cells (size_of (records_in text)) ∙ sym (late_room other more (size_of (records_in text)))

-- with too few cells for the answer
read_late : (s : Result Read Refusal) (d : List ℕ) → length d < 8 → Answers (read_said s) (late_of (read_said s).refusal) d d
unfolding read_said size_cells late_of
read_late (Ok r) d h = late_answers (said 0 (size_cells r.bytes ++ size_cells r.runs)) d h
read_late (Err e) d h = rw (pick_false _ _ (not_zero e)) (refused (said (number_of e) []) d (refused_number e))

read_leaves : (s : Result Read Refusal) (d new x : List ℕ) → length d < 8 → x ≡ lent_after (read_said s) d new x
unfolding read_said size_cells
read_leaves (Ok r) d new x h = late_leaves (said 0 (size_cells r.bytes ++ size_cells r.runs)) d new x h
read_leaves (Err e) d new x h = own_leaves (said (number_of e) []) d new x (omega arith) (sym (pick_false new x (not_zero e)))

-- with cells enough, of runs that are handed out
handed_leaves :
    (f : List Rec → List ℕ) → f [] ≡ [] → (s : Result Read Refusal) (text d x : List ℕ) {e : List ℕ} → 8 ≤ length d →
    e ≡ onto (f (handed s text)) x → e ≡ lent_after (read_said s) d (onto (f (runs_in text)) x) x
unfolding read_said size_cells pick onto
handed_leaves f none (Ok r) text d x h p = own_leaves (said 0 (size_cells r.bytes ++ size_cells r.runs)) d _ x h p
handed_leaves f none (Err e) text d x h p = own_leaves (said (number_of e) []) d _ x (omega arith) (p ∙ rw none (sym (pick_false _ _ (not_zero e))))

module _ (text x y d : List ℕ) where
  abbrev told : Result Read Refusal
  told = read_of text (length x) (length y)

  pub unread : {r : ℕ} → length d < 8 → r ≡ late_of (read_said (read_of text 0 0)).refusal → TextRead text x y d r x y d
  unread {r} h e =
      let s = read_late told d h in record {
        refusal = e ∙ late_read text 0 0 (length x) (length y) ∙ s.value;
        bytes = read_leaves told d (onto (bytes_of (runs_in text)) x) x h;
        rows = read_leaves told d (onto (rows_of (runs_in text)) y) y h;
        cells = s.answer_after;
      }

  pub read :
      {r : ℕ} {q : Result Read Refusal} {x' y' d' : List ℕ} → 8 ≤ length d → ReadIs text x y q x' y' → Answers (read_said told) r d d' →
      TextRead text x y d r x' y' d'
  read {r} {q} {x'} {y'} {d'} h i a = record {
    refusal = a.value;
    bytes = handed_leaves bytes_of refl told text d x h i.bytes;
    rows = handed_leaves rows_of refl told text d y h i.rows;
    cells = a.answer_after;
  }

  -- a refusal leaves the answer, too
  pub read_refused : {n : ℕ} (e : Refusal) {x' y' : List ℕ} → 8 ≤ length d → n ≡ number_of e → ReadIs text x y (Err e) x' y' → TextRead text x y d n x' y' d
  unfolding read_said
  read_refused {n} e h k i =
      let a : Answers (said (number_of e) []) (number_of e) d d = refused (said (number_of e) []) d (refused_number e) in
      rw k (read h i (rw (← i.answer) a))
