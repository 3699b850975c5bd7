-- What the comparison's answer means: 'equal' exactly where the list is laid, the text is read and says what the list means; and on the text that is written
-- for a list the answer is 'equal' under a page that meets each record's.
-- Assumes nothing.
use Rattle.std.specs.Prelude.{Result}
use Rattle.ground.specs.declared.refusals.Refusal.{Refusal}
use borrow.Author.Tests.{eq-eqb, eqb-true, le-ltb, ltb-false}
use mathlib.Core.Path.{◌≡◌, refl, sym, ap, ◌∙◌}
use mathlib.Core.Bool.{Bool, true, false, false≢true}
use mathlib.Core.Logic.{◌↔◌}
use mathlib.Core.List.{List, [], ◌∷◌, ◌++◌, append-nil}
use Prim.Native.Nat.{ℕ, ◌+◌, ◌-◌, ◌*◌, ◌≤◌, ◌<◌}
use native.Mathlib.Omega.{arith}
use lib.Dec.{eqb, ltb}
use lib.ListN.{length, take, drop}
use lib.Seq.{take_at}
use Rattle.ground.specs.Choice.{pick}
use Rattle.ground.specs.declared.refusals.Refusal.TheVariants.{NoRoom, OverLimit}
use Rattle.ground.proofs.Choices.{pick_true, by_test, by_pick}
use Rattle.ground.proofs.Tests.{both_first, both_second}
use Rattle.values.specs.declared.pages.Page.{Page}
use Rattle.records.specs.Text.{Rec, close}
use Rattle.reader.specs.Lines.{records_in}
use Rattle.reader.specs.Answers.{size_of, room_of, read_of, runs_in}
use Rattle.std.specs.Prelude.{Result, Ok, Err, IsOk, IsOkAnd}
use Rattle.ground.specs.declared.refusals.Refusal.{Refusal}
use Rattle.reader.specs.declared.Read.{Read}
use Rattle.decoder.specs.declared.Decoded.{Decoded}
use Rattle.decoder.specs.Origin.{origin}
use Rattle.decoder.specs.Run.{run_of}
use Rattle.instruction.specs.declared.Record.{Record}
use Rattle.instruction.specs.declared.Built.{Built}
use Rattle.instruction.specs.Building.{size_told}
use Rattle.laying.specs.Entries.{rows_in, entries_of}
use Rattle.laying.specs.Laying.{built_at, size_at, lay_from, most_rows, lay_of}
use Rattle.laying.specs.Meant.{meanings_from, all_meet}
use Rattle.laying.proofs.Builds.{built_told}
use Rattle.laying.proofs.Exactly.{laid_exactly}
use Rattle.laying.proofs.Decodes.{as_many}
use Rattle.roundtrip.specs.Demand.{text_for, decoded_in, back_from}
use Rattle.roundtrip.specs.Same.{all_agree}
use Rattle.roundtrip.specs.Comparing.{answer, against, read_against, text_against, all_room, compared_as, compare_of, Says, Equal}
use Rattle.roundtrip.specs.LaidText.{written_as, buffer_as, laid_text, laid_buffer}
use Rattle.roundtrip.specs.declared.Compared.{Compared}
use Rattle.roundtrip.proofs.Same.{read, read_tells, all_equal, all_itself, agreed_itself}
use Rattle.roundtrip.proofs.Demand.{entries_many, demand_three}

-- ---- a text's runs against instructions
none_meant : (means : List Decoded) → [] ≡ read means → means ≡ []
none_meant means e = sym (read_tells [] means e)

against_says :
    (means : List Decoded) (address : ℕ) (page : Page) (rs : List Rec) → (against means address page rs).equal ≡ true → Says rs address page means
against_says means address page [] = λ e. none_meant means (all_equal means [] e)
against_says means address page (r ∷ []) =
    let ds = run_of r.bytes (origin address page) in
    by_test (λ (x : Compared). x.equal ≡ true → Says (r ∷ []) address page means) (eqb r.address address)
    (λ t e. (eqb-true r.address address t, all_equal means ds (both_first (all_agree means ds) true e)))
    (λ _ e. absurd (false≢true e))
against_says means address page (r ∷ s ∷ rs) =
    let ds = run_of r.bytes (origin address page) in
    by_pick (λ (x : Compared). x.equal ≡ true → ⊥) (eqb r.address address)
    (λ e. false≢true (both_second (all_agree means ds) false e))
    (λ e. false≢true e)

says_against :
    (means : List Decoded) (address : ℕ) (page : Page) (rs : List Rec) → Says rs address page means → against means address page rs ≡ answer true (length means)
says_against means address page [] e = rw e refl
says_against means address page (r ∷ []) e =
    pick_true _ _ (eq-eqb r.address address e.0) ∙ rw (e.1, all_itself means, agreed_itself means) refl
says_against means address page (r ∷ s ∷ rs) e = absurd e

-- ---- what 'equal' means
module _ (list : List ℕ) (address : ℕ) (page : Page) (text : List ℕ) where
  abbrev means : List Decoded
  means = meanings_from (entries_of list) address

  -- told equal
  abbrev pub IsEqual : Result Compared Refusal → Type 0
  IsEqual c = IsOkAnd c (λ x. x.equal ≡ true)

  equal_by : (o : Result (List ℕ) Refusal) → lay_of list address all_room ≡ o → IsEqual (compared_as o means address page text) → Equal list address page text
  unfolding text_against
  equal_by (Err x) q = λ e. absurd e
  equal_by (Ok bytes) q =
      by (size_of (records_in text)) refl
    where
      by :
          (s : Result Read Refusal) → size_of (records_in text) ≡ s →
          IsEqual (read_against s means address page (runs_in text)) → Equal list address page text
      by (Ok size) r e = record { bytes = bytes; laid = q; read = rw r; says = against_says means address page (runs_in text) e }
      by (Err x) r e = absurd e

  -- a text that is read is compared by its runs
  read_by : (s : Result Read Refusal) → IsOk s → read_against s means address page (runs_in text) ≡ Ok (against means address page (runs_in text))
  read_by (Ok size) k = refl
  read_by (Err x) k = absurd (false≢true k)

  equal_means : IsEqual (compare_of list address page text) → Equal list address page text
  unfolding compare_of
  equal_means e = equal_by (lay_of list address all_room) refl e

  -- the answer then has the count of the instructions for its place
  pub equal_answers : Equal list address page text → compare_of list address page text ≡ Ok (answer true (rows_in list))
  unfolding compare_of text_against
  equal_answers q =
      ap (λ (o : Result (List ℕ) Refusal). compared_as o means address page text) q.laid
      ∙ read_by (size_of (records_in text)) q.read
      ∙ ap Ok (says_against means address page (runs_in text) q.says ∙ ap (answer true) (as_many (entries_of list) address ∙ entries_many list))

  pub compare_equal_means : IsEqual (compare_of list address page text) ↔ Equal list address page text
  compare_equal_means = (equal_means, λ q. rw (equal_answers q) refl)

-- a text says one thing under a page
says_alike :
    (rs : List Rec) (address : ℕ) (page : Page) (these those : List Decoded) → Says rs address page these → Says rs address page those → these ≡ those
says_alike [] address page these those p q = p ∙ sym q
says_alike (r ∷ []) address page these those p q = read_tells these those (sym p.1 ∙ q.1)
says_alike (r ∷ s ∷ rs) address page these those p q = absurd p

-- and so no text is equal to two lists that differ in meaning, whatever pages their records have
pub equal_alike :
    (xs ys : List ℕ) (address : ℕ) (page : Page) (text : List ℕ) →
    IsOkAnd (compare_of xs address page text) (λ c. c.equal ≡ true) →
    IsOkAnd (compare_of ys address page text) (λ c. c.equal ≡ true) →
    meanings_from (entries_of xs) address ≡ meanings_from (entries_of ys) address
equal_alike xs ys address page text p q =
    says_alike (runs_in text) address page (meanings_from (entries_of xs) address) (meanings_from (entries_of ys) address)
    (equal_means xs address page text p).says (equal_means ys address page text q).says

-- ---- the text that is written
-- what the reader takes with some room is no text that it refuses
read_size : (room cells : ℕ) (s : Result Read Refusal) (r : Read) → room_of room cells s ≡ Ok r → IsOk s
read_size room cells (Ok size) r e = refl
read_size room cells (Err x) r e = let z : ◌≡◌ {A = ℕ} 0 1 = cc in absurd (omega arith)

one_says :
    (page : Page) (address : ℕ) (bytes : List ℕ) (means : List Decoded) →
    decoded_in page (close address bytes []) ≡ read means →
    Says (close address bytes []) address page means
one_says page address [] means e = none_meant means e
one_says page address (b ∷ bytes) means e = (refl, sym (append-nil (run_of (b ∷ bytes) (origin address page))) ∙ e)

-- a list that is laid is laid with all the room there is
laid_ample : (list : List ℕ) (address room : ℕ) (bytes : List ℕ) → address < 65536 → lay_of list address room ≡ Ok bytes → lay_of list address all_room ≡ Ok bytes
laid_ample list address room bytes h e =
    let f = (laid_exactly list address room (omega arith) bytes).0 e in
    (laid_exactly list address all_room (omega arith) bytes).1
    (f.0, record { built = f.1.built; within = f.1.within; enough = omega (arith, f.1.within) }, f.2)

pub written_compares :
    (page : Page) (list : List ℕ) (address room : ℕ) (bytes : List ℕ) →
    address < 65536 →
    all_meet page (entries_of list) ≡ true →
    lay_of list address room ≡ Ok bytes →
    compare_of list address page (text_for address bytes) ≡ Ok (answer true (rows_in list))
unfolding read_of back_from
written_compares page list address room bytes h m e =
    let back = demand_three page list address room bytes h m e in
    let text = text_for address bytes in
    let run = back.run in
    equal_answers list address page text (record {
      bytes = bytes;
      laid = laid_ample list address room bytes h e;
      read = read_size (length bytes) 2 (size_of (records_in text)) _ (back.read (length bytes) 2 (omega arith) (omega arith));
      says = rw run (one_says page address bytes (meanings_from (entries_of list) address) (rw run at back.same));
    })

-- what is written was laid
text_laid :
    (o : Result (List ℕ) Refusal) (address room n : ℕ) → written_as o address room ≡ Ok n → (bytes : List ℕ) × (o ≡ Ok bytes)
text_laid (Ok bytes) address room n z = (bytes, refl)
text_laid (Err x) address room n z = cc

-- and the front of the buffer is its text
text_stored :
    (address n : ℕ) (bytes out : List ℕ) → written_as (Ok bytes) address (length out) ≡ Ok n →
    take n (buffer_as (Ok bytes) address out) ≡ text_for address bytes
unfolding pick
text_stored address n bytes out = by (ltb (length out) (length text))
  where
    text : List ℕ
    text = text_for address bytes

    by :
        (short : Bool) → ◌≡◌ {A = Result ℕ Refusal} (pick short (Err NoRoom) (Ok (length text))) (Ok n) →
        take n (pick short out (text ++ drop (length text) out)) ≡ text
    by true z = cc
    by false z = let e : n ≡ length text = cc in take_at text (drop (length text) out) n (sym e)

-- the whole way: what was laid and written into a buffer is found equal
pub laid_text_compares :
    (page : Page) (list : List ℕ) (address n : ℕ) (out : List ℕ) →
    address < 65536 →
    all_meet page (entries_of list) ≡ true →
    laid_text list address (length out) ≡ Ok n →
    compare_of list address page (take n (laid_buffer list address out)) ≡ Ok (answer true (rows_in list))
unfolding laid_text laid_buffer
laid_text_compares page list address n out h m z =
    let l = text_laid (lay_of list address all_room) address (length out) n z in
    let w : written_as (Ok l.0) address (length out) ≡ Ok n = rw l.1 at z in
    rw (l.1, text_stored address n l.0 out w) (written_compares page list address all_room l.0 h m l.1)

-- ---- room for every list
five_most : (entry : Record) (at : ℕ) → size_told (built_at entry at) ≤ 5
five_most entry at = (built_told entry at).most

size_ample :
    (b : Result Built Refusal) (at room more : ℕ) → size_told b ≤ room → size_told b ≤ more → size_at b at room ≡ size_at b at more
size_ample (Ok b) at room more h k = rw (le-ltb room b.length h, le-ltb more b.length k) refl
size_ample (Err e) at room more h k = refl

from_ample : (entries : List Record) (at room more : ℕ) → 5 * length entries ≤ room → 5 * length entries ≤ more → lay_from entries at room ≡ lay_from entries at more
unfolding lay_from
from_ample [] at room more h k = refl
from_ample (entry ∷ entries) at room more h k =
    let b = built_at entry at in
    let most = five_most entry at in
    let same = size_ample b at room more (omega arith) (omega arith) in
    let rest = from_ample entries (at + size_told b) (room - size_told b) (more - size_told b) (omega arith) (omega arith) in
    rw (same, rest) refl

-- 1,024 instructions have at most 5,120 bytes, so more room changes nothing
pub room_ample : (list : List ℕ) (address room : ℕ) → 5120 ≤ room → lay_of list address room ≡ lay_of list address all_room
unfolding lay_of
room_ample list address room h = go (ltb most_rows (rows_in list)) refl
  where
    go :
        (t : Bool) → ltb most_rows (rows_in list) ≡ t →
        pick t (Err OverLimit) (lay_from (entries_of list) address room) ≡ pick t (Err OverLimit) (lay_from (entries_of list) address all_room)
    go true t = pick_true _ _ refl ∙ sym (pick_true _ _ refl)
    go false t =
        let few = ltb-false most_rows (rows_in list) t in
        let many = entries_many list in
        ap (pick false (Err OverLimit)) (from_ample (entries_of list) address room all_room (omega arith) (omega arith))
