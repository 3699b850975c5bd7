-- Demand 3: laying, writing, reading and decoding give back what the records mean; and so lists that differ in meaning never share a text.
-- Assumes nothing.
use borrow.Author.Tests.{le-ltb}
use mathlib.Core.Path.{◌≡◌, refl, sym, ap, ◌∙◌}
use mathlib.Core.Bool.{true}
use mathlib.Core.List.{List, [], ◌∷◌, append-nil}
use Prim.Native.Nat.{ℕ, zero, suc, ◌+◌, ◌%◌, ◌≤◌, ◌<◌}
use native.Mathlib.Omega.{arith}
use lib.ListN.{length}
use Rattle.std.specs.Prelude.{Ok}
use Rattle.ground.proofs.Choices.{pick_false}
use Rattle.values.specs.declared.pages.Page.{Page}
use Rattle.values.specs.Pages.{meets}
use Rattle.values.proofs.Reached.{meets_same}
use Rattle.records.specs.Text.{Rec, close}
use Rattle.records.specs.Fine.{Bytes}
use Rattle.records.proofs.Fine.{bytes_append}
use Rattle.reader.specs.Answers.{runs_in}
use Rattle.decoder.specs.Origin.{origin, outside}
use Rattle.decoder.specs.Run.{run_from, run_of, refusal_in, total_of}
use Rattle.instruction.specs.declared.Record.{Record}
use Rattle.instruction.specs.Building.{bytes_told, size_told}
use Rattle.laying.specs.Entries.{rows_in, entries_from, entries_of}
use Rattle.laying.specs.Laying.{built_at, lay_from, lay_of}
use Rattle.laying.specs.Exactly.{bytes_from}
use Rattle.laying.specs.Meant.{meanings_from, all_meet}
use Rattle.laying.proofs.Exactly.{fits_laid, laid_exactly}
use Rattle.laying.proofs.Decodes.{laid_decodes, laid_whole}
use Rattle.roundtrip.specs.Demand.{decoded_in, back_from, DemandThree, TextsTell, OnePage, DemandOnePage, TextsTellOnePage}
use Rattle.entries.proofs.Small.{fresh_bytes}
use Rattle.roundtrip.proofs.Same.{read_tells}
use Rattle.roundtrip.proofs.Written.{object_written, object_run, object_read}

-- ---- what was laid
laid_bytes : (entries : List Record) (at : ℕ) → Bytes (bytes_from entries at)
unfolding bytes_from built_at
laid_bytes [] at = tt
laid_bytes (entry ∷ entries) at =
    bytes_append (bytes_told (built_at entry at)) (bytes_from entries (at + size_told (built_at entry at)))
    (fresh_bytes entry (at % 65536)) (laid_bytes entries (at + size_told (built_at entry at)))

rows_many : (rows : ℕ) (list : List ℕ) (at : ℕ) → length (entries_from rows list at) ≡ rows
unfolding entries_from
rows_many zero list at = refl
rows_many (suc rows) list at = ap suc (rows_many rows list (at + 21))

pub entries_many : (list : List ℕ) → length (entries_of list) ≡ rows_in list
unfolding entries_of
entries_many list = rows_many (rows_in list) list 0

-- ---- one run is decoded as it stands
pub one_decoded : (page : Page) (address : ℕ) (bytes : List ℕ) → address ≤ 65536 → decoded_in page (close address bytes []) ≡ run_of bytes (origin address page)
unfolding run_of outside run_from
one_decoded page address [] h = sym (pick_false _ _ (le-ltb 65536 (address + 0) (omega arith)))
one_decoded page address (b ∷ bytes) h = append-nil (run_of (b ∷ bytes) (origin address page))

-- ---- what was laid: bytes, none beyond 65535, of the list's instructions
pub record Taken (list : List ℕ) (address room : ℕ) (bytes : List ℕ) : Type 0 where
  pub small : Bytes bytes
  pub near : address + length bytes ≤ 65536
  pub laid : lay_from (entries_of list) address room ≡ Ok bytes

pub laid_taken : (list : List ℕ) (address room : ℕ) (bytes : List ℕ) → address < 65536 → lay_of list address room ≡ Ok bytes → Taken list address room bytes
laid_taken list address room bytes h e =
    let entries = entries_of list in
    let exact = (laid_exactly list address room (omega arith) bytes).0 e in
    record {
      small = rw exact.2 (laid_bytes entries address);
      near = omega (arith, exact.1.within, ap length exact.2);
      laid = fits_laid entries address room exact.1 ∙ ap Ok (sym exact.2);
    }

pub demand_three : DemandThree
unfolding back_from
demand_three page list address room bytes h m e =
    let t = laid_taken list address room bytes h e in
    let all = laid_whole page (entries_of list) address room bytes (omega arith) m t.laid in
    let run = object_run address bytes t.small t.near in
    let decoded : back_from page address bytes ≡ run_of bytes (origin address page) =
    ap (decoded_in page) run ∙ one_decoded page address bytes (omega arith) in
    record {
      written = object_written address bytes t.small t.near;
      read = object_read address bytes t.small t.near;
      run = run;
      same = decoded ∙ laid_decodes page (entries_of list) address room bytes (omega arith) m t.laid;
      number = ap length decoded ∙ all.1 ∙ entries_many list;
      accepted = ap refusal_in decoded ∙ all.0;
      whole = ap total_of decoded ∙ all.2;
    }

-- ---- one run tells its bytes, and its address where it has any
record SameRun (a b : ℕ) (xs ys : List ℕ) : Type 0 where
  bytes : xs ≡ ys
  place : 0 < length xs → a ≡ b

same_run : (a b : ℕ) (xs ys : List ℕ) → close a xs [] ≡ close b ys [] → SameRun a b xs ys
same_run a b [] [] e = record { bytes = refl; place = λ h. absurd (omega arith) }
same_run a b [] (y ∷ ys) e = absurd (omega (arith, ap length e))
same_run a b (x ∷ xs) [] e = absurd (omega (arith, ap length e))
same_run a b (x ∷ xs) (y ∷ ys) e =
    let r : ◌≡◌ {A = Rec} (record { address = a; bytes = x ∷ xs }) (record { address = b; bytes = y ∷ ys }) = cc in
    record { bytes = ap (λ (p : Rec). p.bytes) r; place = λ _. ap (λ (p : Rec). p.address) r }

pub texts_tell : TextsTell
unfolding back_from
texts_tell page xs ys a b roomx roomy these those ha hb ma mb ea eb t =
    let p = demand_three page xs a roomx these ha ma ea in
    let q = demand_three page ys b roomy those hb mb eb in
    let s = same_run a b these those (sym p.run ∙ ap runs_in t ∙ q.run) in
    record {
      means = read_tells (meanings_from (entries_of xs) a) (meanings_from (entries_of ys) b)
          (sym p.same ∙ ap (λ (text : List ℕ). decoded_in page (runs_in text)) t ∙ q.same);
      bytes = s.bytes;
      place = s.place;
    }

-- ---- a list under one page
pub one_page : (page : Page) (entries : List Record) → OnePage page entries → all_meet page entries ≡ true
unfolding all_meet
one_page page [] o = refl
one_page page (entry ∷ entries) o =
    let own : meets page entry.page ≡ true = rw o.0 (meets_same page) in
    rw (own, one_page page entries o.1)

pub one_page_demand : DemandOnePage
one_page_demand page list address room bytes h o = demand_three page list address room bytes h (one_page page (entries_of list) o)

pub one_page_tells : TextsTellOnePage
one_page_tells page xs ys a b roomx roomy these those ha hb oa ob =
    texts_tell page xs ys a b roomx roomy these those ha hb (one_page page (entries_of xs) oa) (one_page page (entries_of ys) ob)
