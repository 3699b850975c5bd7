-- A reader that keeps its place hands out the runs of the text, the same in the same order as `read_text`; and a text that `read_text` refuses is refused at
-- its start, before any run is handed out.
-- Assumes nothing.
use borrow.Author.Tests.{not-true}
use mathlib.Core.Path.{◌≡◌, refl, sym, ap, ◌∙◌}
use mathlib.Core.Bool.{false}
use mathlib.Core.List.{List, [], ◌∷◌}
use Prim.Native.Nat.{ℕ, zero, suc, ◌<◌}
use native.Mathlib.Nat.{not-suc-le-zero}
use native.Mathlib.Omega.{arith}
use lib.ListN.{length, drop}
use Rattle.std.proofs.Common.{Ok, Err}
use Rattle.ground.specs.declared.refusals.Refusal.{Refusal}
use Rattle.records.specs.Text.{Rec}
use Rattle.records.specs.Runs.{runs_of}
use Rattle.reader.specs.Lines.{Found, Good, Bad, records_in}
use Rattle.reader.specs.Answers.{too_far, size_of, room_of, read_of, runs_found, runs_in}
use Rattle.reader.specs.Ahead.{run_of, asked_of, RunReadIs}
use Rattle.reader.specs.Held.{Hands, HandsOut}
use Rattle.reader.specs.declared.Read.{Read}
use Rattle.reader.proofs.Tallies.{fine_size}
use Rattle.reader.proofs.Handing.{asked_refused, asked_there, fits_answer, run_refused, run_left}
use Rattle.reader.proofs.Ahead.{Handed, run_handed, run_none}

module _ (text : List ℕ) (size : Read) (fine : size_of (records_in text) ≡ Ok size) where
  -- a text that is not refused is refused nowhere, so what is asked at a place is the run there
  asked_run : (at : ℕ) → asked_of text at ≡ run_of text at
  asked_run at = asked_there text at size fine

  hands : (at : ℕ) (rs : List Rec) (h : Handed text at rs) → Hands text at h.run h.next
  hands at rs h = record {
    some = h.some;
    call = λ d room.
        let a = fits_answer text at _ (asked_run at ∙ h.answer) d room in
        record { answer = sym a; bytes = rw (a, h.bytes) };
  }

  -- the records from a place on have fewer than k runs, and those are handed out
  abbrev Fewer : ℕ → Type 0
  Fewer k = (rs : List Rec) (at : ℕ) → length (runs_of rs) < k → records_in (drop at text) ≡ Good rs → too_far rs ≡ false → HandsOut text at (runs_of rs)

  one_more : (k : ℕ) → Fewer k → Fewer (suc k)
  one_more k ih [] at l h n = λ d. run_left text at _ (asked_run at ∙ run_none text at h) d refl
  one_more k ih (r ∷ rs) at l h n =
      let x = run_handed text at r rs n h in
      rw x.runs
      (record { next = x.next; first = hands at (r ∷ rs) x; later = ih x.later x.next (omega (arith, l, ap length x.runs)) x.rest x.near })

  hands_out : (k : ℕ) → Fewer k
  hands_out zero rs at l h n = absurd (not-suc-le-zero l)
  hands_out (suc k) rs at l h n = one_more k (hands_out k) rs at l h n

  same_by : (f : Found) → records_in text ≡ f → HandsOut text 0 (runs_found f)
  same_by (Good rs) e =
      hands_out (suc (length (runs_of rs))) rs 0 (omega arith) e (not-true (too_far rs) (fine_size (Good rs) size (sym (ap size_of e) ∙ fine)))
  same_by Bad e =
      let q = sym (ap size_of e) ∙ fine in
      let z : ◌≡◌ {A = ℕ} 0 1 = cc in absurd (omega arith)

  -- the same runs in the same order as the run reader
  pub held_same : HandsOut text 0 (runs_in text)
  unfolding runs_in
  held_same = same_by (records_in text) refl

-- and the same refusals: the run reader answers one whatever is lent to it, and so does the first call, before any run is handed out, and leaves all
pub record RefusedAlike (text : List ℕ) (e : Refusal) : Type 0 where
  pub there : (room cells : ℕ) → read_of text room cells ≡ Err e
  pub here : (d : List ℕ) → RunReadIs text 0 d (Err e) d

pub held_refused : (text : List ℕ) (e : Refusal) → size_of (records_in text) ≡ Err e → RefusedAlike text e
unfolding read_of
held_refused text e h = record {
  there = λ room cells. ap (room_of room cells) h;
  here = λ d. run_refused text 0 d e (asked_refused text 0 e refl h);
}
