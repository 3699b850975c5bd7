-- How long a listing is: at most 8 characters for each byte that is read, of which a text has one for each two of its characters, and the last line.
-- Assumes nothing.
use mathlib.Core.Path.{◌≡◌, refl, sym, ap, subst}
use mathlib.Core.List.{List, [], ◌∷◌}
use Prim.Native.Nat.{ℕ, zero, suc, ◌+◌, ◌*◌, ◌≤◌, ◌<◌}
use native.Mathlib.Nat.{not-suc-le-zero}
use native.Mathlib.Omega.{arith}
use lib.ListN.{length, take, drop, length-append, length-drop}
use lib.Seq.{length-take-le}
use Rattle.std.specs.Prelude.{Option, Some, None, Ok, Err}
use Rattle.ground.specs.declared.refusals.Refusal.{Refusal}
use Rattle.ground.specs.Refusals.{number_of}
use Rattle.ground.proofs.Choices.{by_pick}
use Rattle.ground.specs.declared.refusals.Refusal.TheVariants.{Beyond}
use Rattle.records.specs.Text.{Rec}
use Rattle.reader.specs.Answers.{bytes_of, runs_in}
use Rattle.decoder.specs.declared.Origin.{Origin}
use Rattle.decoder.specs.Origin.{shifted, outside}
use Rattle.decoder.specs.Meaning.{Answer}
use Rattle.decoder.specs.Front.{front_of}
use Rattle.decoder.specs.Run.{run_from, run_of}
use Rattle.decoder.proofs.Runs.{accepted_size, moved, stopped}
use Rattle.listing.specs.Lines.{line_of, end, refused}
use Rattle.listing.specs.Listing.{Lines, Instruction, Refused, read_from, in_run, in_runs, refusal_of, lines_by, lines_of, printed, listing_of}
use Rattle.listing.proofs.Writing.{line_length, last_short}
use Rattle.listing.proofs.Texts.{data_small}
use Rattle.listing.proofs.Walking.{taken}

-- lines that have at most so many characters, whatever stands before them
abbrev Short : ℕ → Lines → Type 0
Short n l = (count : ℕ) → length (printed count l) ≤ n

refused_short : (n number : ℕ) → 14 ≤ n → Short n (Refused number)
refused_short n number h count = omega (arith, h, last_short refused number)

module _ (rest : Lines) (n : ℕ) (least : 14 ≤ n) (after : Short n rest) where
  abbrev Fits : List ℕ → List Answer → Type 0
  Fits l ds = (address : ℕ) → Short (8 * length l + n) (in_run address l ds rest)

  -- an instruction and what follows it, or a refused one
  one_more :
      (l : List ℕ) (from : Origin) (x : Answer) → front_of l from ≡ x → 0 < length l →
      ((k : ℕ) → 1 ≤ k → k ≤ length l → Fits (drop k l) (run_from 0 (drop k l) (shifted from k))) →
      Fits l (run_from 0 l from)
  one_more l from (Ok d) e h ih address count =
      let s = accepted_size l from d e in
      let k = d.length in
      let own = take k l in
      let later = in_run (address + k) (drop k l) (run_from 0 (drop k l) (shifted from k)) rest in
      let same : in_run address l (run_from 0 l from) rest ≡ Instruction address own later
      = ap (λ (ds : List Answer). in_run address l ds rest) (moved l from d e) in
      subst (λ (x : Lines). length (printed count x) ≤ 8 * length l + n) (sym same)
      (omega (
        arith,
        s.0,
        s.1,
        length-append (line_of address own) (printed (count + 1) later),
        line_length address own,
        length-take-le k l s.1,
        ih k s.0 s.1 (address + k) (count + 1),
        length-drop k l,
      ))
  one_more l from (Err r) e h ih address count =
      let same : in_run address l (run_from 0 l from) rest ≡ Refused (number_of r)
      = ap (λ (ds : List Answer). in_run address l ds rest) (stopped l from r h e) in
      subst (λ (x : Lines). length (printed count x) ≤ 8 * length l + n) (sym same) (omega (arith, refused_short n (number_of r) least count))

  run_fits : (k : ℕ) (l : List ℕ) (from : Origin) → length l < k → Fits l (run_from 0 l from)
  unfolding run_from
  run_fits zero l from h = absurd (not-suc-le-zero h)
  run_fits (suc k) [] from h = λ address count. omega (arith, after count)
  run_fits (suc k) (b ∷ l) from h =
      one_more (b ∷ l) from (front_of (b ∷ l) from) refl (omega arith)
      (λ j p q. run_fits k (drop j (b ∷ l)) (shifted from j) (omega (arith, h, p, q, length-drop j (b ∷ l))))

  beyond_fits : (l : List ℕ) → Fits l (Err Beyond ∷ [])
  beyond_fits l address count = omega (arith, refused_short n (number_of Beyond) least count)

  whole_fits : (l : List ℕ) (from : Origin) → Fits l (run_of l from)
  unfolding run_of
  whole_fits l from =
      by_pick (Fits l) (outside l from) (beyond_fits l) (run_fits (suc (length l)) l from (omega arith))

runs_fit : (rs : List Rec) → Short (8 * length (bytes_of rs) + 14) (in_runs rs)
runs_fit [] count = omega (arith, last_short end count)
runs_fit (r ∷ rs) count =
    omega (
      arith,
      whole_fits (in_runs rs) (8 * length (bytes_of rs) + 14) (omega arith) (runs_fit rs) r.bytes (read_from r.address) r.address count,
      length-append r.bytes (bytes_of rs),
    )

-- a buffer of 262,158 bytes always has room: 4 times 65,536, and 14 for the last line
pub listing_length : (text : List ℕ) → length (listing_of text) ≤ 262158
unfolding listing_of lines_of
listing_length text = by (refusal_of text) refl
  where
    by : (o : Option Refusal) → refusal_of text ≡ o → length (printed 0 (lines_by o (runs_in text))) ≤ 262158
    by None z = omega (arith, runs_fit (runs_in text) 0, data_small text, (taken text z).short)
    by (Some e) z = refused_short 262158 (number_of e) (omega arith) 0
