-- The runs of a text, one after the other: the run that is read at a place is the first of those from there on.
-- Assumes nothing.
use borrow.Author.Tests.{not-true}
use mathlib.Core.Path.{◌≡◌, refl, sym, ap, ◌∙◌, subst}
use mathlib.Core.Bool.{true, false, false≢true}
use mathlib.Core.List.{List, [], ◌∷◌}
use Prim.Native.Nat.{ℕ, zero, suc, ◌+◌, ◌*◌, ◌≤◌, ◌<◌}
use native.Mathlib.Nat.{not-suc-le-zero}
use native.Mathlib.Omega.{arith}
use lib.Dec.{eqb}
use lib.ListN.{length, get_or, take, drop, length-append, length-take, length-drop}
use lib.Seq.{take-append_seam}
use Rattle.std.specs.Prelude.{Option, Some, None, Result, Ok, Err, IsOk}
use Rattle.std.specs.Result.{result_err}
use Rattle.ground.specs.declared.refusals.Refusal.{Refusal}
use Rattle.ground.specs.Choice.{pick}
use Rattle.ground.proofs.Choices.{by_pick}
use Rattle.records.specs.Text.{Rec}
use Rattle.records.specs.Runs.{runs_of}
use Rattle.reader.specs.Digits.{pair_of, led_by, bytes_in, behind}
use Rattle.reader.specs.Lines.{count_of, data_of, after_end, Front, Record, EndRecord, NoRecord, record_of, line_in, Found, Good, Bad, more, found, records_in}
use Rattle.reader.specs.Answers.{too_far, bytes_of, size_of, runs_found, runs_in, onto}
use Rattle.reader.specs.Ahead.{run_of, asked_of, read_run_of, handed_bytes, RunReadIs}
use Rattle.reader.specs.Steps.{fine}
use Rattle.reader.specs.declared.Read.{Read}
use Rattle.reader.specs.declared.runs.Run.{Run}
use Rattle.reader.proofs.Joins.{bytes_runs}
use Rattle.reader.proofs.Records.{records_on}
use Rattle.reader.proofs.Handing.{same_run, asked_refused, asked_there, Near, run_near, read_asked, fits_answer}
use Rattle.reader.proofs.Tallies.{fine_size}
use Rattle.reader.proofs.Ahead.{run_handed, run_none}

-- the run read at a place: the first of the runs from there on, and the others from the place after it on
pub record Next (text : List ℕ) (at : ℕ) (r : Run) (d : List ℕ) : Type 0 where
  pub run : Rec
  pub runs : runs_in (drop at text) ≡ run ∷ runs_in (drop r.next text)
  pub place : r.address ≡ run.address
  pub long : r.bytes ≡ length run.bytes
  pub bytes : take r.bytes d ≡ run.bytes
  pub near : r.address + r.bytes ≤ 65536
  pub right : fine (records_in (drop r.next text)) ≡ true

module _ (text : List ℕ) (size : Read) (whole : size_of (records_in text) ≡ Ok size) (at : ℕ) where
  asked : asked_of text at ≡ run_of text at
  asked = asked_there text at size whole

  -- with room for any run it is no refusal
  reads_by : (f : Found) → records_in (drop at text) ≡ f → fine f ≡ true → (d : List ℕ) → 65536 ≤ length d → IsOk (read_run_of text at (length d))
  reads_by (Good []) h n d room = rw (fits_answer text at _ (asked ∙ run_none text at h) d (omega arith))
  reads_by (Good (q ∷ rs)) h n d room =
      let x = run_handed text at q rs (not-true (too_far (q ∷ rs)) n) h in
      let near = subst Near x.answer (run_near text at) in
      rw (fits_answer text at _ (asked ∙ x.answer) d (omega (arith, near, room)))
  reads_by Bad h n d room = absurd (false≢true n)

  pub reads : fine (records_in (drop at text)) ≡ true → (d : List ℕ) → 65536 ≤ length d → (r : Result Run Refusal) (e : List ℕ) → RunReadIs text at d r e → IsOk r
  reads n d room r e w = rw w.answer (reads_by (records_in (drop at text)) refl n d room)

module _ (text : List ℕ) (size : Read) (whole : size_of (records_in text) ≡ Ok size) (at : ℕ) (d : List ℕ) (r : Run) (e : List ℕ)
    (w : RunReadIs text at d (Ok r) e) where
  there : run_of text at ≡ Ok r
  there = sym (asked text size whole at) ∙ read_asked text at (length d) r (sym w.answer)

  none_by : (rs : List Rec) → records_in (drop at text) ≡ Good rs → too_far rs ≡ false → r.bytes ≡ 0 → runs_of rs ≡ []
  none_by [] h n z = refl
  none_by (q ∷ rs) h n z =
      let x = run_handed text at q rs n h in
      let no : ⊥ = omega (arith, x.some, z, ap (λ (y : Run). y.bytes) (same_run r _ (sym there ∙ x.answer))) in
      absurd no

  some_by : (rs : List Rec) → records_in (drop at text) ≡ Good rs → too_far rs ≡ false → (r.bytes ≡ 0 → ⊥) → Next text at r e
  unfolding runs_in onto
  some_by [] h n z = absurd (z (ap (λ (y : Run). y.bytes) (same_run r _ (sym there ∙ run_none text at h))))
  some_by (q ∷ rs) h n z =
      let x = run_handed text at q rs n h in
      let same = same_run r _ (sym there ∙ x.answer) in
      let on : r.next ≡ x.next = ap (λ (y : Run). y.next) same in
      let later : records_in (drop r.next text) ≡ Good x.later = ap (λ (k : ℕ). records_in (drop k text)) on ∙ x.rest in
      let stored : e ≡ onto x.run.bytes d
      = w.bytes ∙ ap (λ (q : Result Run Refusal). onto (handed_bytes q text at) d) (sym w.answer) ∙ ap (λ (l : List ℕ). onto l d) x.bytes in
      let long : r.bytes ≡ length x.run.bytes = ap (λ (y : Run). y.bytes) same in
      record {
        run = x.run;
        runs = ap runs_found h ∙ x.runs ∙ ap (λ (l : List Rec). x.run ∷ l) (sym (ap runs_found later));
        place = ap (λ (y : Run). y.address) same;
        long = long;
        bytes = ap (λ (l : List ℕ). take r.bytes l) stored
            ∙ ap (λ (k : ℕ). take k (onto x.run.bytes d)) long
            ∙ take-append_seam x.run.bytes (drop (length x.run.bytes) d);
        near = subst Near there (run_near text at);
        right = ap fine later ∙ rw x.near;
      }

  by_found : {P : Type 0} → fine (records_in (drop at text)) ≡ true → ((rs : List Rec) → records_in (drop at text) ≡ Good rs → too_far rs ≡ false → P) → P
  by_found {P} g k = go (records_in (drop at text)) refl g
    where
      go : (f : Found) → records_in (drop at text) ≡ f → fine f ≡ true → P
      go (Good rs) q t = k rs q (not-true (too_far rs) t)
      go Bad q t = absurd (false≢true t)

  pub no_run : fine (records_in (drop at text)) ≡ true → r.bytes ≡ 0 → runs_in (drop at text) ≡ []
  unfolding runs_in
  no_run g z = by_found g (λ rs h n. ap runs_found h ∙ none_by rs h n z)

  pub next_run : fine (records_in (drop at text)) ≡ true → (r.bytes ≡ 0 → ⊥) → Next text at r e
  next_run g z = by_found g (λ rs h n. some_by rs h n z)

-- the first call tells the refusal of the whole text
first_refusal_lem : (text : List ℕ) (f : Found) (size : Read) → records_in text ≡ f → size_of f ≡ Ok size → result_err (run_of text 0) ≡ None
first_refusal_lem text (Good []) size e z = ap result_err (run_none text 0 e)
first_refusal_lem text (Good (r ∷ rs)) size e z =
    ap result_err (run_handed text 0 r rs (not-true (too_far (r ∷ rs)) (fine_size (Good (r ∷ rs)) size z)) e).answer
first_refusal_lem text Bad size e z = absurd (false≢true (fine_size Bad size z))

refusal_by : (text : List ℕ) (s : Result Read Refusal) → size_of (records_in text) ≡ s → result_err (asked_of text 0) ≡ result_err s
refusal_by text (Ok size) z = ap result_err (asked_there text 0 size z) ∙ first_refusal_lem text (records_in text) size refl z
refusal_by text (Err e) z = ap result_err (asked_refused text 0 e refl z)

pub asked_refusal : (text : List ℕ) → result_err (asked_of text 0) ≡ result_err (size_of (records_in text))
asked_refusal text = refusal_by text (size_of (records_in text)) refl

-- ---- a text has at least two characters for each byte of its runs
abbrev data_in : Found → ℕ
data_in f = length (bytes_of (runs_found f))

led_small : (o : Option ℕ) (bs : List ℕ) (n : ℕ) → 2 * length bs ≤ n → 2 * length (led_by o bs) ≤ suc (suc n)
led_small (Some b) bs n h = omega (arith, h)
led_small None bs n h = omega arith

digits_small : (s : List ℕ) → 2 * length (bytes_in s) ≤ length s
digits_small [] = omega arith
digits_small (h ∷ []) = omega arith
digits_small (h ∷ l ∷ s) = led_small (pair_of h l) (bytes_in s) (length s) (digits_small s)

abbrev Fits : List ℕ → Front → Type 0
Fits s (Record r after) = 2 * length r.bytes + length after < length s
Fits s EndRecord = Unit
Fits s NoRecord = Unit

line_fits : (s : List ℕ) → Fits s (line_in s)
unfolding line_in record_of data_of after_end behind
line_fits [] = tt
line_fits (c ∷ s) =
    let bs = bytes_in s in
    let step : ℕ = pick (eqb (get_or (behind s) 0 0) 13) 2 1 in
    by_pick (Fits (c ∷ s)) _
    (by_pick (Fits (c ∷ s)) _
    (omega (
      arith,
      digits_small s,
      length-take (count_of bs) (drop 4 bs),
      length-drop 4 bs,
      length-drop (2 * length bs) s,
      length-drop step (behind s),
    ))
    (by_pick (Fits (c ∷ s)) _ tt tt))
    tt

more_data : (r : Rec) (f : Found) → data_in (more r f) ≤ length r.bytes + data_in f
more_data r (Good rs) =
    omega (arith, ap length (bytes_runs (r ∷ rs)), ap length (bytes_runs rs), length-append r.bytes (bytes_of rs))
more_data r Bad = omega arith

found_data : (s : List ℕ) (f : Front) → Fits s f → ((t : List ℕ) → length t < length s → 2 * data_in (records_in t) ≤ length t) → 2 * data_in (found f records_in) ≤ length s
found_data s (Record r after) h ih = omega (arith, h, ih after (omega (arith, h)), more_data r (records_in after))
found_data s EndRecord h ih = omega arith
found_data s NoRecord h ih = omega arith

data_under : (k : ℕ) (s : List ℕ) → length s < k → 2 * data_in (records_in s) ≤ length s
data_under zero s h = absurd (not-suc-le-zero h)
data_under (suc k) s h =
    subst (λ (f : Found). 2 * data_in f ≤ length s) (sym (records_on s))
    (found_data s (line_in s) (line_fits s) (λ t l. data_under k t (omega (arith, h, l))))

pub data_small : (text : List ℕ) → 2 * length (bytes_of (runs_in text)) ≤ length text
unfolding runs_in
data_small text = data_under (suc (length text)) text (omega arith)
