-- What a walk over a text's lines comes to. What is left, added to what was met, is the whole; and the whole is what the definitions say.
-- Assumes nothing.
use borrow.Author.Tests.{ltb-false, eq-eqb, ne_eqb, eqb-true, eqb-false}
use mathlib.Core.Path.{◌≡◌, refl, sym, ap, ◌∙◌, subst}
use mathlib.Core.Bool.{Bool, true, false, not, ◌||◌, or-false, or_assoc, false≢true}
use mathlib.Core.List.{List, [], ◌∷◌}
use Prim.Native.Nat.{ℕ, zero, suc, ◌+◌, ◌-◌, ◌*◌, ◌≤◌, ◌<◌}
use native.Mathlib.Nat.{zero-add}
use native.Mathlib.Omega.{arith}
use lib.Dec.{ltb, eqb}
use lib.ListN.{length, take, drop, set, length-set, length-append}
use lib.Seq.{length-take-le, set-set}
use Rattle.ground.specs.Choice.{pick}
use Rattle.ground.specs.Stores.{put}
use Rattle.ground.proofs.Choices.{pick_true, pick_false, by_pick}
use Rattle.ground.proofs.Stores.{put_length, put_append}
use Rattle.records.specs.Text.{Rec}
use Rattle.records.specs.Runs.{runs_of}
use Rattle.reader.specs.Digits.{bytes_in}
use Rattle.reader.specs.Lines.{Front, Record, EndRecord, NoRecord, line_in, Found, Good, Bad, more, found, records_in}
use Rattle.reader.specs.Answers.{too_far, bytes_of, rows_of, size_of}
use Rattle.reader.specs.Steps.{meant, is_line, LineIs, begins, runs_with, counted, counts, total, totalled, rowed, rows, records_of, fine, start, StoredIs}
use Rattle.reader.specs.declared.Read.{Read}
use Rattle.reader.specs.declared.Tally.{Tally}
use Rattle.reader.specs.declared.Line.{Line}
use Rattle.std.proofs.Common.{Option, Some, None}
use Rattle.std.proofs.Common.{Result, Ok, Err}
use Rattle.ground.specs.declared.refusals.Refusal.{Refusal}
use Rattle.reader.proofs.Records.{records_on}
use Rattle.records.proofs.Joins.{after}
use Rattle.reader.proofs.Joins.{begun, runs_begun, bytes_runs, rows_from, rows_from_lem}

-- a walk stands within the text, and what it counted lies behind it
pub record Walked (s : List ℕ) (at : ℕ) (t : Tally) : Type 0 where
  pub within : at ≤ length s
  pub bytes : 2 * t.bytes ≤ at
  pub runs : 2 * t.runs ≤ at

runs_grow : (t : Tally) (a : ℕ) → runs_with t a ≤ t.runs + 1
unfolding runs_with
runs_grow t a = by_pick (λ (n : ℕ). n ≤ t.runs + 1) (begins t a) (omega arith) (omega arith)

-- the records from a place on, by the line that stands there
line_here : {s : List ℕ} {at : ℕ} (r : Result (Option Line) Refusal) → LineIs s at r → records_in (drop at s) ≡ found (meant s r) records_in
line_here {s} {at} r w = records_on (drop at s) ∙ ap (λ (f : Front). found f records_in) w.says

pub end_here : {s : List ℕ} {at : ℕ} → LineIs s at (Ok None) → records_in (drop at s) ≡ Good []
end_here w = line_here (Ok None) w

pub broken_here : {s : List ℕ} {at : ℕ} (e : Refusal) → LineIs s at (Err e) → records_in (drop at s) ≡ Bad
broken_here e w = line_here (Err e) w

module _ (s : List ℕ) (at : ℕ) (l : Line) (w : LineIs s at (Ok (Some l))) where
  abbrev pub one : Rec
  one = record { address = l.address; bytes = take l.count (bytes_in (drop l.first s)) }

  pub data_here : records_in (drop at s) ≡ more one (records_in (drop l.next s))
  data_here = line_here (Ok (Some l)) w

  pub size_here : length one.bytes ≡ l.count
  size_here = length-take-le l.count (bytes_in (drop l.first s)) w.fits.there

  pub walk_on : (t r : Tally) → Walked s at t → r ≡ counted t l.address l.count → Walked s l.next r
  unfolding counted
  walk_on t r v q = subst (Walked s l.next) (sym q) (record {
    within = w.fits.within;
    bytes = omega (arith, v.bytes, w.fits.long);
    runs = omega (arith, v.runs, runs_grow t l.address, w.fits.some, w.fits.long);
  })

  pub total_on : (t : Tally) → totalled (counted t l.address l.count) (records_in (drop l.next s)) ≡ totalled t (records_in (drop at s))
  total_on t =
      sym
      (ap (totalled t) data_here
      ∙ total_more t one (records_in (drop l.next s))
      ∙ ap (λ (k : ℕ). totalled (counted t l.address k) (records_in (drop l.next s))) size_here)
    where
      total_more : (t : Tally) (r : Rec) (g : Found) → totalled t (more r g) ≡ totalled (counted t r.address (length r.bytes)) g
      total_more t r (Good rs) = refl
      total_more t r Bad = refl

-- the whole
bytes_counted : (rs : List Rec) (t : Tally) → (counts t rs).bytes ≡ t.bytes + length (bytes_of rs)
unfolding counted
bytes_counted [] t = omega arith
bytes_counted (r ∷ rs) t = omega (arith, bytes_counted rs (counted t r.address (length r.bytes)), length-append r.bytes (bytes_of rs))

far_counted : (rs : List Rec) (t : Tally) → (counts t rs).far ≡ t.far || too_far rs
unfolding counted
far_counted [] t = sym (or-false t.far)
far_counted (r ∷ rs) t = far_counted rs (counted t r.address (length r.bytes)) ∙ or_assoc t.far (ltb 65536 (after r)) (too_far rs)

-- a record begins a run unless one is there and it is at the next address
module _ (t : Tally) (a : ℕ) where
  pub begins_first : t.runs ≡ 0 → begins t a ≡ true
  unfolding begins
  begins_first z = rw (eq-eqb t.runs 0 z)

  begins_test : 0 < t.runs → begins t a ≡ not (eqb a t.next)
  unfolding begins
  begins_test h = rw (ne_eqb t.runs 0 (λ z. omega arith))

  pub begins_some : (b : Bool) → eqb t.runs 0 ≡ b → begins t a ≡ false → 0 < t.runs
  unfolding begins
  begins_some true e f = absurd (false≢true (sym f ∙ rw e))
  begins_some false e f = let n = eqb-false t.runs 0 e in pos t.runs n
    where
      pos : (k : ℕ) → (k ≡ 0 → ⊥) → 0 < k
      pos zero m = absurd (m refl)
      pos (suc k) m = omega arith

  runs_next : 0 < t.runs → (b : Bool) → eqb a t.next ≡ b → runs_with t a ≡ t.runs + pick (eqb a t.next) 0 1
  unfolding runs_with pick
  runs_next h true e = rw (begins_test h, e) (omega arith)
  runs_next h false e = rw (begins_test h, e)

runs_counted : (rs : List Rec) (t : Tally) → 0 < t.runs → (counts t rs).runs ≡ t.runs + begun t.next rs
unfolding counted
runs_counted [] t h = omega arith
runs_counted (r ∷ rs) t h =
    let n = runs_next t r.address h (eqb r.address t.next) refl in
    omega (arith, n, runs_counted rs (counted t r.address (length r.bytes)) (omega (arith, n, h)))

runs_start : (a : ℕ) → runs_with start a ≡ 1
unfolding runs_with start
runs_start a = pick_true _ _ (begins_first start a refl)

runs_all : (rs : List Rec) → (counts start rs).runs ≡ length (runs_of rs)
unfolding counted start
runs_all [] = refl
runs_all (r ∷ rs) =
    let n = runs_start r.address in
    omega (arith, n, runs_counted rs (counted start r.address (length r.bytes)) (omega (arith, n)), runs_begun rs r)

-- a walk from the start comes to what the text does
pub size_total : (f : Found) → totalled start f ≡ size_of f
unfolding total start
size_total Bad = refl
size_total (Good rs) = rw (far_counted rs start, bytes_counted rs start, runs_all rs, bytes_runs rs, zero-add (length (bytes_of rs)))

-- the rows of a walk: those from the present run's on, which begins at f
module _ (t : Tally) (a n : ℕ) (h : 0 < t.runs) where
  row_on : (d : List ℕ) → a ≡ t.next → rowed t a n d ≡ set d (2 * t.runs - 1) (a + n - 1)
  unfolding rowed
  row_on d e = pick_false _ _ (begins_test t a h ∙ rw (eq-eqb a t.next e))

  row_new : (d : List ℕ) → (a ≡ t.next → ⊥) → rowed t a n d ≡ put d (2 * t.runs) (a ∷ (a + n - 1) ∷ [])
  unfolding rowed
  row_new d e = pick_true _ _ (begins_test t a h ∙ rw (ne_eqb a t.next e))

abbrev RowsOn : List Rec → Type 0
RowsOn rs = (t : Tally) (j f : ℕ) (d : List ℕ) → t.runs ≡ j + 1
    → rows t rs (put d (2 * j) (f ∷ (t.next - 1) ∷ [])) ≡ put d (2 * j) (rows_from f t.next rs)

rows_step : (r : Rec) (rs : List Rec) → RowsOn rs → (t : Tally) (j f : ℕ) (d : List ℕ) → t.runs ≡ j + 1 → (b : Bool) → eqb r.address t.next ≡ b
    → rows t (r ∷ rs) (put d (2 * j) (f ∷ (t.next - 1) ∷ [])) ≡ put d (2 * j) (rows_from f t.next (r ∷ rs))
unfolding counted pick
rows_step r rs ih t j f d e true q =
    let a = r.address in
    let n = length r.bytes in
    let t' = counted t a n in
    let k : 2 * t.runs - 1 ≡ 2 * j + 1 = omega (arith, e) in
    let m : t'.runs ≡ j + 1 = runs_next t a (omega (arith, e)) true q ∙ rw q (omega (arith, e)) in
    ap (rows t' rs)
    (row_on t a n (omega (arith, e)) (put d (2 * j) (f ∷ (t.next - 1) ∷ [])) (eqb-true a t.next q)
    ∙ ap (λ (i : ℕ). set (put d (2 * j) (f ∷ (t.next - 1) ∷ [])) i (a + n - 1)) k
    ∙ set-set (set d (2 * j) f) (2 * j + 1) (t.next - 1) (a + n - 1))
    ∙ ih t' j f d m
    ∙ ap (put d (2 * j)) (sym (pick_true _ _ q))
rows_step r rs ih t j f d e false q =
    let a = r.address in
    let n = length r.bytes in
    let t' = counted t a n in
    let d' = put d (2 * j) (f ∷ (t.next - 1) ∷ []) in
    let k : 2 * t.runs ≡ 2 * (j + 1) = omega (arith, e) in
    let i : 2 * (j + 1) ≡ 2 * j + 1 + 1 = omega arith in
    let m : t'.runs ≡ j + 1 + 1 = runs_next t a (omega (arith, e)) false q ∙ rw q (omega (arith, e)) in
    ap (rows t' rs)
    (row_new t a n (omega (arith, e)) d' (eqb-false a t.next q) ∙ ap (λ (i : ℕ). put d' i (a ∷ (a + n - 1) ∷ [])) k)
    ∙ ih t' (j + 1) a d' m
    ∙ ap (λ (i : ℕ). put d' i (rows_from a t'.next rs)) i
    ∙ ap (put d (2 * j)) (sym (pick_false _ _ q))

rows_on_lem : (rs : List Rec) → RowsOn rs
rows_on_lem [] t j f d e = refl
rows_on_lem (r ∷ rs) t j f d e = rows_step r rs (rows_on_lem rs) t j f d e (eqb r.address t.next) refl

-- and so all of them
pub rows_all : (rs : List Rec) (d : List ℕ) → rows start rs d ≡ put d 0 (rows_of (runs_of rs))
unfolding counted start rowed
rows_all [] d = refl
rows_all (r ∷ rs) d =
    ap (rows (counted start r.address (length r.bytes)) rs) (pick_true _ _ (begins_first start r.address refl))
    ∙ rows_on_lem rs (counted start r.address (length r.bytes)) 0 r.address d (runs_start r.address)
    ∙ ap (put d 0) (sym (rows_from_lem rs r))

-- a row as it is stored, cell by cell
module _ (t : Tally) (a n : ℕ) (d e : List ℕ) where
  pub row_begins : (m : List ℕ) → m ≡ set d (2 * t.runs) a → e ≡ set m (2 * t.runs + 1) (a + n - 1) → begins t a ≡ true → e ≡ rowed t a n d
  unfolding rowed
  row_begins m p q b = q ∙ ap (λ (l : List ℕ). set l (2 * t.runs + 1) (a + n - 1)) p ∙ sym (pick_true _ _ b)

  pub row_follows : e ≡ set d (2 * t.runs - 1) (a + n - 1) → begins t a ≡ false → e ≡ rowed t a n d
  unfolding rowed
  row_follows q b = q ∙ sym (pick_false _ _ b)

rowed_length : (t : Tally) (a n : ℕ) (d : List ℕ) → length (rowed t a n d) ≡ length d
unfolding rowed
rowed_length t a n d =
    by_pick (λ (l : List ℕ). length l ≡ length d) (begins t a)
    (length-set (set d (2 * t.runs) a) (2 * t.runs + 1) (a + n - 1) ∙ length-set d (2 * t.runs) a)
    (length-set d (2 * t.runs - 1) (a + n - 1))

-- what may be stored
fine_more : (r : Rec) (g : Found) → fine (more r g) ≡ true → (ltb 65536 (after r) ≡ false) × (fine g ≡ true)
fine_more r (Good rs) e = by_cases (ltb 65536 (after r)) refl e
  where
    by_cases : (b : Bool) → ltb 65536 (after r) ≡ b → not (ltb 65536 (after r) || too_far rs) ≡ true → (ltb 65536 (after r) ≡ false) × (not (too_far rs) ≡ true)
    by_cases true q f = absurd (false≢true (rw q at f))
    by_cases false q f = (q, rw q at f)
fine_more r Bad e = absurd (false≢true e)

records_more : (r : Rec) (g : Found) → fine (more r g) ≡ true → records_of (more r g) ≡ r ∷ records_of g
records_more r (Good rs) e = refl
records_more r Bad e = absurd (false≢true e)

pub fine_size : (f : Found) (size : Read) → size_of f ≡ Ok size → fine f ≡ true
fine_size (Good rs) size e = by_cases (too_far rs) refl e
  where
    by_cases : (b : Bool) → too_far rs ≡ b → size_of (Good rs) ≡ Ok size → not (too_far rs) ≡ true
    by_cases true q f = absurd (cc (sym (pick_true _ _ q) ∙ f))
    by_cases false q f = rw q
fine_size Bad size e = absurd (cc)

-- a text that may be stored begins with a line
pub fine_line : (s : List ℕ) → fine (records_in s) ≡ true → is_line (line_in s) ≡ true
fine_line s e = by_front (line_in s) (sym (ap fine (records_on s)) ∙ e)
  where
    by_front : (f : Front) → fine (found f records_in) ≡ true → is_line f ≡ true
    by_front (Record r after) e = refl
    by_front EndRecord e = refl
    by_front NoRecord e = absurd (false≢true e)

-- a walk that stores: what is left, stored after what is, is the whole
pub record Storing (s d t : List ℕ) (at : ℕ) (k : Tally) (d' t' : List ℕ) : Type 0 where
  pub bytes : put d' k.bytes (bytes_of (records_of (records_in (drop at s)))) ≡ put d 0 (bytes_of (records_of (records_in s)))
  pub row : rows k (records_of (records_in (drop at s))) t' ≡ rows start (records_of (records_in s)) t
  pub right : fine (records_in (drop at s)) ≡ true
  pub walked : Walked s at k
  pub room : length d' ≡ length d
  pub cells : length t' ≡ length t

pub store_first : (s d t : List ℕ) → fine (records_in s) ≡ true → Storing s d t 0 start d t
unfolding start
store_first s d t e = record {
  bytes = refl;
  row = refl;
  right = e;
  walked = record { within = omega arith; bytes = omega arith; runs = omega arith };
  room = refl;
  cells = refl;
}

module _ (s d t : List ℕ) (at : ℕ) (k : Tally) (d' t' : List ℕ) (v : Storing s d t at k d' t') where
  -- nothing is left
  pub store_last : LineIs s at (Ok None) → StoredIs s d t d' t'
  store_last w =
      let none = end_here w in
      record {
        bytes = ap (λ (f : Found). put d' k.bytes (bytes_of (records_of f))) (sym none) ∙ v.bytes;
        rows = ap (λ (f : Found). rows k (records_of f) t') (sym none) ∙ v.row;
      }

  module _ (l : Line) (w : LineIs s at (Ok (Some l))) where
    right_here : fine (more (one s at l w) (records_in (drop l.next s))) ≡ true
    right_here = sym (ap fine (data_here s at l w)) ∙ v.right

    split : records_of (records_in (drop at s)) ≡ one s at l w ∷ records_of (records_in (drop l.next s))
    split = ap records_of (data_here s at l w) ∙ records_more (one s at l w) (records_in (drop l.next s)) right_here

    pub store_room : l.address + l.count ≤ 65536
    store_room = omega (arith, ltb-false 65536 (after (one s at l w)) (fine_more (one s at l w) (records_in (drop l.next s)) right_here).0, size_here s at l w)

    pub store_on : (k' : Tally) (d'' t'' : List ℕ) → d'' ≡ put d' k.bytes (take l.count (bytes_in (drop l.first s))) → t'' ≡ rowed k l.address l.count t'
        → k' ≡ counted k l.address l.count → Storing s d t l.next k' d'' t''
    unfolding counted
    store_on k' d'' t'' p q r =
        let rest = records_of (records_in (drop l.next s)) in
        let bs = take l.count (bytes_in (drop l.first s)) in
        let size = size_here s at l w in
        record {
          bytes =
              ap (λ (j : Tally). put d'' j.bytes (bytes_of rest)) r
              ∙ ap (λ (b : List ℕ). put b (k.bytes + l.count) (bytes_of rest)) p
              ∙ ap (λ (i : ℕ). put (put d' k.bytes bs) (k.bytes + i) (bytes_of rest)) (sym size)
              ∙ sym (put_append d' k.bytes bs (bytes_of rest))
              ∙ ap (λ (rs : List Rec). put d' k.bytes (bytes_of rs)) (sym split)
              ∙ v.bytes;
          row =
              ap (λ (j : Tally). rows j rest t'') r
              ∙ ap (rows (counted k l.address l.count) rest) q
              ∙ ap (λ (i : ℕ). rows (counted k l.address i) rest (rowed k l.address i t')) (sym size)
              ∙ ap (λ (rs : List Rec). rows k rs t') (sym split)
              ∙ v.row;
          right = (fine_more (one s at l w) (records_in (drop l.next s)) right_here).1;
          walked = walk_on s at l w k k' v.walked r;
          room = ap length p ∙ put_length d' k.bytes bs ∙ v.room;
          cells = ap length q ∙ rowed_length k l.address l.count t' ∙ v.cells;
        }
