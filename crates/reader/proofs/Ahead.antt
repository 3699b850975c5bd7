-- A reader that keeps its place hands out the runs of the text, one after the other: the run at a place is the first of those from there on, and the
-- others are those from the place after it on.
-- Assumes nothing.
use borrow.Author.Tests.{ltb-true, ltb-false, le-ltb, eqb-true, eqb-false, leb-true, leb-false}
use mathlib.Core.Path.{◌≡◌, refl, sym, ap, ◌∙◌}
use mathlib.Core.Bool.{Bool, true, false, ◌&&◌}
use mathlib.Core.List.{List, [], ◌∷◌}
use Prim.Native.Nat.{ℕ, suc, ◌+◌, ◌-◌, ◌*◌, ◌≤◌, ◌<◌}
use native.Mathlib.Omega.{arith}
use lib.Dec.{ltb, leb, eqb}
use lib.ListN.{length, get_or, take, drop, length-append, length-drop, drop_of_length-le}
use lib.Seq.{drop-drop, drop-length, length-take-le}
use Rattle.ground.specs.Choice.{pick}
use Rattle.ground.proofs.Choices.{pick_true, pick_false, by_test, by_pick}
use Rattle.std.proofs.Common.{Ok}
use Rattle.records.specs.Text.{Rec}
use Rattle.records.specs.Runs.{join, runs_of}
use Rattle.reader.specs.Digits.{bytes_in, behind}
use Rattle.reader.specs.Lines.{count_of, type_of, data_of, sound, ends_line, after_end, Front, Record, EndRecord, NoRecord, record_of, line_in, Found, Good, Bad, more, found, records_in}
use Rattle.reader.specs.Answers.{too_far}
use Rattle.reader.specs.Ahead.{goes_on, follow_in, handed_run, begun, run_of, bytes_begun, run_bytes}
use Rattle.reader.proofs.Digits.{both_true}
use Rattle.reader.proofs.Records.{records_on}
use Rattle.records.proofs.Joins.{after, glue, after_glue, join_on}
use Rattle.reader.proofs.Joins.{join_off}
use Rattle.reader.proofs.Stretches.{follow_on}
use Rattle.reader.proofs.Answers.{either_false}

-- what is left of a text, and its place in it
pub record Tail (s t : List ℕ) : Type 0 where
  pub passed : ℕ
  pub left : t ≡ drop passed s

tail_whole : (s : List ℕ) → Tail s s
tail_whole s = record { passed = 0; left = refl }

tail_on : (s t u : List ℕ) → Tail s t → Tail t u → Tail s u
tail_on s t u v w = record {
  passed = v.passed + w.passed;
  left = w.left ∙ ap (drop w.passed) v.left ∙ drop-drop w.passed v.passed s;
}

tail_place : (s t : List ℕ) (b : Bool) (v : Tail s t) → leb v.passed (length s) ≡ b → drop (length s - length t) s ≡ t
tail_place s t true v e =
    let h = leb-true v.passed (length s) e in
    let k : length s - length t ≡ v.passed = omega (arith, ap length v.left, length-drop v.passed s) in
    ap (λ (n : ℕ). drop n s) k ∙ sym v.left
tail_place s t false v e =
    let h = leb-false v.passed (length s) e in
    let none : drop v.passed s ≡ [] = drop_of_length-le s {i = v.passed} (omega arith) in
    let k : length s - length t ≡ length s = omega (arith, ap length (v.left ∙ none)) in
    ap (λ (n : ℕ). drop n s) k ∙ drop-length s ∙ sym (v.left ∙ none)

after_tail : (s : List ℕ) → Tail s (after_end (behind s))
unfolding after_end behind
after_tail s =
    tail_on s (behind s) (after_end (behind s))
    (record { passed = 2 * length (bytes_in s); left = refl })
    (record { passed = pick (eqb (get_or (behind s) 0 0) 13) 2 1; left = refl })

abbrev TailOf : List ℕ → Front → Type 0
TailOf s (Record r after) = Tail s after
TailOf s EndRecord = Unit
TailOf s NoRecord = Unit

line_tail : (s : List ℕ) → TailOf s (line_in s)
unfolding line_in record_of
line_tail [] = tt
line_tail (c ∷ s) =
    let v = after_tail s in
    by_pick (TailOf (c ∷ s)) _
    (by_pick (TailOf (c ∷ s)) _ (record { passed = suc v.passed; left = v.left }) (by_pick (TailOf (c ∷ s)) _ tt tt))
    tt

-- a data record has a byte at least
abbrev SomeOf : Front → Type 0
SomeOf (Record r after) = 0 < length r.bytes
SomeOf EndRecord = Unit
SomeOf NoRecord = Unit

record_some : (bs after : List ℕ) → sound bs ≡ true → SomeOf (record_of bs after)
unfolding record_of sound data_of
record_some bs after w =
    let full = eqb-true (length bs) (count_of bs + 5) (both_true (eqb (length bs) (count_of bs + 5)) _ w).0 in
    let all : length (take (count_of bs) (drop 4 bs)) ≡ count_of bs = length-take-le (count_of bs) (drop 4 bs) (omega (arith, full, length-drop 4 bs)) in
    by_test SomeOf _ (λ t. omega (arith, all, ltb-true 0 (count_of bs) (both_true (eqb (type_of bs) 0) (ltb 0 (count_of bs)) t).1)) (λ _. by_pick SomeOf _ tt tt)

line_some : (s : List ℕ) → SomeOf (line_in s)
unfolding line_in
line_some [] = tt
line_some (c ∷ s) =
    let right = sound (bytes_in s) in
    let ends = ends_line (behind s) in
    by_test SomeOf _ (λ t. record_some (bytes_in s) (after_end (behind s)) (both_true right ends (both_true (eqb c 58) (right && ends) t).1).0) (λ _. tt)

-- what was found is one thing
not_bad : {A : Type 0} (rs : List Rec) → Bad ≡ Good rs → A
not_bad rs e = let z : ◌≡◌ {A = ℕ} 0 1 = cc in let n : ⊥ = omega arith in absurd n

not_none : {A : Type 0} (r : Rec) (rs : List Rec) → Good [] ≡ Good (r ∷ rs) → A
not_none r rs e = let z : ◌≡◌ {A = ℕ} 0 1 = cc in let n : ⊥ = omega arith in absurd n

none_more : {A : Type 0} (r : Rec) (g : Found) → more r g ≡ Good [] → A
none_more r (Good rs) e = not_none r rs (sym e)
none_more r Bad e = not_bad [] e

more_more : (q r : Rec) (g : Found) (rs : List Rec) → more q g ≡ Good (r ∷ rs) → (q ≡ r) × (g ≡ Good rs)
more_more q r (Good qs) rs e = (cc, cc)
more_more q r Bad rs e = not_bad (r ∷ rs) e

-- a run that goes on with a text: the first of the runs of both, and the text that holds the others
pub record First (s : List ℕ) (p : Rec) (rs : List Rec) : Type 0 where
  pub later : List Rec
  pub runs : join p (runs_of rs) ≡ (follow_in p s).run ∷ runs_of later
  pub rest : records_in (follow_in p s).rest ≡ Good later
  pub tail : Tail s (follow_in p s).rest
  pub near : after p ≤ 65536 → too_far rs ≡ false → after (follow_in p s).run ≤ 65536
  pub far : too_far rs ≡ false → too_far later ≡ false
  pub long : length p.bytes ≤ length (follow_in p s).run.bytes

module _ (s : List ℕ) (p : Rec) where
  -- it ends before the line that stands there
  first_ends : (rs : List Rec) → follow_in p s ≡ record { run = p; rest = s } → join p (runs_of rs) ≡ p ∷ runs_of rs → records_in s ≡ Good rs → First s p rs
  first_ends rs e j h = record {
    later = rs;
    runs = rw e j;
    rest = rw e h;
    tail = rw e (tail_whole s);
    near = λ n t. rw e n;
    far = λ t. t;
    long = rw e (omega arith);
  }

  here : (f : Front) → line_in s ≡ f → follow_in p s ≡ goes_on p s f follow_in
  here f e = follow_on p s ∙ ap (λ (x : Front). goes_on p s x follow_in) e

  first_none : (f : Front) → line_in s ≡ f → found f records_in ≡ Good [] → records_in s ≡ Good [] → First s p []
  first_none (Record r after) e q h = none_more r (records_in after) q
  first_none EndRecord e q h = first_ends [] (here EndRecord e) refl h
  first_none NoRecord e q h = not_bad [] q

  -- or it goes on with it
  first_goes : (r : Rec) (rs : List Rec) (t : List ℕ) → Tail s t → follow_in p s ≡ follow_in (glue p r) t → r.address ≡ after p → First t (glue p r) rs → First s p (r ∷ rs)
  first_goes r rs t v e a f = record {
    later = f.later;
    runs = join_on p r (runs_of rs) a ∙ rw e f.runs;
    rest = rw e f.rest;
    tail = rw e (tail_on s t (follow_in (glue p r) t).rest v f.tail);
    near = λ n b.
        let both = either_false (ltb 65536 (after r)) (too_far rs) b in
        rw e (f.near (omega (arith, after_glue p r a, ltb-false 65536 (after r) both.0)) both.1);
    far = λ b. f.far (either_false (ltb 65536 (after r)) (too_far rs) b).1;
    long = rw e (omega (arith, f.long, length-append p.bytes r.bytes));
  }

  first_some : (r : Rec) (rs : List Rec) → ((t : List ℕ) (q : Rec) → records_in t ≡ Good rs → First t q rs)
      → (t : List ℕ) (b : Bool) → eqb r.address (after p) ≡ b → line_in s ≡ Record r t → Tail s t → records_in t ≡ Good rs → records_in s ≡ Good (r ∷ rs) → First s p (r ∷ rs)
  first_some r rs ih t true b e v g h =
      first_goes r rs t v (here (Record r t) e ∙ pick_true _ _ b) (eqb-true r.address (after p) b) (ih t (glue p r) g)
  first_some r rs ih t false b e v g h =
      first_ends (r ∷ rs) (here (Record r t) e ∙ pick_false _ _ b) (join_off p r (runs_of rs) (eqb-false r.address (after p) b)) h

  first_more : (r : Rec) (rs : List Rec) → ((t : List ℕ) (q : Rec) → records_in t ≡ Good rs → First t q rs)
      → (f : Front) → line_in s ≡ f → TailOf s f → found f records_in ≡ Good (r ∷ rs) → records_in s ≡ Good (r ∷ rs) → First s p (r ∷ rs)
  first_more r rs ih (Record q t) e v g h =
      let m = more_more q r (records_in t) rs g in
      first_some r rs ih t (eqb r.address (after p)) refl (e ∙ ap (λ (x : Rec). Record x t) m.0) v m.1 h
  first_more r rs ih EndRecord e v g h = not_none r rs g
  first_more r rs ih NoRecord e v g h = not_bad (r ∷ rs) g

pub first_run : (rs : List Rec) (s : List ℕ) (p : Rec) → records_in s ≡ Good rs → First s p rs
first_run [] s p h = first_none s p (line_in s) refl (sym (records_on s) ∙ h) h
first_run (r ∷ rs) s p h = first_more s p r rs (first_run rs) (line_in s) refl (line_tail s) (sym (records_on s) ∙ h) h

-- so the run at a place is the first of the runs from there on, and the others stand from the place after it on
pub record Handed (text : List ℕ) (at : ℕ) (rs : List Rec) : Type 0 where
  pub run : Rec
  pub later : List Rec
  pub next : ℕ
  pub answer : run_of text at ≡ Ok (record { address = run.address; bytes = length run.bytes; next = next })
  pub bytes : run_bytes text at ≡ run.bytes
  pub runs : runs_of rs ≡ run ∷ runs_of later
  pub rest : records_in (drop next text) ≡ Good later
  pub some : 0 < length run.bytes
  pub near : too_far later ≡ false

module _ (text : List ℕ) (at : ℕ) (r : Rec) (rs : List Rec) (near : too_far (r ∷ rs) ≡ false) where
  handed_line : (t : List ℕ) → line_in (drop at text) ≡ Record r t → Tail (drop at text) t → 0 < length r.bytes → records_in t ≡ Good rs → Handed text at (r ∷ rs)
  unfolding run_of run_bytes handed_run
  handed_line t e v o g =
      let f = first_run rs t r g in
      let a = follow_in r t in
      let both = either_false (ltb 65536 (after r)) (too_far rs) near in
      let h = f.near (ltb-false 65536 (after r) both.0) both.1 in
      let w = tail_on text t a.rest (tail_on text (drop at text) t (record { passed = at; left = refl }) v) f.tail in
      record {
        run = a.run;
        later = f.later;
        next = length text - length a.rest;
        answer = ap (begun text at) e ∙ pick_false _ _ (le-ltb 65536 (after a.run) h);
        bytes = ap bytes_begun e;
        runs = f.runs;
        rest = rw (tail_place text a.rest (leb w.passed (length text)) w refl) f.rest;
        some = omega (arith, o, f.long);
        near = f.far both.1;
      }

  handed_by : (f : Front) → line_in (drop at text) ≡ f → TailOf (drop at text) f → SomeOf f → found f records_in ≡ Good (r ∷ rs) → Handed text at (r ∷ rs)
  handed_by (Record q t) e v o g =
      let m = more_more q r (records_in t) rs g in
      handed_line t (e ∙ ap (λ (x : Rec). Record x t) m.0) v (omega (arith, o, ap (λ (x : Rec). length x.bytes) m.0)) m.1
  handed_by EndRecord e v o g = not_none r rs g
  handed_by NoRecord e v o g = not_bad (r ∷ rs) g

  pub run_handed : records_in (drop at text) ≡ Good (r ∷ rs) → Handed text at (r ∷ rs)
  run_handed h = handed_by (line_in (drop at text)) refl (line_tail (drop at text)) (line_some (drop at text)) (sym (records_on (drop at text)) ∙ h)

-- where no record is left there is no run, and the reader stays
none_by : (text : List ℕ) (at : ℕ) (f : Front) → found f records_in ≡ Good [] → begun text at f ≡ Ok (record { address = 0; bytes = 0; next = at })
none_by text at (Record r t) e = none_more r (records_in t) e
none_by text at EndRecord e = refl
none_by text at NoRecord e = not_bad [] e

pub run_none : (text : List ℕ) (at : ℕ) → records_in (drop at text) ≡ Good [] → run_of text at ≡ Ok (record { address = 0; bytes = 0; next = at })
unfolding run_of
run_none text at h = none_by text at (line_in (drop at text)) (sym (records_on (drop at text)) ∙ h)
