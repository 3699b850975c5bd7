-- The answer for the run at a place, and its bytes: a refusal leaves all that is lent, and what is stored otherwise is the run.
-- Assumes nothing.
use borrow.Author.Tests.{lt-ltb, le-ltb, ltb-true, ltb-false, eq-eqb, ne_eqb}
use mathlib.Core.Path.{◌≡◌, refl, sym, ap, ◌∙◌}
use mathlib.Core.Bool.{Bool, true, false}
use mathlib.Core.List.{List, [], ◌∷◌}
use Prim.Native.Nat.{ℕ, zero, suc, ◌+◌, ◌-◌, ◌≤◌, ◌<◌}
use native.Mathlib.Omega.{arith}
use lib.Dec.{ltb, eqb}
use lib.ListN.{length, drop}
use Rattle.std.proofs.Common.{Result, Ok, Err}
use Rattle.ground.specs.declared.refusals.Refusal.{Refusal}
use Rattle.ground.specs.declared.refusals.Refusal.TheVariants.{BrokenText, Beyond, NoRoom}
use Rattle.ground.specs.Stores.{put}
use Rattle.ground.proofs.Choices.{pick_true, pick_false, by_test, by_pick}
use Rattle.ground.proofs.Stores.{put_front}
use Rattle.records.specs.Text.{Rec}
use Rattle.reader.specs.Lines.{Front, Record, EndRecord, NoRecord, line_in, records_in}
use Rattle.reader.specs.Answers.{size_of, onto}
use Rattle.reader.specs.Ahead.{Ahead, goes_on, follow, follow_in, handed_run, begun, run_of, after_size, asked_of, bytes_begun, run_bytes, room_run, read_run_of, RunReadIs}
use Rattle.reader.specs.Steps.{ran_bytes}
use Rattle.reader.specs.declared.Read.{Read}
use Rattle.reader.specs.declared.runs.Run.{Run}
use Rattle.records.proofs.Joins.{after, glue}
use Rattle.reader.proofs.Stretches.{follow_on, run_past}

-- a run stays at its address
goes_place : (n : ℕ) (p : Rec) (s : List ℕ) (f : Front) → ((q : Rec) (t : List ℕ) → (follow n q t).run.address ≡ q.address) → (goes_on p s f (follow n)).run.address ≡ p.address
goes_place n p s (Record r t) ih = by_pick (λ (a : Ahead). a.run.address ≡ p.address) (eqb r.address (after p)) (ih (glue p r) t) refl
goes_place n p s EndRecord ih = refl
goes_place n p s NoRecord ih = refl

follow_place : (n : ℕ) (p : Rec) (s : List ℕ) → (follow n p s).run.address ≡ p.address
follow_place zero p s = refl
follow_place (suc n) p s = goes_place n p s (line_in s) (follow_place n)

-- what begins with a line is what begins with nothing before it
from_nothing : (s : List ℕ) (r : Rec) (t : List ℕ) → line_in s ≡ Record r t → follow_in (record { address = r.address; bytes = [] }) s ≡ follow_in r t
from_nothing s r t e =
    follow_on (record { address = r.address; bytes = [] }) s
    ∙ ap (λ (f : Front). goes_on (record { address = r.address; bytes = [] }) s f follow_in) e
    ∙ pick_true _ _ (eq-eqb r.address (r.address + 0) (omega arith))

empty : (xs : List ℕ) → length xs ≡ 0 → xs ≡ []
empty [] e = refl
empty (x ∷ xs) e = let n : ⊥ = omega (arith, e) in absurd n

handed_far : (text : List ℕ) (a : Ahead) → ltb 65536 (after a.run) ≡ true → handed_run text a ≡ Err Beyond
unfolding handed_run
handed_far text a e = pick_true _ _ e

handed_near : (text : List ℕ) (a : Ahead) → ltb 65536 (after a.run) ≡ false
    → handed_run text a ≡ Ok (record { address = a.run.address; bytes = length a.run.bytes; next = length text - length a.rest })
unfolding handed_run
handed_near text a e = pick_false _ _ e

-- an answer is one thing
pub same_run : (r q : Run) → ◌≡◌ {A = Result Run Refusal} (Ok r) (Ok q) → r ≡ q
same_run r q e = cc

pub no_run_lem : {A : Type 0} (e : Refusal) (r : Run) → ◌≡◌ {A = Result Run Refusal} (Err e) (Ok r) → A
no_run_lem e r q = let z : ◌≡◌ {A = ℕ} 0 1 = cc in absurd (omega arith)

-- the run that a line begins
record Begins (text : List ℕ) (at : ℕ) (f : Front) (run : Run) : Type 0 where
  bytes : ran_bytes run.address (drop at text) ≡ bytes_begun f
  long : run.bytes ≡ length (bytes_begun f)

module _ (text : List ℕ) (at : ℕ) (run : Run) where
  near_begins : (r : Rec) (t : List ℕ) (b : Bool) → ltb 65536 (after (follow_in r t).run) ≡ b → line_in (drop at text) ≡ Record r t
      → handed_run text (follow_in r t) ≡ Ok run → Begins text at (Record r t) run
  unfolding ran_bytes follow_in
  near_begins r t true b e h = no_run_lem Beyond run (sym (handed_far text (follow_in r t) b) ∙ h)
  near_begins r t false b e h =
      let x = same_run _ run (sym (handed_near text (follow_in r t) b) ∙ h) in
      let place = ap (λ (y : Run). y.address) (sym x) ∙ follow_place (length t) r t in
      record {
        bytes = ap (λ (n : ℕ). (follow_in (record { address = n; bytes = [] }) (drop at text)).run.bytes) place ∙ ap (λ (a : Ahead). a.run.bytes) (from_nothing (drop at text) r t e);
        long = ap (λ (y : Run). y.bytes) (sym x);
      }

  begins_by : (f : Front) → line_in (drop at text) ≡ f → begun text at f ≡ Ok run → Begins text at f run
  unfolding ran_bytes
  begins_by (Record r t) e h = near_begins r t (ltb 65536 (after (follow_in r t).run)) refl e h
  begins_by EndRecord e h =
      let p : Rec = record { address = run.address; bytes = [] } in
      record {
        bytes = ap (λ (a : Ahead). a.run.bytes) (follow_on p (drop at text) ∙ ap (λ (f : Front). goes_on p (drop at text) f follow_in) e);
        long = sym (ap (λ (y : Run). y.bytes) (same_run _ run h));
      }
  begins_by NoRecord e h = no_run_lem BrokenText run h

  begins : run_of text at ≡ Ok run → Begins text at (line_in (drop at text)) run
  unfolding run_of
  begins h = begins_by (line_in (drop at text)) refl h

module _ (text : List ℕ) (at : ℕ) where
  -- the whole text is asked at its start
  pub asked_start : at ≡ 0 → asked_of text at ≡ after_size (size_of (records_in text)) (run_of text at)
  unfolding asked_of
  asked_start z = pick_true _ _ (eq-eqb at 0 z)

  pub asked_before : (at ≡ 0 → ⊥) → asked_of text at ≡ run_of text at
  unfolding asked_of
  asked_before h = pick_false _ _ (ne_eqb at 0 h)

  -- the run at a place: a refusal of the whole text, or the run that stands there
  pub asked_refused : (e : Refusal) → at ≡ 0 → size_of (records_in text) ≡ Err e → asked_of text at ≡ Err e
  asked_refused e z m = asked_start z ∙ ap (λ (r : Result Read Refusal). after_size r (run_of text at)) m

  pub asked_there : (size : Read) → size_of (records_in text) ≡ Ok size → asked_of text at ≡ run_of text at
  unfolding asked_of
  asked_there size m =
      by_pick (λ (r : Result Run Refusal). r ≡ run_of text at) (eqb at 0) (ap (λ (r : Result Read Refusal). after_size r (run_of text at)) m) refl

  asked_by : (s : Result Read Refusal) (run : Run) → after_size s (run_of text at) ≡ Ok run → run_of text at ≡ Ok run
  asked_by (Ok size) run h = h
  asked_by (Err e) run h = no_run_lem e run h

  asked_run : (run : Run) → asked_of text at ≡ Ok run → run_of text at ≡ Ok run
  unfolding asked_of
  asked_run run =
      by_pick (λ (r : Result Run Refusal). r ≡ Ok run → run_of text at ≡ Ok run) (eqb at 0) (asked_by (size_of (records_in text)) run) (λ h. h)

-- no run that is handed out goes beyond 65535
abbrev pub Near : Result Run Refusal → Type 0
Near (Ok r) = r.address + r.bytes ≤ 65536
Near (Err e) = Unit

begun_near : (text : List ℕ) (at : ℕ) (f : Front) → Near (begun text at f)
unfolding handed_run
begun_near text at (Record r t) =
    let end = after (follow_in r t).run in
    by_test Near (ltb 65536 end) (λ _. tt) (λ b. ltb-false 65536 end b)
begun_near text at EndRecord = omega arith
begun_near text at NoRecord = tt

pub run_near : (text : List ℕ) (at : ℕ) → Near (run_of text at)
unfolding run_of
run_near text at = begun_near text at (line_in (drop at text))

after_near : (s : Result Read Refusal) (r : Result Run Refusal) → Near r → Near (after_size s r)
after_near (Ok size) r h = h
after_near (Err e) r h = tt

asked_near : (text : List ℕ) (at : ℕ) → Near (asked_of text at)
unfolding asked_of
asked_near text at =
    by_pick Near (eqb at 0) (after_near (size_of (records_in text)) (run_of text at) (run_near text at)) (run_near text at)

-- what is handed out is the run asked for
room_same : (room : ℕ) (q : Result Run Refusal) (r : Run) → room_run room q ≡ Ok r → q ≡ Ok r
room_same room (Ok q) r =
    by_pick (λ (x : Result Run Refusal). x ≡ Ok r → ◌≡◌ {A = Result Run Refusal} (Ok q) (Ok r)) (ltb room q.bytes) (λ z. no_run_lem NoRoom r z) (λ z. z)
room_same room (Err e) r = λ z. z

pub read_asked : (text : List ℕ) (at room : ℕ) (r : Run) → read_run_of text at room ≡ Ok r → asked_of text at ≡ Ok r
unfolding read_run_of
read_asked text at room r z = room_same room (asked_of text at) r z

room_near : (room : ℕ) (r : Result Run Refusal) → Near r → Near (room_run room r)
room_near room (Ok r) h = by_pick Near (ltb room r.bytes) tt h
room_near room (Err e) h = tt

pub read_near : (text : List ℕ) (at room : ℕ) → Near (read_run_of text at room)
unfolding read_run_of
read_near text at room = room_near room (asked_of text at) (asked_near text at)

-- what is read: a refusal
module _ (text : List ℕ) (at : ℕ) (d : List ℕ) where
  left_alone : (e : Refusal) → read_run_of text at (length d) ≡ Err e → RunReadIs text at d (Err e) d
  unfolding onto
  left_alone e q = record { answer = sym q; bytes = rw q }

  pub run_refused : (e : Refusal) → asked_of text at ≡ Err e → RunReadIs text at d (Err e) d
  unfolding read_run_of
  run_refused e m = left_alone e (ap (room_run (length d)) m)

-- or a run
module _ (text : List ℕ) (at : ℕ) (run : Run) (m : asked_of text at ≡ Ok run) where
  there : Begins text at (line_in (drop at text)) run
  there = begins text at run (asked_run text at run m)

  within_by : (b : Bool) → ltb (length text) at ≡ b → at ≤ length text
  within_by true b = no_run_lem BrokenText run (run_past text at (ltb-true (length text) at b) ∙ asked_run text at run m)
  within_by false b = ltb-false (length text) at b

  pub run_within : at ≤ length text
  run_within = within_by (ltb (length text) at) refl

  module _ (d : List ℕ) where
    -- no room
    pub run_no_room : length d < run.bytes → RunReadIs text at d (Err NoRoom) d
    unfolding read_run_of
    run_no_room h = left_alone text at d NoRoom (ap (room_run (length d)) m ∙ pick_true _ _ (lt-ltb (length d) run.bytes h))

    pub fits_answer : run.bytes ≤ length d → read_run_of text at (length d) ≡ Ok run
    unfolding read_run_of
    fits_answer h = ap (room_run (length d)) m ∙ pick_false _ _ (le-ltb (length d) run.bytes h)

    -- no byte to store
    pub run_left : run.bytes ≡ 0 → RunReadIs text at d (Ok run) d
    unfolding onto run_bytes
    run_left z =
        let a = fits_answer (omega arith) in
        record { answer = sym a; bytes = rw (a, empty (run_bytes text at) (omega (arith, z, there.long))) }

    -- the run stored
    pub run_stored : (d' : List ℕ) → run.bytes ≤ length d → d' ≡ put d 0 (ran_bytes run.address (drop at text)) → RunReadIs text at d (Ok run) d'
    unfolding onto run_bytes
    run_stored d' h e =
        let a = fits_answer h in
        record {
          answer = sym a;
          bytes = e ∙ ap (put d 0) there.bytes ∙ put_front d (run_bytes text at) (omega (arith, h, there.long)) ∙ rw a;
        }
