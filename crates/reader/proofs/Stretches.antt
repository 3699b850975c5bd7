-- A run ahead is what its next line says of it: it goes on with that line, or ends before it.
-- Assumes nothing.
use borrow.Author.Tests.{lt-ltb, le-ltb, eq-eqb, ne_eqb}
use mathlib.Core.Path.{◌≡◌, refl, sym, ap, ◌∙◌}
use mathlib.Core.List.{List, [], ◌∷◌}
use Prim.Native.Nat.{ℕ, zero, suc, ◌+◌, ◌-◌, ◌≤◌, ◌<◌}
use native.Mathlib.Nat.{not-suc-le-zero}
use native.Mathlib.Omega.{arith}
use lib.Dec.{eqb}
use lib.ListN.{length, take, drop, length-drop, length-append, drop_of_length-le}
use Rattle.ground.specs.Choice.{pick}
use Rattle.ground.proofs.Choices.{pick_true, pick_false}
use Rattle.ground.specs.Stores.{put}
use Rattle.ground.proofs.Stores.{put_length, put_append}
use Rattle.records.specs.Text.{Rec}
use Rattle.reader.specs.Digits.{bytes_in}
use Rattle.reader.specs.Lines.{Front, Record, EndRecord, NoRecord, line_in}
use Rattle.reader.specs.Steps.{meant, LineIs, OnIs, Reached, RunIs, ran_bytes}
use Rattle.reader.specs.Ahead.{Ahead, goes_on, follow, follow_in, handed_run, begun, run_of}
use Rattle.reader.specs.declared.runs.Run.{Run}
use Rattle.reader.specs.declared.runs.Stretch.{Stretch}
use Rattle.reader.specs.declared.Line.{Line}
use Rattle.std.proofs.Common.{Option, Some, None}
use Rattle.std.proofs.Common.{Result, Ok, Err}
use Rattle.ground.specs.declared.refusals.Refusal.{Refusal}
use Rattle.ground.specs.declared.refusals.Refusal.TheVariants.{BrokenText, Beyond}
use Rattle.reader.proofs.Records.{Shorter, line_short}
use Rattle.reader.proofs.Tallies.{one, size_here}
use Rattle.records.proofs.Joins.{after, glue}

same_going : (n : ℕ) (p : Rec) (s : List ℕ) (f : Front) (x y : Rec → List ℕ → Ahead) → Shorter n f
    → ((q : Rec) (t : List ℕ) → length t < n → x q t ≡ y q t) → goes_on p s f x ≡ goes_on p s f y
same_going n p s (Record r after) x y h e =
    ap (λ (a : Ahead). pick (eqb r.address (p.address + length p.bytes)) a (record { run = p; rest = s })) (e (glue p r) after h)
same_going n p s EndRecord x y h e = refl
same_going n p s NoRecord x y h e = refl

same_follow : (n m : ℕ) (p : Rec) (s : List ℕ) → length s ≤ n → length s ≤ m → follow n p s ≡ follow m p s
unfolding line_in
same_follow zero zero p s h k = refl
same_follow zero (suc m) p [] h k = refl
same_follow zero (suc m) p (c ∷ s) h k = absurd (not-suc-le-zero h)
same_follow (suc n) zero p [] h k = refl
same_follow (suc n) zero p (c ∷ s) h k = absurd (not-suc-le-zero k)
same_follow (suc n) (suc m) p s h k =
    same_going (length s) p s (line_in s) (follow n) (follow m) (line_short s) (λ q t l. same_follow n m q t (omega arith) (omega arith))

pub follow_on : (p : Rec) (s : List ℕ) → follow_in p s ≡ goes_on p s (line_in s) follow_in
unfolding follow_in
follow_on p s =
    same_follow (length s) (suc (length s)) p s (omega arith) (omega arith)
    ∙ same_going (length s) p s (line_in s) (follow (length s)) follow_in (line_short s) (λ q t l. same_follow (length s) (length t) q t (omega arith) (omega arith))

-- a run that stands at a place and has reached an address goes on as any record that it began with
pub record Going (s : List ℕ) (from : ℕ) (p : Rec) (end at : ℕ) : Type 0 where
  pub run : Rec
  pub same : follow_in run (drop at s) ≡ follow_in p (drop from s)
  pub place : run.address ≡ p.address
  pub ended : end ≡ after run

pub going_first : (s : List ℕ) (from end : ℕ) (p : Rec) → after p ≡ end → Going s from p end from
going_first s from end p e = record { run = p; same = refl; place = refl; ended = sym e }

-- by the line that stands there
line_goes : {s : List ℕ} {at : ℕ} (r : Result (Option Line) Refusal) → LineIs s at r → (p : Rec) → follow_in p (drop at s) ≡ goes_on p (drop at s) (meant s r) follow_in
line_goes {s} {at} r w p = follow_on p (drop at s) ∙ ap (λ (f : Front). goes_on p (drop at s) f follow_in) w.says

module _ (s : List ℕ) (at reached : ℕ) where
  -- no data line, or one at another address
  pub no_line_on : LineIs s at (Ok None) → OnIs s at reached None
  no_line_on w p e = line_goes (Ok None) w p

  pub broken_on : (x : Refusal) → LineIs s at (Err x) → OnIs s at reached None
  broken_on x w p e = line_goes (Err x) w p

  pub line_off : (l : Line) → LineIs s at (Ok (Some l)) → (l.address ≡ reached → ⊥) → OnIs s at reached None
  line_off l w n p e = line_goes (Ok (Some l)) w p ∙ pick_false _ _ (ne_eqb l.address (after p) (λ z. n (z ∙ e)))

module _ (s : List ℕ) (from : ℕ) (p : Rec) (end at : ℕ) (g : Going s from p end at) where
  pub stops : OnIs s at end None → Reached s from p (record { end = end; next = at })
  stops n =
      let q = sym g.same ∙ n g.run (sym g.ended) in
      record {
        place = ap (λ (a : Ahead). a.run.address) q ∙ g.place;
        ended = g.ended ∙ sym (ap (λ (a : Ahead). after a.run) q);
        rest = ap (λ (a : Ahead). a.rest) q;
      }

  pub goes_on_lem : (l : Line) → OnIs s at end (Some l) → Going s from p (end + l.count) l.next
  goes_on_lem l w =
      let r = one s at l w.0 in
      record {
        run = glue g.run r;
        same = sym (line_goes (Ok (Some l)) w.0 g.run ∙ pick_true _ _ (eq-eqb l.address (after g.run) (w.1 ∙ g.ended))) ∙ g.same;
        place = g.place;
        ended = omega (arith, g.ended, length-append g.run.bytes r.bytes, size_here s at l w.0);
      }

-- the run that a stretch comes to
module _ (text : List ℕ) (at address : ℕ) (p : Rec) (t : Stretch) (r : Reached text at p t) (e : p.address ≡ address) where
  pub far_run : 65536 < t.end → Err Beyond ≡ handed_run text (follow_in p (drop at text))
  unfolding handed_run
  far_run h = sym (pick_true _ _ (lt-ltb 65536 (after (follow_in p (drop at text)).run) (omega (arith, r.ended, h))))

  pub near_run : t.end ≤ 65536 → t.next ≤ length text
      → Ok (record { address = address; bytes = t.end - address; next = t.next }) ≡ handed_run text (follow_in p (drop at text))
  unfolding handed_run
  near_run h k =
      let a = follow_in p (drop at text) in
      let i : length text - length a.rest ≡ t.next = omega (arith, ap length r.rest, length-drop t.next text, k) in
      let j : length a.run.bytes ≡ t.end - address = omega (arith, r.ended, r.place, e) in
      let b : a.run.address ≡ address = r.place ∙ e in
      sym (pick_false _ _ (le-ltb 65536 (after a.run) (omega (arith, r.ended, h))) ∙ rw (i, j, b))

-- the run at a place, by the line that stands there
pub run_past : (text : List ℕ) (at : ℕ) → length text < at → Err BrokenText ≡ run_of text at
unfolding run_of line_in
run_past text at h = let none : drop at text ≡ [] = drop_of_length-le text {i = at} (omega arith) in rw none

module _ (text : List ℕ) (at : ℕ) where
  run_by : (r : Result (Option Line) Refusal) → LineIs text at r → run_of text at ≡ begun text at (meant text r)
  unfolding run_of
  run_by r w = rw w.says

  pub run_end : LineIs text at (Ok None) → Ok (record { address = 0; bytes = 0; next = at }) ≡ run_of text at
  run_end w = sym (run_by (Ok None) w)

  pub run_broken : (e : Refusal) → LineIs text at (Err e) → Err e ≡ run_of text at
  run_broken e w = ap (λ (x : Refusal). Err x) w.fits ∙ sym (run_by (Err e) w)

  pub run_data : (l : Line) (r : Result Run Refusal) → LineIs text at (Ok (Some l)) → RunIs text l r → r ≡ run_of text at
  run_data l r w i = i.each (one text at l w) refl (size_here text at l w) ∙ sym (run_by (Ok (Some l)) w)

-- a run whose bytes so far are stored
pub record Filling (s : List ℕ) (from first : ℕ) (d : List ℕ) (end at : ℕ) (d' : List ℕ) : Type 0 where
  pub going : Going s from (record { address = first; bytes = [] }) end at
  pub stored : d' ≡ put d 0 going.run.bytes
  pub within : at ≤ length s

pub filling_first : (s : List ℕ) (from first : ℕ) (d : List ℕ) → from ≤ length s → Filling s from first d first from d
unfolding going_first
filling_first s from first d h = record { going = going_first s from first (record { address = first; bytes = [] }) (omega arith); stored = refl; within = h }

pub filling_begun : {s : List ℕ} {from first : ℕ} {d : List ℕ} {end at : ℕ} {d' : List ℕ} → Filling s from first d end at d' → first ≤ end
filling_begun v = omega (arith, v.going.place, v.going.ended)

pub filling_room : {s : List ℕ} {from first : ℕ} {d : List ℕ} {end at : ℕ} {d' : List ℕ} → Filling s from first d end at d' → length d' ≡ length d
filling_room {d = d} v = ap length v.stored ∙ put_length d 0 v.going.run.bytes

module _ (s : List ℕ) (from first : ℕ) (d : List ℕ) (end at : ℕ) (d' : List ℕ) (v : Filling s from first d end at d') where
  pub filled : OnIs s at end None → d' ≡ put d 0 (ran_bytes first (drop from s))
  unfolding ran_bytes
  filled n = v.stored ∙ ap (λ (a : Ahead). put d 0 a.run.bytes) (sym (n v.going.run (sym v.going.ended)) ∙ v.going.same)

  pub filling_on : (l : Line) (d'' : List ℕ) → OnIs s at end (Some l) → d'' ≡ put d' (end - first) (take l.count (bytes_in (drop l.first s))) → Filling s from first d (end + l.count) l.next d''
  unfolding goes_on_lem
  filling_on l d'' w b =
      let run = v.going.run in
      let bs = take l.count (bytes_in (drop l.first s)) in
      let k : end - first ≡ 0 + length run.bytes = omega (arith, v.going.place, v.going.ended) in
      record {
        going = goes_on_lem s from (record { address = first; bytes = [] }) end at v.going l w;
        stored =
            b
            ∙ ap (λ (i : ℕ). put d' i bs) k
            ∙ ap (λ (y : List ℕ). put y (0 + length run.bytes) bs) v.stored
            ∙ sym (put_append d 0 run.bytes bs);
        within = w.0.fits.within;
      }
