-- Every record of objects that are not refused is fine: 1 to 32 bytes, none beyond 65535.
-- Assumes nothing.
use mathlib.Core.Path.{◌≡◌, refl}
use mathlib.Core.Bool.{Bool, true, false, ◌&&◌, ◌||◌, not}
use mathlib.Core.Logic.{◌⊎◌, inl, inr, ⊎_elim}
use mathlib.Core.List.{List, [], ◌∷◌, ◌++◌, map}
use Prim.Native.Nat.{ℕ, zero, suc, ◌+◌, ◌*◌, ◌/◌, ◌≤◌, ◌<◌}
use native.Mathlib.Omega.{arith}
use borrow.Author.Tests.{ltb-true, ltb-false, eqb-true, eqb-false, not-false}
use lib.Dec.{eqb, ltb}
use lib.ListN.{length, length-append, take, drop}
use Rattle.ground.proofs.Choices.{by_test, by_pick}
use Rattle.records.specs.Objects.{Object, With, Without, bytes_of, data_of, count_of, object_of, objects_of, fits, bad_values, bad_objects, faulty, too_far}
use Rattle.records.specs.Text.{Rec, Event, Byte, events, close, recs_from, recs}
use Rattle.records.specs.Fine.{Each, Bytes, Fine, Sound}
use Rattle.ground.proofs.Tests.{both_second, neither_left, neither_right}

pub bytes_append : (bs cs : List ℕ) → Bytes bs → Bytes cs → Bytes (bs ++ cs)
bytes_append [] cs v w = w
bytes_append (b ∷ bs) cs v w = (v.0, bytes_append bs cs v.1 w)

-- the present record, while it is open
record Going (a : ℕ) (p : List ℕ) : Type 0 where
  open_yet : length p < 32
  bytes : Bytes p
  near : a + length p ≤ 65536

close_fine : (a : ℕ) (p : List ℕ) (rs : List Rec) → length p ≤ 32 → Bytes p → a + length p ≤ 65536 → Each Fine rs → Each Fine (close a p rs)
close_fine a [] rs m b n f = f
close_fine a (c ∷ cs) rs m b n f = (record { some = omega arith; most = m; bytes = b; near = n }, f)

bytes_fine :
    (bs : List ℕ) (a : ℕ) (p : List ℕ) (es : List Event) → Going a p → Bytes bs → a + length p + length bs ≤ 65536 →
    ((n : ℕ) (q : List ℕ) → Going n q → Each Fine (recs_from n q es)) → Each Fine (recs_from a p (map Byte bs ++ es))
bytes_fine [] a p es g s h later = later a p g
bytes_fine (b ∷ bs) a p es g s h later =
    let grown = p ++ (b ∷ []) in
    let long : length (p ++ (b ∷ [])) ≡ length p + 1 = length-append p (b ∷ []) in
    let more = bytes_append p (b ∷ []) g.bytes (s.0, tt) in
    by_test (Each Fine) (eqb (length p + 1) 32)
    (λ t.
    let full = eqb-true (length p + 1) 32 t in
    close_fine a grown (recs_from (a + 32) [] (map Byte bs ++ es)) (omega arith) more (omega arith)
    (bytes_fine bs (a + 32) [] es (record { open_yet = omega arith; bytes = tt; near = omega arith }) s.1 (omega arith) later))
    (λ f.
    let not_yet = eqb-false (length p + 1) 32 f in
    bytes_fine bs a grown es (record { open_yet = omega arith; bytes = more; near = omega arith }) s.1 (omega arith) later)

fine_from : (os : List Object) → Each Sound os → too_far os ≡ false → (a : ℕ) (p : List ℕ) → Going a p → Each Fine (recs_from a p (events os))
fine_from [] s t a p g = close_fine a p [] (omega (arith, g.open_yet)) g.bytes g.near tt
fine_from (Without ∷ os) s t a p g = fine_from os s.1 t a p g
fine_from (With c bs ∷ os) s t a p g =
    let end = ltb-false 65536 (c + length bs) (neither_left (ltb 65536 (c + length bs)) (too_far os) t) in
    let later = fine_from os s.1 (neither_right (ltb 65536 (c + length bs)) (too_far os) t) in
    by_test (Each Fine) (eqb c (a + length p))
    (λ e.
    let at = eqb-true c (a + length p) e in
    bytes_fine bs a p (events os) g s.0 (omega arith) later)
    (λ _.
    close_fine a p (recs_from c [] (map Byte bs ++ events os)) (omega (arith, g.open_yet)) g.bytes g.near
    (bytes_fine bs c [] (events os) (record { open_yet = omega arith; bytes = tt; near = omega arith }) s.0 (omega arith) later))

pub recs_fine : (os : List Object) → Each Sound os → too_far os ≡ false → Each Fine (recs os)
unfolding recs
recs_fine os s t = fine_from os s t 0 [] (record { open_yet = omega arith; bytes = tt; near = omega arith })

-- a value that fits its width is made of bytes
either : (a b c d : Bool) → ((a && b) || (c && d)) ≡ true → (b ≡ true) ⊎ (d ≡ true)
either true true c d e = inl refl
either true false c d e = inr (both_second c d e)
either false b c d e = inr (both_second c d e)

value_sound : (number width : ℕ) → fits number width ≡ true → Bytes (bytes_of number width)
unfolding fits bytes_of
value_sound number width f =
    let small : number < 65536 =
    ⊎_elim (λ t. omega (arith, ltb-true number 256 t)) (λ t. ltb-true number 65536 t)
    (either (eqb width 8) (ltb number 256) (eqb width 16) (ltb number 65536) f) in
    by_pick Bytes (eqb width 16) (omega arith, (omega arith, tt)) (omega arith, tt)

values_sound : (n : ℕ) (vs : List ℕ) → bad_values vs ≡ false → Bytes (data_of (take (2 * n) vs)) × (bad_values (drop (2 * n) vs) ≡ false)
values_sound zero vs g = (tt, g)
values_sound (suc n) [] g = let e : 2 * suc n ≡ suc (suc (2 * n)) = omega arith in rw e (tt, refl)
values_sound (suc n) (v ∷ []) g = let e : 2 * suc n ≡ suc (suc (2 * n)) = omega arith in rw e (tt, refl)
values_sound (suc n) (v ∷ w ∷ vs) g =
    let e : 2 * suc n ≡ suc (suc (2 * n)) = omega arith in
    let later = values_sound n vs (neither_right (not (fits v w)) (bad_values vs) g) in
    let here = value_sound v w (not-false (fits v w) (neither_left (not (fits v w)) (bad_values vs) g)) in
    rw e (bytes_append (bytes_of v w) (data_of (take (2 * n) vs)) here later.0, later.1)

objects_sound : (os vs : List ℕ) → bad_values vs ≡ false → Each Sound (objects_of os vs)
unfolding object_of
objects_sound [] vs g = tt
objects_sound (a ∷ []) vs g = tt
objects_sound (a ∷ b ∷ []) vs g = tt
objects_sound (kind ∷ address ∷ count ∷ os) vs g =
    let v = values_sound (count_of kind count) vs g in
    (by_pick Sound (eqb kind 1) v.0 tt, objects_sound os (drop (2 * count_of kind count) vs) v.1)

-- so the text that is written is of fine records
pub written_fine :
    (objects values : List ℕ) → faulty objects values ≡ false → too_far (objects_of objects values) ≡ false →
    Each Fine (recs (objects_of objects values))
unfolding faulty
written_fine objects values f t =
    recs_fine (objects_of objects values)
    (objects_sound objects values (neither_left (bad_values values) (bad_objects (length values / 2) objects) f)) t
