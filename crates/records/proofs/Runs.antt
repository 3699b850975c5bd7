-- Records say the same runs as the objects they come from: an object without bytes may break a record, never a run.
-- Assumes nothing.
use mathlib.Core.Path.{◌≡◌, refl, sym, ap, ◌∙◌}
use mathlib.Core.List.{List, [], ◌∷◌, ◌++◌, map, append-nil}
use Prim.Native.Nat.{ℕ, ◌+◌}
use native.Mathlib.Nat.{add-zero}
use native.Mathlib.Omega.{arith}
use borrow.Author.Tests.{eqb-true}
use lib.Dec.{eqb}
use lib.ListN.{length, length-append}
use lib.Seq.{append_snoc}
use Rattle.ground.proofs.Choices.{by_test}
use Rattle.records.specs.Objects.{Object, With, Without}
use Rattle.records.specs.Text.{Rec, Event, Byte, events, close, recs_from, recs}
use Rattle.records.specs.Runs.{join, runs_of, pieces}
use Rattle.records.proofs.Joins.{join_on}

-- bytes at an address before runs: none are no piece
abbrev before : ℕ → List ℕ → List Rec → List Rec
before a [] rs = rs
before a (b ∷ bs) rs = join (record { address = a; bytes = b ∷ bs }) rs

runs_close : (a : ℕ) (p : List ℕ) (rs : List Rec) → runs_of (close a p rs) ≡ before a p (runs_of rs)
runs_close a [] rs = refl
runs_close a (b ∷ bs) rs = refl

-- two pieces that follow on are one piece
before_twice : (a : ℕ) (p q : List ℕ) (rs : List Rec) → before a p (before (a + length p) q rs) ≡ before a (p ++ q) rs
before_twice a [] q rs = ap (λ (n : ℕ). before n q rs) (add-zero a)
before_twice a (b ∷ bs) [] rs = ap (λ (l : List ℕ). before a (b ∷ l) rs) (sym (append-nil bs))
before_twice a (b ∷ bs) (c ∷ cs) rs =
    join_on (record { address = a; bytes = b ∷ bs }) (record { address = a + length (b ∷ bs); bytes = c ∷ cs }) rs refl

-- so a piece before one run that goes on where it ends is one run with it
close_before : (a : ℕ) (p : List ℕ) → close a p [] ≡ before a p []
close_before a [] = refl
close_before a (b ∷ bs) = refl

pub runs_on :
    (a next : ℕ) (bs cs : List ℕ) (rs : List Rec) → next ≡ a + length bs → runs_of rs ≡ close next cs [] →
    runs_of (close a bs rs) ≡ close a (bs ++ cs) []
runs_on a next bs cs rs e r =
    runs_close a bs rs
    ∙ ap (before a bs) (r ∙ close_before next cs ∙ ap (λ (n : ℕ). before n cs []) e)
    ∙ before_twice a bs cs []
    ∙ sym (close_before a (bs ++ cs))

-- the bytes of an object go to the present record and to those after it: one run with it all the same
bytes_run :
    (bs : List ℕ) (a : ℕ) (p : List ℕ) (es : List Event) (rs : List Rec) →
    ((n : ℕ) (q : List ℕ) → n + length q ≡ a + length p + length bs → runs_of (recs_from n q es) ≡ before n q rs) →
    runs_of (recs_from a p (map Byte bs ++ es)) ≡ before a (p ++ bs) rs
bytes_run [] a p es rs later = later a p (omega arith) ∙ ap (λ (l : List ℕ). before a l rs) (sym (append-nil p))
bytes_run (b ∷ bs) a p es rs later =
    let grown = p ++ (b ∷ []) in
    let long : length (p ++ (b ∷ [])) ≡ length p + 1 = length-append p (b ∷ []) in
    by_test (λ (l : List Rec). runs_of l ≡ before a (p ++ (b ∷ bs)) rs) (eqb (length p + 1) 32)
    (λ t.
    let full = eqb-true (length p + 1) 32 t in
    let next : a + length (p ++ (b ∷ [])) ≡ a + 32 = omega arith in
    runs_close a grown (recs_from (a + 32) [] (map Byte bs ++ es))
    ∙ ap (before a grown) (bytes_run bs (a + 32) [] es rs (λ n q e. later n q (omega arith)))
    ∙ ap (λ (n : ℕ). before a grown (before n bs rs)) (sym next)
    ∙ before_twice a grown bs rs
    ∙ ap (λ (l : List ℕ). before a l rs) (append_snoc p b bs))
    (λ _.
    bytes_run bs a grown es rs (λ n q e. later n q (omega arith))
    ∙ ap (λ (l : List ℕ). before a l rs) (append_snoc p b bs))

runs_from : (os : List Object) (a : ℕ) (p : List ℕ) → runs_of (recs_from a p (events os)) ≡ before a p (runs_of (pieces os))
runs_from [] a p = runs_close a p []
runs_from (Without ∷ os) a p = runs_from os a p
runs_from (With c bs ∷ os) a p =
    let rs = runs_of (pieces os) in
    let es = events os in
    let all = ap (before a p) (sym (runs_close c bs (pieces os))) in
    by_test (λ (l : List Rec). runs_of l ≡ before a p (runs_of (close c bs (pieces os)))) (eqb c (a + length p))
    (λ t.
    bytes_run bs a p es rs (λ n q _. runs_from os n q)
    ∙ sym (before_twice a p bs rs)
    ∙ ap (λ (n : ℕ). before a p (before n bs rs)) (sym (eqb-true c (a + length p) t))
    ∙ all)
    (λ _.
    runs_close a p (recs_from c [] (map Byte bs ++ es))
    ∙ ap (before a p) (bytes_run bs c [] es rs (λ n q _. runs_from os n q))
    ∙ all)

-- the runs of the records are those of the objects that have bytes
pub runs_of_recs : (os : List Object) → runs_of (recs os) ≡ runs_of (pieces os)
unfolding recs
runs_of_recs os = runs_from os 0 []
