-- Runs, counted and written record by record. A record goes on with the run before it, or begins one.
-- Assumes nothing.
use borrow.Author.Tests.{ne_eqb, eqb-true, eqb-false}
use mathlib.Core.Path.{◌≡◌, refl, sym, ap, ◌∙◌}
use mathlib.Core.Bool.{Bool, true, false}
use mathlib.Core.List.{List, [], ◌∷◌, ◌++◌, append_assoc}
use Prim.Native.Nat.{ℕ, ◌+◌, ◌-◌}
use native.Mathlib.Omega.{arith}
use lib.Dec.{eqb}
use lib.ListN.{length}
use Rattle.ground.specs.Choice.{pick}
use Rattle.ground.proofs.Choices.{pick_true, pick_false}
use Rattle.records.specs.Text.{Rec}
use Rattle.records.specs.Runs.{join, runs_of}
use Rattle.records.proofs.Joins.{after, glue, after_glue, join_on}
use Rattle.reader.specs.Answers.{bytes_of, rows_of}

module _ (p q : Rec) where
  apart : (x : Rec) (xs : List Rec) (t : Bool) → (q.address ≡ after p → ⊥) → eqb x.address (after q) ≡ t
      → join p (join q (x ∷ xs)) ≡ p ∷ join q (x ∷ xs)
  apart x xs true n f = ap (join p) (pick_true _ _ f) ∙ pick_false _ _ (ne_eqb q.address (after p) n) ∙ ap (λ (l : List Rec). p ∷ l) (sym (pick_true _ _ f))
  apart x xs false n f = ap (join p) (pick_false _ _ f) ∙ pick_false _ _ (ne_eqb q.address (after p) n) ∙ ap (λ (l : List Rec). p ∷ l) (sym (pick_false _ _ f))

  -- one that does not begins a run
  pub join_off : (qs : List Rec) → (q.address ≡ after p → ⊥) → join p (join q qs) ≡ p ∷ join q qs
  join_off [] n = pick_false _ _ (ne_eqb q.address (after p) n)
  join_off (x ∷ xs) n = apart x xs (eqb x.address (after q)) n refl

-- the bytes of the runs are those of the records
bytes_join : (p : Rec) (qs : List Rec) → bytes_of (join p qs) ≡ p.bytes ++ bytes_of qs
bytes_join p [] = refl
bytes_join p (q ∷ qs) = by_cases p q qs (eqb q.address (after p)) refl
  where
    by_cases : (p q : Rec) (qs : List Rec) (t : Bool) → eqb q.address (after p) ≡ t → bytes_of (join p (q ∷ qs)) ≡ p.bytes ++ (q.bytes ++ bytes_of qs)
    by_cases p q qs true e = ap bytes_of (pick_true _ _ e) ∙ append_assoc p.bytes q.bytes (bytes_of qs)
    by_cases p q qs false e = ap bytes_of (pick_false _ _ e)

pub bytes_runs : (rs : List Rec) → bytes_of (runs_of rs) ≡ bytes_of rs
bytes_runs [] = refl
bytes_runs (r ∷ rs) = bytes_join r (runs_of rs) ∙ ap (λ (l : List ℕ). r.bytes ++ l) (bytes_runs rs)

-- how many runs begin after one whose next address is n
abbrev pub begun : ℕ → List Rec → ℕ
begun n [] = 0
begun n (r ∷ rs) = pick (eqb r.address n) 0 1 + begun (after r) rs

pub runs_begun : (rs : List Rec) (p : Rec) → length (join p (runs_of rs)) ≡ 1 + begun (after p) rs
unfolding pick
runs_begun [] p = refl
runs_begun (r ∷ rs) p = by_cases p r rs (λ q. runs_begun rs q) (eqb r.address (after p)) refl
  where
    by_cases : (p r : Rec) (rs : List Rec) → ((q : Rec) → length (join q (runs_of rs)) ≡ 1 + begun (after q) rs)
        → (t : Bool) → eqb r.address (after p) ≡ t → length (join p (runs_of (r ∷ rs))) ≡ 1 + begun (after p) (r ∷ rs)
    by_cases p r rs ih true e =
        let same = eqb-true r.address (after p) e in
        ap length (join_on p r (runs_of rs) same)
        ∙ ih (glue p r)
        ∙ rw (e, after_glue p r same) (omega arith)
    by_cases p r rs ih false e =
        ap length (join_off p r (runs_of rs) (eqb-false r.address (after p) e))
        ∙ rw (e, ih r) (omega arith)

-- the rows from that of the run at f on, whose next address is n
abbrev pub rows_from : ℕ → ℕ → List Rec → List ℕ
rows_from f n [] = f ∷ (n - 1) ∷ []
rows_from f n (r ∷ rs) = pick (eqb r.address n) (rows_from f (after r) rs) (f ∷ (n - 1) ∷ rows_from r.address (after r) rs)

pub rows_from_lem : (rs : List Rec) (p : Rec) → rows_of (join p (runs_of rs)) ≡ rows_from p.address (after p) rs
rows_from_lem [] p = refl
rows_from_lem (r ∷ rs) p = by_cases p r rs (λ q. rows_from_lem rs q) (eqb r.address (after p)) refl
  where
    by_cases : (p r : Rec) (rs : List Rec) → ((q : Rec) → rows_of (join q (runs_of rs)) ≡ rows_from q.address (after q) rs)
        → (t : Bool) → eqb r.address (after p) ≡ t → rows_of (join p (runs_of (r ∷ rs))) ≡ rows_from p.address (after p) (r ∷ rs)
    by_cases p r rs ih true e =
        let same = eqb-true r.address (after p) e in
        ap rows_of (join_on p r (runs_of rs) same)
        ∙ ih (glue p r)
        ∙ ap (λ (n : ℕ). rows_from p.address n rs) (after_glue p r same)
        ∙ sym (pick_true _ _ e)
    by_cases p r rs ih false e =
        ap rows_of (join_off p r (runs_of rs) (eqb-false r.address (after p) e))
        ∙ ap (λ (l : List ℕ). p.address ∷ (after p - 1) ∷ l) (ih r)
        ∙ sym (pick_false _ _ e)
