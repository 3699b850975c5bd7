-- A run is read instruction after instruction: an accepted one and then the run after it, a refused one the last. So a run is consumed whole, or refused.
-- Assumes nothing.
use mathlib.Core.Path.{◌≡◌, ◌∙◌, refl, sym, ap}
use mathlib.Core.Bool.{Bool, true, false}
use mathlib.Core.List.{List, [], ◌∷◌, ◌++◌}
use Prim.Native.Nat.{ℕ, zero, suc, ◌+◌, ◌-◌, ◌<◌, ◌≤◌}
use native.Mathlib.Omega.{arith}
use native.Mathlib.Nat.{add-zero}
use lib.ListN.{length, drop, length-drop, drop_of_length-le}
use lib.Seq.{drop-nil, drop-drop, drop_at}
use Rattle.std.specs.Prelude.{Option, Some, None, Ok, Err}
use Rattle.ground.specs.Choice.{pick}
use Rattle.ground.specs.declared.refusals.Refusal.{Refusal}
use Rattle.ground.specs.declared.refusals.Refusal.TheVariants.{Beyond}
use Rattle.decoder.specs.declared.Origin.{Origin}
use Rattle.decoder.specs.declared.Decoded.{Decoded}
use Rattle.decoder.specs.Origin.{shifted, outside}
use Rattle.decoder.specs.Meaning.{Answer}
use Rattle.decoder.specs.Front.{front_of}
use Rattle.decoder.specs.Run.{before, run_from, run_of, refusal_in, total_of, counted_as, counted_of, next_of}
use Rattle.decoder.proofs.Origins.{shift_zero, shift_shift}
use Rattle.decoder.proofs.Instructions.{front_read}

-- the rest of an instruction is passed over
skip : (k : ℕ) (l : List ℕ) (from : Origin) (j : ℕ) → run_from k l (shifted from j) ≡ run_from 0 (drop k l) (shifted from (j + k))
unfolding run_from
skip k [] from j = rw (drop-nil k)
skip zero (b ∷ l) from j = ap (λ (n : ℕ). run_from 0 (b ∷ l) (shifted from n)) (sym (add-zero j))
skip (suc k) (b ∷ l) from j =
    ap (run_from k l) (shift_shift from j 1)
    ∙ skip k l from (j + 1)
    ∙ ap (λ (n : ℕ). run_from 0 (drop k l) (shifted from n)) (omega arith)

-- an accepted instruction has a byte, and no more than there are
pub accepted_size : (l : List ℕ) (from : Origin) (d : Decoded) → front_of l from ≡ Ok d → (1 ≤ d.length) × (d.length ≤ length l)
accepted_size l from d e = let w = front_read l from d e in (w.some, w.own.within)

-- an accepted instruction, and the run after it
pub moved :
    (l : List ℕ) (from : Origin) (d : Decoded) →
    front_of l from ≡ Ok d →
    run_from 0 l from ≡ Ok d ∷ run_from 0 (drop d.length l) (shifted from d.length)
unfolding run_from
moved [] from d e = let s = accepted_size [] from d e in absurd (omega arith)
moved (b ∷ l) from d e = rw e (ap (λ (ds : List Answer). Ok d ∷ ds) (go d.length (accepted_size (b ∷ l) from d e).0))
  where
    go : (k : ℕ) → 1 ≤ k → run_from (k - 1) l (shifted from 1) ≡ run_from 0 (drop k (b ∷ l)) (shifted from k)
    go zero n = absurd (omega arith)
    go (suc k) n =
        let p : suc k - 1 ≡ k = omega arith in
        rw p (skip k l from 1 ∙ ap (λ (m : ℕ). run_from 0 (drop k l) (shifted from m)) (omega arith))

-- a refused one is the last
pub stopped : (l : List ℕ) (from : Origin) (e : Refusal) → 1 ≤ length l → front_of l from ≡ Err e → run_from 0 l from ≡ Err e ∷ []
unfolding run_from
stopped [] from e h q = absurd (omega arith)
stopped (b ∷ l) from e h q = rw q

-- an instruction of some bytes, and whatever follows them
pub followed :
    (bytes l : List ℕ) (from : Origin) (d : Decoded) →
    front_of (bytes ++ l) from ≡ Ok d →
    d.length ≡ length bytes →
    run_from 0 (bytes ++ l) from ≡ Ok d ∷ run_from 0 l (shifted from (length bytes))
followed bytes l from d e n =
    moved (bytes ++ l) from d e
    ∙ ap (λ (m : List ℕ). Ok d ∷ run_from 0 m (shifted from d.length)) (drop_at bytes l d.length (sym n))
    ∙ ap (λ (k : ℕ). Ok d ∷ run_from 0 l (shifted from k)) n

-- ---- nothing is left over
consumed :
    (k : ℕ) (l : List ℕ) (from : Origin) →
    k ≤ length l →
    refusal_in (run_from k l from) ≡ None →
    k + total_of (run_from k l from) ≡ length l
unfolding run_from
consumed k [] from h z = omega arith
consumed zero (b ∷ l) from h z = go (front_of (b ∷ l) from) (accepted_size (b ∷ l) from) (λ k. consumed k l (shifted from 1)) z
  where
    from_here : Answer → List Answer
    from_here x = before x (λ n. run_from (n - 1) l (shifted from 1))

    go :
        (x : Answer) →
        ((d : Decoded) → x ≡ Ok d → (1 ≤ d.length) × (d.length ≤ length (b ∷ l))) →
        ((k : ℕ) →
        k ≤ length l →
        refusal_in (run_from k l (shifted from 1)) ≡ None →
        k + total_of (run_from k l (shifted from 1)) ≡ length l) →
        refusal_in (from_here x) ≡ None →
        0 + total_of (from_here x) ≡ length (b ∷ l)
    go (Ok d) size next z₁ =
        let s = size d refl in
        let f = next (d.length - 1) (omega arith) z₁ in
        omega arith
    go (Err e) size next z₁ = absurd (cc)
consumed (suc k) (b ∷ l) from h z = let f = consumed k l (shifted from 1) (omega arith) z in omega arith

pub nothing_left :
    (l : List ℕ) (from : Origin) → refusal_in (run_from 0 l from) ≡ None → total_of (run_from 0 l from) ≡ length l
nothing_left l from z = let f = consumed 0 l from (omega arith) z in omega arith

counted_none : (o : Option Refusal) (n m : ℕ) → counted_as o n ≡ Ok m → (o ≡ None) × (m ≡ n)
counted_none None n m e = (refl, cc)
counted_none (Some x) n m e = absurd (cc)

-- a run is consumed whole and its instructions are counted, or it is refused
pub run_whole :
    (l : List ℕ) (from : Origin) (count : ℕ) →
    counted_of (run_of l from) ≡ Ok count →
    (count ≡ length (run_of l from)) × (total_of (run_of l from) ≡ length l)
unfolding counted_of run_of pick
run_whole l from count e =
    let n = counted_none (refusal_in (run_of l from)) (length (run_of l from)) count e in
    (n.1, go (outside l from) n.0)
  where
    go :
        (t : Bool) →
        refusal_in (pick t (Err Beyond ∷ []) (run_from 0 l from)) ≡ None →
        total_of (pick t (Err Beyond ∷ []) (run_from 0 l from)) ≡ length l
    go true y = absurd (cc)
    go false y = nothing_left l from y

-- ---- the run from a place on
abbrev pub run_at : List ℕ → Origin → ℕ → List Answer
run_at l from at = run_from 0 (drop at l) (shifted from at)

module _ (l : List ℕ) (from : Origin) (at : ℕ) where
  pub next_accepted : (d : Decoded) → front_of (drop at l) (shifted from at) ≡ Ok d → run_at l from at ≡ Ok d ∷ run_at l from (at + d.length)
  next_accepted d e =
      moved (drop at l) (shifted from at) d e
      ∙ ap (λ (m : List ℕ). Ok d ∷ run_from 0 m (shifted (shifted from at) d.length)) (drop-drop d.length at l)
      ∙ ap (λ (o : Origin). Ok d ∷ run_from 0 (drop (at + d.length) l) o) (shift_shift from at d.length)

  pub next_refused : (e : Refusal) → front_of (drop at l) (shifted from at) ≡ Err e → at < length l → run_at l from at ≡ Err e ∷ []
  next_refused e q h = stopped (drop at l) (shifted from at) e (omega (arith, length-drop at l)) q

pub next_none : (l : List ℕ) (from : Origin) (at : ℕ) → length l ≤ at → run_at l from at ≡ []
unfolding run_from
next_none l from at h = rw (drop_of_length-le l h)

-- the instructions of a run are those that are handed out place by place, from its start on
pub run_start : (l : List ℕ) (from : Origin) → from.address < 65536 → outside l from ≡ false → run_of l from ≡ run_at l from 0
unfolding run_of pick
run_start l from h q = rw q (ap (run_from 0 l) (sym (shift_zero from h)))

pub run_next :
    (l : List ℕ) (from : Origin) (at : ℕ) (d : Decoded) →
    outside l from ≡ false →
    next_of l from at ≡ Ok d →
    run_at l from at ≡ Ok d ∷ run_at l from (at + d.length)
unfolding next_of pick
run_next l from at d q e = next_accepted l from at d (rw q at e)

-- ---- counting
pub outside_counted : (l : List ℕ) (from : Origin) → outside l from ≡ true → counted_of (run_of l from) ≡ Err Beyond
unfolding counted_of run_of pick
outside_counted l from q = rw q

-- so many instructions were counted, and the run from a place on is left
pub record Counting (l : List ℕ) (from : Origin) (at count : ℕ) : Type 0 where
  pub some : count ≤ at
  pub refusal : refusal_in (run_of l from) ≡ refusal_in (run_at l from at)
  pub total : length (run_of l from) ≡ count + length (run_at l from at)

pub count_first : (l : List ℕ) (from : Origin) → from.address < 65536 → outside l from ≡ false → Counting l from 0 0
count_first l from h q =
    let e = run_start l from h q in
    record { some = omega arith; refusal = ap refusal_in e; total = omega (arith, ap length e) }

module _ (l : List ℕ) (from : Origin) (at count : ℕ) (c : Counting l from at count) where
  -- what `front` answered there
  abbrev Read : Answer → Type 0
  Read x = front_of (drop at l) (shifted from at) ≡ x

  pub count_room : (d : Decoded) → Read (Ok d) → at < length l → (1 ≤ d.length) × (at + d.length ≤ length l)
  count_room d e h =
      let s = accepted_size (drop at l) (shifted from at) d e in
      (s.0, omega (arith, s.1, length-drop at l))

  pub count_more : (d : Decoded) → Read (Ok d) → Counting l from (at + d.length) (count + 1)
  count_more d e =
      let next = next_accepted l from at d e in
      let s = accepted_size (drop at l) (shifted from at) d e in
      record {
        some = omega (arith, s.0, c.some);
        refusal = c.refusal ∙ ap refusal_in next;
        total = omega (arith, c.total, ap length next);
      }

  pub count_refused : (e : Refusal) → Read (Err e) → at < length l → counted_of (run_of l from) ≡ Err e
  unfolding counted_of
  count_refused e q h = rw (c.refusal, next_refused l from at e q h)

  pub count_end : length l ≤ at → counted_of (run_of l from) ≡ Ok count
  unfolding counted_of
  count_end h =
      let none = next_none l from at h in
      let n : length (run_of l from) ≡ count = omega (arith, c.total, ap length none) in
      rw (c.refusal, none, n)
