-- The laws of the writer's steps: each completes the same text, and steps follow one another.
-- Assumes nothing.
use mathlib.Core.Path.{◌≡◌, refl, sym, ap, ◌∙◌}
use mathlib.Core.List.{List, [], ◌∷◌, ◌++◌}
use Prim.Native.Nat.{ℕ, ◌+◌, ◌≤◌, ◌<◌}
use native.Mathlib.Nat.{not-suc-le-zero, add-zero}
use native.Mathlib.Omega.{arith}
use native.Mathlib.Numerals.{add-one}
use borrow.Author.Tests.{eq-eqb, ne_eqb}
use lib.ListN.{length, take, set, length-append}
use lib.Seq.{length-take-le, take-suc-set}
use Rattle.ground.specs.Stores.{put}
use Rattle.ground.proofs.Stores.{rest}
use Rattle.ground.proofs.Choices.{pick_true, pick_false}
use Rattle.records.specs.Line.{line}
use Rattle.records.specs.Text.{Rec, Event, Start, Byte, close, recs_from, text}
use Rattle.records.specs.Steps.{Present, pending, closing, ahead, Restarted, Goes}
use Rattle.records.proofs.Writing.{length_line}

pub closing_line : (a : ℕ) (p : List ℕ) → 0 < length p → closing a p ≡ line 0 a p
closing_line a [] h = absurd (not-suc-le-zero h)
closing_line a (b ∷ bs) h = refl

pub closing_short : (a : ℕ) (p : List ℕ) → length p ≤ 32 → length (closing a p) ≤ 76
closing_short a [] h = omega arith
closing_short a (b ∷ bs) h = omega (arith, length_line 0 a (b ∷ bs))

pub close_text : (a : ℕ) (p : List ℕ) (rs : List Rec) → text (close a p rs) ≡ closing a p ++ text rs
close_text a [] rs = refl
close_text a (b ∷ bs) rs = refl

-- what is ahead, by the first event
module _ (a : ℕ) (p : List ℕ) (b : ℕ) (es : List Event) where
  pub ahead_closes :
      length p + 1 ≡ 32 →
      text (recs_from a p (Byte b ∷ es)) ≡ closing a (p ++ (b ∷ [])) ++ text (recs_from (a + 32) [] es)
  ahead_closes h =
      ap text (pick_true (close a (p ++ (b ∷ [])) (recs_from (a + 32) [] es)) (recs_from a (p ++ (b ∷ [])) es) (eq-eqb (length p + 1) 32 h))
      ∙ close_text a (p ++ (b ∷ [])) (recs_from (a + 32) [] es)

  pub ahead_grows : (length p + 1 ≡ 32 → ⊥) → text (recs_from a p (Byte b ∷ es)) ≡ text (recs_from a (p ++ (b ∷ [])) es)
  ahead_grows h =
      ap text (pick_false (close a (p ++ (b ∷ [])) (recs_from (a + 32) [] es)) (recs_from a (p ++ (b ∷ [])) es) (ne_eqb (length p + 1) 32 h))

  pub ahead_joins : b ≡ a + length p → text (recs_from a p (Start b ∷ es)) ≡ text (recs_from a p es)
  ahead_joins h = ap text (pick_true (recs_from a p es) (close a p (recs_from b [] es)) (eq-eqb b (a + length p) h))

  pub ahead_starts : (b ≡ a + length p → ⊥) → text (recs_from a p (Start b ∷ es)) ≡ closing a p ++ text (recs_from b [] es)
  ahead_starts h =
      ap text (pick_false (recs_from a p es) (close a p (recs_from b [] es)) (ne_eqb b (a + length p) h))
      ∙ close_text a p (recs_from b [] es)

-- a record without bytes is not written
pub restarted_none :
    (d : List ℕ) (s : Present) (start : ℕ) → s.n ≡ 0 → length s.bytes ≡ 32 →
    Restarted d s start (record { start = start; n = s.n; at = s.at; bytes = s.bytes }) d
restarted_none d s start z l = record {
  wrote = rw z (record { next = sym (add-zero s.at); buffer = refl });
  begun = refl;
  none = z;
  whole = l;
}

begun : {d e : List ℕ} {g r : Present} {start : ℕ} → Restarted d g start r e → (es : List Event) → ahead r es ≡ text (recs_from start [] es)
begun w es = rw (w.begun, w.none)

-- the record g, which s has become, is closed, and one at start begun
module _
    {d e : List ℕ} {g r : Present} {start : ℕ} (s : Present) (more : List Event → List Event)
    (w : Restarted d g start r e) (same : g.at ≡ s.at)
    (law : (es : List Event) → ahead s (more es) ≡ closing g.start (pending g) ++ text (recs_from start [] es)) where
  pub goes_restart : Goes d s more start r e
  goes_restart = record {
    size = λ es. omega (
      arith,
      same,
      w.wrote.next,
      ap length (begun w es),
      ap length (law es),
      length-append (closing g.start (pending g)) (text (recs_from start [] es)),
    );
    buffer = λ es.
        ap (put e r.at) (begun w es)
        ∙ rest (text (recs_from start [] es)) w.wrote
        ∙ ap (put d g.at) (sym (law es))
        ∙ ap (λ (k : ℕ). put d k (ahead s (more es))) same;
    small = omega (arith, w.none);
    whole = w.whole;
    place = omega (arith, w.begun, w.none);
  }

-- nothing is written
pub goes_stay :
    (d : List ℕ) (s r : Present) (next : ℕ) (more : List Event → List Event) →
    ((es : List Event) → ahead r es ≡ ahead s (more es)) → r.at ≡ s.at → r.n < 32 → length r.bytes ≡ 32 → r.start + r.n ≡ next →
    Goes d s more next r d
goes_stay d s r next more law same small whole place = record {
  size = λ es. omega (arith, same, ap length (law es));
  buffer = λ es. ap (λ (k : ℕ). put d k (ahead r es)) same ∙ ap (put d s.at) (law es);
  small = small;
  whole = whole;
  place = place;
}

-- one step after the other
pub goes_then :
    {d e f : List ℕ} {s r t : Present} {m n : ℕ} (more further : List Event → List Event) →
    Goes d s more m r e → Goes e r further n t f → Goes d s (λ es. more (further es)) n t f
goes_then more further v w = record {
  size = λ es. w.size es ∙ v.size (further es);
  buffer = λ es. w.buffer es ∙ v.buffer (further es);
  small = w.small;
  whole = w.whole;
  place = w.place;
}

-- a byte stored after the pending ones
pub pending_grown : (bytes : List ℕ) (n b : ℕ) → n < length bytes → take (n + 1) (set bytes n b) ≡ take n bytes ++ (b ∷ [])
pending_grown bytes n b h = rw add-one (take-suc-set bytes n b h)

-- the array holds the pending bytes
pub pending_length : (s : Present) → length s.bytes ≡ 32 → s.n ≤ 32 → length (pending s) ≡ s.n
pending_length s l h = length-take-le s.n s.bytes (omega arith)
