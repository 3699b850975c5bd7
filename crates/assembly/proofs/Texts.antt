-- How long the text of objects is, from their addresses and sizes alone.
-- Assumes nothing.
use mathlib.Core.Path.{◌≡◌, refl, sym, ap, ◌∙◌}
use mathlib.Core.Bool.{Bool, true, false}
use mathlib.Core.List.{List, [], ◌∷◌, ◌++◌, map}
use Prim.Native.Nat.{ℕ, suc, ◌+◌, ◌*◌, ◌<◌}
use native.Mathlib.Omega.{arith}
use lib.Dec.{eqb}
use lib.ListN.{length, length-append}
use borrow.Author.Tests.{eqb-true, eqb-false, ne_eqb}
use Rattle.ground.specs.Choice.{pick}
use Rattle.ground.proofs.Choices.{by_test, pick_true, pick_false}
use Rattle.records.specs.Line.{line}
use Rattle.records.specs.Text.{Rec, Event, Start, Byte, close, recs_from, text}
use Rattle.records.proofs.Writing.{length_line}
use Rattle.assembly.specs.declared.tally.Tally.{Tally}
use Rattle.assembly.specs.Steps.{closed_length, started, grown, end_of}

-- ---- the text of events, where the present record ends before an address and has some bytes
-- the characters of a record's line
abbrev closing : ℕ → ℕ
closing held = pick (eqb held 0) 0 (12 + 2 * held)

abbrev pub length_from : (next held : ℕ) → List Event → ℕ
length_from next held [] = closing held + 12
length_from next held (Start b ∷ es) = pick (eqb b next) (length_from next held es) (closing held + length_from b 0 es)
length_from next held (Byte b ∷ es) =
    pick (eqb (held + 1) 32) (76 + length_from (next + 1) 0 es) (length_from (next + 1) (held + 1) es)

close_length : (a : ℕ) (p : List ℕ) (rs : List Rec) → length (text (close a p rs)) ≡ closing (length p) + length (text rs)
unfolding pick
close_length a [] rs = omega arith
close_length a (b ∷ bs) rs =
    let e : closing (length (b ∷ bs)) ≡ 12 + 2 * length (b ∷ bs) = pick_false 0 _ (ne_eqb (length (b ∷ bs)) 0 (λ z. omega (arith, z))) in
    length-append (line 0 a (b ∷ bs)) (text rs) ∙ ap (λ (n : ℕ). n + length (text rs)) (length_line 0 a (b ∷ bs) ∙ sym e)

closed_full : (n : ℕ) → closing 32 + n ≡ 76 + n
unfolding pick
closed_full n = refl

pub text_length : (a : ℕ) (p : List ℕ) (es : List Event) → length p < 32 → length (text (recs_from a p es)) ≡ length_from (a + length p) (length p) es
text_length a p [] h = close_length a p [] ∙ ap (λ (n : ℕ). closing (length p) + n) (length_line 1 0 [])
text_length a p (Start b ∷ es) h =
    by_test
    (λ (rs : List Rec).
    length (text rs) ≡ pick (eqb b (a + length p)) (length_from (a + length p) (length p) es) (closing (length p) + length_from b 0 es))
    (eqb b (a + length p))
    (λ q. text_length a p es h ∙ sym (pick_true _ _ q))
    (λ q.
    let z : b + 0 ≡ b = omega arith in
    close_length a p (recs_from b [] es)
    ∙ ap (λ (n : ℕ). closing (length p) + n) (text_length b [] es (omega arith) ∙ ap (λ (n : ℕ). length_from n 0 es) z)
    ∙ sym (pick_false _ _ q))
text_length a p (Byte b ∷ es) h =
    let q = p ++ (b ∷ []) in
    let long : length q ≡ length p + 1 = length-append p (b ∷ []) in
    by_test
    (λ (rs : List Rec).
    length (text rs)
    ≡ pick (eqb (length p + 1) 32) (76 + length_from (a + length p + 1) 0 es) (length_from (a + length p + 1) (length p + 1) es))
    (eqb (length p + 1) 32)
    (λ full.
    let m = eqb-true (length p + 1) 32 full in
    let n : a + 32 + 0 ≡ a + length p + 1 = omega arith in
    close_length a q (recs_from (a + 32) [] es)
    ∙ ap (λ (k : ℕ). closing k + length (text (recs_from (a + 32) [] es))) (long ∙ m)
    ∙ ap (λ (k : ℕ). closing 32 + k) (text_length (a + 32) [] es (omega arith) ∙ ap (λ (k : ℕ). length_from k 0 es) n)
    ∙ closed_full (length_from (a + length p + 1) 0 es)
    ∙ sym (pick_true _ _ full))
    (λ more.
    let m = eqb-false (length p + 1) 32 more in
    let n : a + length q ≡ a + length p + 1 = omega arith in
    text_length a q es (omega (arith, m))
    ∙ ap (λ (k : ℕ). length_from k (length q) es) n
    ∙ ap (λ (k : ℕ). length_from (a + length p + 1) k es) long
    ∙ sym (pick_false _ _ more))

-- ---- a measure, and what is still to be written after it
abbrev pub ahead : Tally → List Event → ℕ
ahead t es = t.length + length_from t.next t.held es

pub ahead_end : (t : Tally) → ahead t [] ≡ end_of t
unfolding end_of closed_length pick
ahead_end t = from (eqb t.held 0) refl
  where
    from : (b : Bool) → eqb t.held 0 ≡ b → ahead t [] ≡ end_of t
    from true q = rw q (omega arith)
    from false q = rw q (omega arith)

pub ahead_start : (a : ℕ) (t : Tally) (es : List Event) → ahead t (Start a ∷ es) ≡ ahead (started a t) es
unfolding started closed_length pick
ahead_start a t es = from (eqb a t.next) refl (eqb t.held 0) refl
  where
    from : (b : Bool) → eqb a t.next ≡ b → (c : Bool) → eqb t.held 0 ≡ c → ahead t (Start a ∷ es) ≡ ahead (started a t) es
    from true q c p = rw q
    from false q true p = rw (q, p) (omega arith)
    from false q false p = rw (q, p) (omega arith)

-- two measures that say the same
same_ahead : (t u : Tally) (es : List Event) → t.next ≡ u.next → t.held ≡ u.held → t.length ≡ u.length → ahead t es ≡ ahead u es
same_ahead t u es p q r = rw (p, q, r)

-- one byte more in the present record, which is closed with its 32nd
closed : Tally → Tally
closed t = record { next = t.next + 1; held = 0; length = t.length + 76 }

longer : Tally → Tally
longer t = record { next = t.next + 1; held = t.held + 1; length = t.length }

ahead_byte :
    (b n : ℕ) (t : Tally) (more es : List Event) → t.held < 32 →
    ((u : Tally) → u.held < 32 → ahead u more ≡ ahead (grown n u) es) → ahead t (Byte b ∷ more) ≡ ahead (grown (suc n) t) es
unfolding grown closed longer
ahead_byte b n t more es h next =
    by_test (λ (k : ℕ). t.length + k ≡ ahead (grown (suc n) t) es) (eqb (t.held + 1) 32)
    (λ q.
    let m = eqb-true (t.held + 1) 32 q in
    let c : t.length + (76 + length_from (t.next + 1) 0 more) ≡ ahead (closed t) more = omega arith in
    c ∙ next (closed t) (omega arith)
    ∙ same_ahead (grown n (closed t)) (grown (suc n) t) es (omega arith) (omega arith) (omega arith))
    (λ q.
    let m = eqb-false (t.held + 1) 32 q in
    next (longer t) (omega (arith, m))
    ∙ same_ahead (grown n (longer t)) (grown (suc n) t) es (omega arith) (omega arith) (omega arith))

pub ahead_bytes : (bs : List ℕ) (t : Tally) (es : List Event) → t.held < 32 → ahead t (map Byte bs ++ es) ≡ ahead (grown (length bs) t) es
unfolding grown
ahead_bytes [] t es h = same_ahead t (grown 0 t) es (omega arith) (omega arith) (omega arith)
ahead_bytes (b ∷ bs) t es h = ahead_byte b (length bs) t (map Byte bs ++ es) es h (λ u k. ahead_bytes bs u es k)
