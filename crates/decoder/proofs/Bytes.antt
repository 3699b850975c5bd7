-- An operand hangs on its own bytes alone: whatever follows them, it is read the same, and with fewer of them it is cut short. A number is read from
-- as many bytes as it has; a postbyte's shape says how many follow it, and its filling looks at no more.
-- Assumes nothing.
use mathlib.Core.Path.{◌≡◌, ◌∙◌, refl, sym, ap}
use mathlib.Core.Bool.{Bool, true, false}
use mathlib.Core.List.{List, ◌++◌}
use Prim.Native.Nat.{ℕ, zero, suc, ◌+◌, ◌<◌, ◌≤◌}
use native.Mathlib.Omega.{arith}
use lib.Dec.{eqb, ltb}
use lib.ListN.{length, get_or, take, length-append, get_or-append}
use lib.Seq.{length-take-le, get_or-take}
use borrow.Author.Tests.{lt-ltb, le-ltb, ne_eqb, eqb-false, ltb-false}
use Rattle.std.specs.Prelude.{Result, Err, IfOk}
use Rattle.ground.specs.Choice.{pick}
use Rattle.ground.specs.declared.refusals.Refusal.{Refusal}
use Rattle.ground.specs.declared.refusals.Refusal.TheVariants.{CutShort}
use Rattle.ground.specs.Words.{word}
use Rattle.ground.proofs.Choices.{by_test, by_pick}
use Rattle.std.specs.Prelude.{Result, Ok, Err}
use Rattle.ground.specs.declared.refusals.Refusal.{Refusal}
use Rattle.postbytes.specs.declared.Shape.{Shape}
use Rattle.postbytes.specs.declared.Shape.TheVariants.{NoOffset, FiveBits, OneByte, TwoBytes, Accumulator, Step, CounterByte, CounterWord, Address}
use Rattle.postbytes.specs.declared.Addressing.{Addressing}
use Rattle.postbytes.specs.declared.Pair.{Pair}
use Rattle.postbytes.specs.Reading.{shape_of, extra_of, fill_of}
use Rattle.postbytes.specs.Meanings.{Means}
use Rattle.postbytes.specs.ListsRead.{registers_of, pair_of}
use Rattle.decoder.specs.declared.Origin.{Origin}
use Rattle.decoder.specs.declared.operands.Rest.{Rest}
use Rattle.decoder.specs.declared.operands.Reading.{Reading}
use Rattle.decoder.specs.declared.Kind.TheVariants.{Push}
use Rattle.decoder.specs.Origin.{shifted, unseen}
use Rattle.decoder.specs.Meaning.{reading}
use Rattle.decoder.specs.Operands.{rest_of, number_of, numbered_of, numbered_at, resolved, indexed_as, indexed_at, is_pair, own_of, paired_as, registers_at, operand_of}
use Rattle.decoder.proofs.Bounds.{extra_small}

-- the first n bytes of l are what `read` reads of it: fewer of them are short, and what follows them changes nothing
pub record Own {A : Type 0} (short : A) (read : List ℕ → A) (l : List ℕ) (n : ℕ) : Type 0 where
  pub within : n ≤ length l
  pub cut : (k : ℕ) → k < n → read (take k l) ≡ short
  pub kept : (t : List ℕ) → read (take n l ++ t) ≡ read l

-- ---- the first bytes of a list, whatever follows them
module _ (n : ℕ) (l t : List ℕ) (h : n ≤ length l) where
  kept_at : (i : ℕ) → i < n → get_or (take n l ++ t) i 0 ≡ get_or l i 0
  kept_at i b =
      let e = length-take-le n l h in
      get_or-append (take n l) t 0 i (omega arith) ∙ get_or-take n l i 0 b

  kept_long : n ≤ length (take n l ++ t)
  kept_long = omega (arith, length-append (take n l) t, length-take-le n l h)

-- ---- a number
module _ (form size : ℕ) (after : Origin) (seen : unseen form after ≡ false) where
  pub numbered_back :
      (r : Rest) → size ≤ r.left → numbered_at form size r after ≡ reading size (numbered_of form size (number_of size r) after)
  unfolding numbered_at pick
  numbered_back r h = rw (seen, le-ltb r.left size h)

  numbered_cut : (r : Rest) → r.left < size → numbered_at form size r after ≡ Err CutShort
  unfolding numbered_at pick
  numbered_cut r h = rw (seen, lt-ltb r.left size h)

number_kept :
    (size : ℕ) (l t : List ℕ) → size ≤ length l → number_of size (rest_of (take size l ++ t)) ≡ number_of size (rest_of l)
unfolding number_of pick
number_kept size l t h = go (eqb size 0) refl (eqb size 1) refl
  where
    go :
        (a : Bool) →
        eqb size 0 ≡ a →
        (b : Bool) →
        eqb size 1 ≡ b →
        pick a 0 (pick b (get_or (take size l ++ t) 0 0) (word (get_or (take size l ++ t) 0 0) (get_or (take size l ++ t) 1 0)))
        ≡ pick a 0 (pick b (get_or l 0 0) (word (get_or l 0 0) (get_or l 1 0)))
    go true p b q = refl
    go false p true q = let z = eqb-false size 0 p in kept_at size l t h 0 (omega arith)
    go false p false q =
        let z = eqb-false size 0 p in
        let y = eqb-false size 1 q in
        rw (kept_at size l t h 0 (omega arith), kept_at size l t h 1 (omega arith))

-- no operand is there
abbrev pub short_operand : Result Reading Refusal
short_operand = Err CutShort

-- what is read is read from its own bytes
abbrev Sized : (List ℕ → Result Reading Refusal) → List ℕ → Result Reading Refusal → Type 0
Sized read l x = IfOk x (λ r. Own short_operand read l r.size)

abbrev pub Owned : (List ℕ → Result Reading Refusal) → List ℕ → Type 0
Owned read l = Sized read l (read l)

module _ (form size : ℕ) (after : Origin) (l : List ℕ) where
  abbrev numbered : List ℕ → Result Reading Refusal
  numbered m = numbered_at form size (rest_of m) after

  own_number : unseen form after ≡ false → size ≤ length l → Own short_operand numbered l size
  own_number seen h = record {
    within = h;
    cut = λ k b. numbered_cut form size after seen (rest_of (take k l)) (omega (arith, length-take-le k l (omega arith)));
    kept =
        λ t. numbered_back form size after seen (rest_of (take size l ++ t)) (kept_long size l t h)
        ∙ ap (λ (n : ℕ). reading size (numbered_of form size n after)) (number_kept size l t h)
        ∙ sym (numbered_back form size after seen (rest_of l) h);
  }

  numbered_own : Owned numbered l
  unfolding numbered_at
  numbered_own =
      by_test (Sized numbered l) (unseen form after) (λ _. tt)
      (λ u. by_test (Sized numbered l) (ltb (length l) size) (λ _. tt) (λ q. own_number u (ltb-false (length l) size q)))

-- ---- a postbyte
-- the operand's bytes, whatever follows them, are read as it
pub indexed_back :
    (l : List ℕ) (n : ℕ) (m : Addressing) (after : Origin) →
    Means l n m →
    indexed_at (rest_of l) after ≡ reading n (resolved m (shifted after n))
unfolding indexed_at indexed_as pick
indexed_back l n m after w =
    let s = w.some in
    let h = w.there in
    rw (ne_eqb (length l) 0 (omega arith), w.defined, w.extra, le-ltb (length l) n h, w.reads)

indexed_cut :
    (r : Rest) (after : Origin) (s : Shape) →
    (r.left ≡ 0 → ⊥) →
    shape_of r.first ≡ Ok s →
    r.left < 1 + extra_of s →
    indexed_at r after ≡ Err CutShort
unfolding indexed_at indexed_as pick
indexed_cut r after s z d h = rw (ne_eqb r.left 0 z, d, lt-ltb r.left (1 + extra_of s) h)

-- a filling looks at the bytes that its shape has, and at no more
fill_kept :
    (s : Shape) (b c d e : ℕ) → (1 ≤ extra_of s → b ≡ d) → (2 ≤ extra_of s → c ≡ e) → fill_of s b c ≡ fill_of s d e
fill_kept (NoOffset r ind) b c d e p q = refl
fill_kept (FiveBits r n) b c d e p q = refl
fill_kept (OneByte r ind) b c d e p q = rw (p (omega arith))
fill_kept (TwoBytes r ind) b c d e p q = rw (p (omega arith), q (omega arith))
fill_kept (Accumulator r ind a) b c d e p q = refl
fill_kept (Step r ind k) b c d e p q = refl
fill_kept (CounterByte ind) b c d e p q = rw (p (omega arith))
fill_kept (CounterWord ind) b c d e p q = rw (p (omega arith), q (omega arith))
fill_kept Address b c d e p q = rw (p (omega arith), q (omega arith))

means_kept : (l : List ℕ) (n : ℕ) (m : Addressing) → Means l n m → (t : List ℕ) → Means (take n l ++ t) n m
means_kept l n m w t =
    let h = w.there in
    let some = w.some in
    let x = w.extra in
    let first = kept_at n l t h 0 (omega arith) in
    let s = w.shape in
    record {
      some = some;
      most = w.most;
      there = kept_long n l t h;
      shape = s;
      defined = rw first w.defined;
      extra = x;
      reads = fill_kept s _ _ (get_or l 1 0) (get_or l 2 0) (λ a. kept_at n l t h 1 (omega arith)) (λ a. kept_at n l t h 2 (omega arith)) ∙ w.reads;
    }

module _ (after : Origin) (l : List ℕ) where
  abbrev indexed : List ℕ → Result Reading Refusal
  indexed m = indexed_at (rest_of m) after

  module _ (shape : Shape) (z : length l ≡ 0 → ⊥) (d : shape_of (get_or l 0 0) ≡ Ok shape) (h : 1 + extra_of shape ≤ length l) where
    means : Means l (1 + extra_of shape) (fill_of shape (get_or l 1 0) (get_or l 2 0))
    means =
        let x = extra_small shape in
        record { some = omega arith; most = omega arith; there = h; shape = shape; defined = d; extra = refl; reads = refl }

    cut_index : (k : ℕ) → k < 1 + extra_of shape → indexed (take k l) ≡ Err CutShort
    unfolding indexed_at pick
    cut_index zero b = refl
    cut_index (suc k) b =
        let n = length-take-le (suc k) l (omega arith) in
        let first : get_or (take (suc k) l) 0 0 ≡ get_or l 0 0 = get_or-take (suc k) l 0 0 (omega arith) in
        indexed_cut (rest_of (take (suc k) l)) after shape (omega arith) (rw first d) (omega arith)

    own_index : Own short_operand indexed l (1 + extra_of shape)
    own_index =
        let n = 1 + extra_of shape in
        let m = fill_of shape (get_or l 1 0) (get_or l 2 0) in
        record {
          within = h;
          cut = cut_index;
          kept = λ t. indexed_back (take n l ++ t) n m after (means_kept l n m means t) ∙ sym (indexed_back l n m after means);
        }

  shaped_own : (x : Result Shape Refusal) → (length l ≡ 0 → ⊥) → shape_of (get_or l 0 0) ≡ x → Sized indexed l (indexed_as x (rest_of l) after)
  unfolding indexed_as
  shaped_own (Ok shape) z d =
      by_test (Sized indexed l) (ltb (length l) (1 + extra_of shape)) (λ _. tt)
      (λ q. own_index shape z d (ltb-false (length l) (1 + extra_of shape) q))
  shaped_own (Err e) z d = tt

  indexed_own : Owned indexed l
  unfolding indexed_at
  indexed_own =
      by_test (Sized indexed l) (eqb (length l) 0) (λ _. tt) (λ z. shaped_own (shape_of (get_or l 0 0)) (eqb-false (length l) 0 z) refl)

-- ---- a list of registers
module _ (o : ℕ) where
  pub push_back :
      (r : Rest) → (r.left ≡ 0 → ⊥) → is_pair o ≡ false → registers_at o r ≡ reading 1 (Push (registers_of (own_of o) r.first))
  unfolding registers_at pick
  push_back r z i = rw (ne_eqb r.left 0 z, i)

  pub pair_back : (r : Rest) → (r.left ≡ 0 → ⊥) → is_pair o ≡ true → registers_at o r ≡ paired_as (pair_of r.first)
  unfolding registers_at pick
  pair_back r z i = rw (ne_eqb r.left 0 z, i)

  abbrev registers : List ℕ → Result Reading Refusal
  registers m = registers_at o (rest_of m)

  -- where both have a first byte, and it is the same
  same_list : (r q : Rest) → (r.left ≡ 0 → ⊥) → (q.left ≡ 0 → ⊥) → r.first ≡ q.first → registers_at o r ≡ registers_at o q
  unfolding registers_at pick
  same_list r q y z e = rw (ne_eqb r.left 0 y, ne_eqb q.left 0 z, e)

  module _ (l : List ℕ) where
    cut_list : (k : ℕ) → k < 1 → registers (take k l) ≡ Err CutShort
    unfolding registers_at pick
    cut_list zero b = refl
    cut_list (suc k) b = absurd (omega arith)

    own_list : (length l ≡ 0 → ⊥) → Own short_operand registers l 1
    own_list z =
        let h : 1 ≤ length l = omega arith in
        record {
          within = h;
          cut = cut_list;
          kept =
              λ t. same_list (rest_of (take 1 l ++ t)) (rest_of l) (omega (arith, kept_long 1 l t h)) z (kept_at 1 l t h 0 (omega arith));
        }

    own_pair : (length l ≡ 0 → ⊥) → (x : Result Pair Refusal) → Sized registers l (paired_as x)
    own_pair z (Ok p) = own_list z
    own_pair z (Err e) = tt

    registers_own : Owned registers l
    unfolding registers_at
    registers_own =
        by_test (Sized registers l) (eqb (length l) 0) (λ _. tt)
        (λ z. by_pick (Sized registers l) (is_pair o) (own_pair (eqb-false (length l) 0 z) (pair_of (get_or l 0 0)))
        (own_list (eqb-false (length l) 0 z)))

-- ---- every form
pub operand_own : (o form size : ℕ) (after : Origin) (l : List ℕ) → Owned (λ m. operand_of o form size (rest_of m) after) l
unfolding operand_of pick
operand_own o form size after l = go (eqb form 3) (eqb form 6)
  where
    go :
        (a b : Bool) →
        Owned (λ m. pick a (indexed_at (rest_of m) after) (pick b (registers_at o (rest_of m)) (numbered_at form size (rest_of m) after))) l
    go true b = indexed_own after l
    go false true = registers_own o l
    go false false = numbered_own form size after l
