-- The value of a digit, by the range that its character is in.
-- Assumes nothing.
use borrow.Author.Tests.{le-leb, lt-leb, leb-true}
use mathlib.Core.Path.{◌≡◌, refl, sym, ap, ◌∙◌}
use mathlib.Core.Bool.{Bool, true, false, ◌&&◌, and-false}
use Rattle.std.proofs.Common.{Option, Some, None}
use Rattle.std.proofs.lemmas.Option.{none-some}
use mathlib.Core.List.{List, [], ◌∷◌}
use Prim.Native.Nat.{ℕ, zero, suc, ◌+◌, ◌-◌, ◌*◌, ◌%◌, ◌≤◌, ◌<◌}
use native.Mathlib.Nat.{add-zero}
use native.Mathlib.Omega.{arith}
use lib.Dec.{ltb, leb}
use lib.ListN.{length, get_or, take, drop, set, length-drop, get_or-eq_default}
use lib.Seq.{get_or-drop, drop-drop, length-take-le}
use Rattle.std.proofs.lemmas.List.{take_more}
use Rattle.ground.specs.Stores.{put}
use Rattle.ground.proofs.Stores.{put_append}
use Rattle.ground.specs.Choice.{pick}
use Rattle.ground.proofs.Choices.{pick_true, pick_false}
use Rattle.ground.proofs.Tests.{both_first, both_second}
use Rattle.records.specs.Line.{sum}
use Rattle.reader.specs.Digits.{digit_of, pair_of, bytes_in}
use Rattle.reader.specs.Steps.{pair_at, ByteAt}

pub both_true : (a b : Bool) → (a && b) ≡ true → (a ≡ true) × (b ≡ true)
both_true a b e = (both_first a b e, both_second a b e)

module _ (a b c : ℕ) where
  inside : a ≤ c → c ≤ b → (leb a c && leb c b) ≡ true
  inside h k = rw (le-leb a c h, le-leb c b k)

  over : b < c → (leb a c && leb c b) ≡ false
  over h = rw (lt-leb c b h) (and-false (leb a c))

  pub at_least : (leb a c && leb c b) ≡ true → a ≤ c
  at_least t = leb-true a c (both_true (leb a c) (leb c b) t).0

module _ (c : ℕ) where
  pub digit_upper : 65 ≤ c → c ≤ 70 → c - 55 ≡ digit_of c
  unfolding digit_of
  digit_upper h k = sym (pick_false _ _ (over 48 57 c (omega arith)) ∙ pick_true _ _ (inside 65 70 c h k))

  pub digit_lower : 97 ≤ c → c ≤ 102 → c - 87 ≡ digit_of c
  unfolding digit_of
  digit_lower h k =
      sym (pick_false _ _ (over 48 57 c (omega arith))
      ∙ pick_false _ _ (over 65 70 c (omega arith))
      ∙ pick_true _ _ (inside 97 102 c h k))

-- two characters, by the test of their values
module _ (h l x y : ℕ) (p : h ≡ digit_of x) (q : l ≡ digit_of y) where
  pub pair_right : (ltb h 16 && ltb l 16) ≡ true → Some (16 * h + l) ≡ pair_of x y
  unfolding pair_of
  pair_right t = rw (← p, ← q) (sym (pick_true _ _ t))

  pub pair_wrong : (ltb h 16 && ltb l 16) ≡ false → None ≡ pair_of x y
  unfolding pair_of
  pair_wrong t = rw (← p, ← q) (sym (pick_false _ _ t))

-- a character with none after it is no pair
pair_lone : (x : ℕ) → pair_of x 0 ≡ None
unfolding digit_of pair_of pick
pair_lone x = pick_false _ _ (and-false (ltb (digit_of x) 16))

-- the front of a text is a pair of digits and what stands behind it
first_pair : (t : List ℕ) (b : ℕ) → pair_of (get_or t 0 0) (get_or t 1 0) ≡ Some b → (2 ≤ length t) × (bytes_in t ≡ b ∷ bytes_in (drop 2 t))
first_pair [] b h = absurd (none-some b (sym (pair_lone 0) ∙ h))
first_pair (x ∷ []) b h = absurd (none-some b (sym (pair_lone x) ∙ h))
first_pair (x ∷ y ∷ t) b h = (omega arith, rw h refl)

-- or it is none
first_none : (t : List ℕ) → pair_of (get_or t 0 0) (get_or t 1 0) ≡ None → bytes_in t ≡ []
first_none [] h = refl
first_none (x ∷ []) h = refl
first_none (x ∷ y ∷ t) h = rw h refl

pub at_front : (s : List ℕ) (i : ℕ) → get_or (drop i s) 0 0 ≡ get_or s i 0
at_front s i = get_or-drop i s 0 0 ∙ ap (λ (k : ℕ). get_or s k 0) (add-zero i)

pair_front : (s : List ℕ) (i : ℕ) → pair_at s i ≡ pair_of (get_or (drop i s) 0 0) (get_or (drop i s) 1 0)
unfolding pair_at
pair_front s i = rw (at_front s i, get_or-drop i s 1 0)

-- the same at a place of a text
module _ (s : List ℕ) (i : ℕ) where
  pub pair_there : (b : ℕ) → pair_at s i ≡ Some b → (i + 2 ≤ length s) × (bytes_in (drop i s) ≡ b ∷ bytes_in (drop (i + 2) s))
  pair_there b h =
      let f = first_pair (drop i s) b (rw pair_front at h) in
      (omega (arith, f.0, length-drop i s), f.1 ∙ ap (λ (l : List ℕ). b ∷ bytes_in l) (drop-drop 2 i s))

  pub none_there : pair_at s i ≡ None → bytes_in (drop i s) ≡ []
  none_there h = first_none (drop i s) (rw pair_front at h)

  pub pair_cut : length s - i < 2 → None ≡ pair_at s i
  unfolding pair_at
  pair_cut h = sym (ap (pair_of (get_or s i 0)) (get_or-eq_default s 0 {n = i + 1} (omega arith)) ∙ pair_lone (get_or s i 0))

  -- a turn of the loop over pairs
  pub pairs_on : (b : ℕ) → pair_at s i ≡ Some b → i + 2 + 2 * length (bytes_in (drop (i + 2) s)) ≡ i + 2 * length (bytes_in (drop i s))
  pairs_on b h = rw (pair_there b h).1 (omega arith)

  pub sums_on : (total b : ℕ) → pair_at s i ≡ Some b
      → ((total + b) % 256 + sum (bytes_in (drop (i + 2) s))) % 256 ≡ (total + sum (bytes_in (drop i s))) % 256
  sums_on total b h = rw (pair_there b h).1 (omega arith)

  first_by : (o : Option ℕ) → pair_at s i ≡ o → 0 < length (bytes_in (drop i s)) → pair_at s i ≡ Some (get_or (bytes_in (drop i s)) 0 0)
  first_by (Some b) e h = e ∙ sym (ap (λ (l : List ℕ). Some (get_or l 0 0)) (pair_there b e).1)
  first_by None e h = absurd (omega (arith, ap length (none_there e)))

  pub first_byte : 0 < length (bytes_in (drop i s)) → pair_at s i ≡ Some (get_or (bytes_in (drop i s)) 0 0)
  first_byte = first_by (pair_at s i) refl

-- the bytes after the first k are those of the digits after the first 2 * k
pub bytes_after : (k : ℕ) (s : List ℕ) (i : ℕ) → k ≤ length (bytes_in (drop i s)) → drop k (bytes_in (drop i s)) ≡ bytes_in (drop (i + 2 * k) s)
bytes_after zero s i h = let e : i ≡ i + 2 * 0 = omega arith in ap (λ (j : ℕ). bytes_in (drop j s)) e
bytes_after (suc k) s i h =
    let p = (pair_there s i _ (first_byte s i (omega arith))).1 in
    let n : k ≤ length (bytes_in (drop (i + 2) s)) = omega (arith, ap length p, h) in
    let e : i + 2 + 2 * k ≡ i + 2 * suc k = omega arith in
    ap (drop (suc k)) p ∙ bytes_after k s (i + 2) n ∙ ap (λ (j : ℕ). bytes_in (drop j s)) e

-- the byte at a place of them
module _ (s : List ℕ) (i k j : ℕ) (e : i + 2 * k ≡ j) (h : k < length (bytes_in (drop i s))) where
  pub byte_there : pair_at s j ≡ Some (get_or (bytes_in (drop i s)) k 0)
  byte_there =
      let rest = bytes_after k s i (omega arith) in
      let same : get_or (bytes_in (drop (i + 2 * k) s)) 0 0 ≡ get_or (bytes_in (drop i s)) k 0
      = sym (ap (λ (l : List ℕ). get_or l 0 0) rest) ∙ at_front (bytes_in (drop i s)) k in
      rw (← e) (first_byte s (i + 2 * k) (omega (arith, ap length rest, length-drop k (bytes_in (drop i s)))) ∙ ap Some same)

  pub byte_within : j + 2 ≤ length s
  byte_within = (pair_there s j _ byte_there).0

  pub byte_known : ByteAt s j
  byte_known = record { there = omega (arith, byte_within); some = rw byte_there refl }

-- a byte that was stored after the first k
pub put_more : (d : List ℕ) (to k : ℕ) (bs : List ℕ) → k < length bs → set (put d to (take k bs)) (to + k) (get_or bs k 0) ≡ put d to (take (k + 1) bs)
put_more d to k bs h =
    ap (λ (n : ℕ). set (put d to (take k bs)) (to + n) (get_or bs k 0)) (sym (length-take-le k bs (omega arith)))
    ∙ sym (put_append d to (take k bs) (get_or bs k 0 ∷ []))
    ∙ ap (put d to) (sym (take_more bs k 0 h))
