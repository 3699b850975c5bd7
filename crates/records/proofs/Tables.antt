-- The laws of the lent tables: how many bytes their rows have, and that the rows of an object are there.
-- Assumes nothing.
use mathlib.Core.Path.{◌≡◌, refl, sym, ap, ◌∙◌}
use mathlib.Core.Bool.{Bool, true, false, ◌||◌}
use mathlib.Core.List.{List, [], ◌∷◌, ◌++◌, map}
use Prim.Native.Nat.{ℕ, ◌+◌, ◌-◌, ◌*◌, ◌/◌, ◌≤◌, ◌<◌}
use native.Mathlib.Omega.{arith}
use borrow.Author.Tests.{ltb-false, le-ltb, ne_eqb}
use lib.Dec.{eqb, ltb}
use lib.ListN.{length, length-append, length-drop, get_or, take, drop}
use Rattle.std.proofs.lemmas.List.{take_rest}
use Rattle.ground.specs.Choice.{pick}
use Rattle.ground.specs.Words.{high, low}
use Rattle.ground.proofs.Choices.{by_pick}
use Rattle.ground.proofs.Tests.{neither_left, neither_right}
use Rattle.records.specs.Objects.{With, Without, bytes_of, data_of, count_of, object_of, objects_of, bad_objects, far, too_far}
use Rattle.records.specs.Text.{Start, Byte, events}

-- a table that has a row: its first, and the rows after it
first_two : (vs : List ℕ) → 2 ≤ length vs → vs ≡ get_or vs 0 0 ∷ get_or vs 1 0 ∷ take (length vs - 2) (drop 2 vs)
first_two [] h = absurd (omega arith)
first_two (v ∷ []) h = absurd (omega arith)
first_two (v ∷ w ∷ vs) h = rw (take_rest (v ∷ w ∷ vs) 2)

pub first_three :
    (os : List ℕ) → 3 ≤ length os →
    os ≡ get_or os 0 0 ∷ get_or os 1 0 ∷ get_or os 2 0 ∷ take (length os - 3) (drop 3 os)
first_three [] h = absurd (omega arith)
first_three (a ∷ []) h = absurd (omega arith)
first_three (a ∷ b ∷ []) h = absurd (omega arith)
first_three (a ∷ b ∷ c ∷ os) h = rw (take_rest (a ∷ b ∷ c ∷ os) 3)

pub size_small : (two : Bool) → pick two 2 1 ≤ 2
size_small two = by_pick (λ (n : ℕ). n ≤ 2) two (omega arith) (omega arith)

one_or_two : (two : Bool) (h l : ℕ) → length (pick two (h ∷ l ∷ []) (l ∷ [])) ≡ pick two 2 1
unfolding pick
one_or_two true h l = refl
one_or_two false h l = refl

pub length_bytes : (number width : ℕ) → length (bytes_of number width) ≡ pick (eqb width 16) 2 1
unfolding bytes_of
length_bytes number width = one_or_two (eqb width 16) (high number) (low number)

-- a value's row is longer than its bytes, or as long
pub data_short : (vs : List ℕ) → length (data_of vs) ≤ length vs
data_short [] = omega arith
data_short (v ∷ []) = omega arith
data_short (v ∷ w ∷ vs) =
    omega (arith, length-append (bytes_of v w) (data_of vs), length_bytes v w, size_small (eqb w 16), data_short vs)

pub data_next :
    (vs : List ℕ) → 2 ≤ length vs →
    data_of vs ≡ bytes_of (get_or vs 0 0) (get_or vs 1 0) ++ data_of (take (length vs - 2) (drop 2 vs))
data_next vs h = ap data_of (first_two vs h)

pub size_next :
    (vs : List ℕ) → 2 ≤ length vs →
    length (data_of vs) ≡ pick (eqb (get_or vs 1 0) 16) 2 1 + length (data_of (take (length vs - 2) (drop 2 vs)))
size_next vs h =
    let later = data_of (take (length vs - 2) (drop 2 vs)) in
    let here = bytes_of (get_or vs 0 0) (get_or vs 1 0) in
    omega (arith, ap length (data_next vs h), length-append here later, length_bytes (get_or vs 0 0) (get_or vs 1 0))

pub bad_next :
    (left : ℕ) (os : List ℕ) → 3 ≤ length os →
    bad_objects left os
    ≡ ((ltb 1 (get_or os 0 0) || ltb left (count_of (get_or os 0 0) (get_or os 2 0)))
    || bad_objects (left - count_of (get_or os 0 0) (get_or os 2 0)) (take (length os - 3) (drop 3 os)))
bad_next left os h = ap (bad_objects left) (first_three os h)

far_data :
    (has : Bool) (address count : ℕ) (vs : List ℕ) → address < 65536 →
    far (pick has (With address (data_of (take (2 * pick has count 0) vs))) Without)
    ≡ ltb 65536 (address + length (data_of (take (2 * pick has count 0) vs)))
unfolding pick
far_data true address count vs h = refl
far_data false address count vs h = sym (le-ltb 65536 (address + 0) (omega arith))

-- a table of objects that has a row, and the values that are left for it
module _ (os vs : List ℕ) (h : 3 ≤ length os) where
  abbrev kind : ℕ
  kind = get_or os 0 0

  abbrev address : ℕ
  address = get_or os 1 0

  abbrev count : ℕ
  count = count_of (get_or os 0 0) (get_or os 2 0)

  -- the objects after it, and the values for them
  abbrev others : List ℕ
  others = take (length os - 3) (drop 3 os)

  abbrev later : List ℕ
  later = drop (2 * count_of (get_or os 0 0) (get_or os 2 0)) vs

  pub objects_next : objects_of os vs ≡ object_of kind address (data_of (take (2 * count) vs)) ∷ objects_of others later
  objects_next = ap (λ (l : List ℕ). objects_of l vs) (first_three os h)

  -- not bad: its values are there, and so are those of the objects after it
  module _ (good : bad_objects (length vs / 2) os ≡ false) where
    none : ((ltb 1 kind || ltb (length vs / 2) count) || bad_objects (length vs / 2 - count) others) ≡ false
    none = sym (bad_next (length vs / 2) os h) ∙ good

    pub values_there : 2 * count_of (get_or os 0 0) (get_or os 2 0) ≤ length vs
    values_there =
        let t = neither_right (ltb 1 kind) (ltb (length vs / 2) count) (neither_left _ _ none) in
        omega (arith, ltb-false (length vs / 2) count t)

    pub good_next : bad_objects (length (drop (2 * count_of (get_or os 0 0) (get_or os 2 0)) vs) / 2) (take (length os - 3) (drop 3 os)) ≡ false
    good_next =
        let n : length later / 2 ≡ length vs / 2 - count = omega (arith, values_there, length-drop (2 * count) vs) in
        rw n (neither_right _ _ none)

  -- an object without data counts no value, so that its address decides, which is never beyond
  far_row :
      address < 65536 →
      far (object_of kind address (data_of (take (2 * count) vs))) ≡ ltb 65536 (address + length (data_of (take (2 * count) vs)))
  unfolding object_of count_of
  far_row a = far_data (eqb kind 1) address (get_or os 2 0) vs a

  pub far_next :
      get_or os 1 0 < 65536 →
      too_far (objects_of os vs)
      ≡ (ltb 65536 (get_or os 1 0 + length (data_of (take (2 * count_of (get_or os 0 0) (get_or os 2 0)) vs)))
      || too_far (objects_of (take (length os - 3) (drop 3 os)) (drop (2 * count_of (get_or os 0 0) (get_or os 2 0)) vs)))
  far_next a = ap too_far objects_next ∙ ap (λ (b : Bool). b || too_far (objects_of others later)) (far_row a)

-- an object that ends within 65536 leaves those after it to decide, with the values that are left
pub far_on :
    {own later : List ℕ} {n size : ℕ} (os vs : List ℕ) →
    3 ≤ length os →
    get_or os 1 0 < 65536 →
    n ≡ count_of (get_or os 0 0) (get_or os 2 0) →
    own ≡ take (2 * n) vs →
    later ≡ drop (2 * n) vs →
    size ≡ length (data_of own) →
    get_or os 1 0 + size ≤ 65536 →
    too_far (objects_of os vs) ≡ too_far (objects_of (take (length os - 3) (drop 3 os)) later)
far_on os vs h a n o l s near =
    rw (l, n)
    (far_next os vs h a
    ∙ ap (λ (b : Bool). b || too_far (objects_of (take (length os - 3) (drop 3 os)) (drop (2 * count_of (get_or os 0 0) (get_or os 2 0)) vs)))
    (le-ltb 65536 _ (rw (s, o, n) at near)))

-- and so does one that has no values
pub record Skipped (os vs : List ℕ) : Type 0 where
  pub same : too_far (objects_of os vs) ≡ too_far (objects_of (take (length os - 3) (drop 3 os)) vs)
  pub good : bad_objects (length vs / 2) (take (length os - 3) (drop 3 os)) ≡ false

pub skipped :
    (os vs : List ℕ) →
    3 ≤ length os →
    get_or os 1 0 < 65536 →
    0 ≡ count_of (get_or os 0 0) (get_or os 2 0) →
    bad_objects (length vs / 2) os ≡ false →
    Skipped os vs
skipped os vs h a none good = record {
  same = far_on {own = []} {later = vs} {n = 0} {size = 0} os vs h a none refl refl refl (omega arith);
  good = rw (sym none) at (good_next os vs h good);
}

-- how many values the row has, by its kind
pub count_with : (kind count : ℕ) → kind ≡ 1 → count ≡ count_of kind count
unfolding count_of pick
count_with kind count t = rw t

pub count_without : (kind count : ℕ) → (kind ≡ 1 → ⊥) → 0 ≡ count_of kind count
unfolding count_of pick
count_without kind count t = rw (ne_eqb kind 1 t)

-- a row with its own values and those that are later, where nothing is bad nor too far
pub record Sound (os own later : List ℕ) : Type 0 where
  pub ends : get_or os 1 0 + length (data_of own) ≤ 65536
  pub good : bad_objects (length later / 2) (take (length os - 3) (drop 3 os)) ≡ false
  pub near : too_far (objects_of (take (length os - 3) (drop 3 os)) later) ≡ false

pub sound :
    {own later : List ℕ} {n : ℕ} (os vs : List ℕ) →
    3 ≤ length os →
    get_or os 1 0 < 65536 →
    n ≡ count_of (get_or os 0 0) (get_or os 2 0) →
    own ≡ take (2 * n) vs →
    later ≡ drop (2 * n) vs →
    bad_objects (length vs / 2) os ≡ false →
    too_far (objects_of os vs) ≡ false →
    Sound os own later
sound os vs h a n o l good near =
    let t = sym (far_next os vs h a) ∙ near in
    rw (o, l, n) (record {
      ends = ltb-false 65536 _ (neither_left _ _ t);
      good = good_next os vs h good;
      near = neither_right _ _ t;
    })

-- what the row adds to the events
pub events_with :
    {own later : List ℕ} (os vs : List ℕ) →
    3 ≤ length os →
    get_or os 0 0 ≡ 1 →
    own ≡ take (2 * get_or os 2 0) vs →
    later ≡ drop (2 * get_or os 2 0) vs →
    events (objects_of os vs)
    ≡ Start (get_or os 1 0) ∷ (map Byte (data_of own) ++ events (objects_of (take (length os - 3) (drop 3 os)) later))
unfolding object_of count_of pick
events_with os vs h t o l = rw (o, l) (ap events (objects_next os vs h) ∙ rw t)

pub events_without :
    (os vs : List ℕ) →
    3 ≤ length os →
    (get_or os 0 0 ≡ 1 → ⊥) →
    events (objects_of os vs) ≡ events (objects_of (take (length os - 3) (drop 3 os)) vs)
unfolding object_of count_of pick
events_without os vs h t = ap events (objects_next os vs h) ∙ rw (ne_eqb (get_or os 0 0) 1 t)

pub near_without :
    (os vs : List ℕ) →
    3 ≤ length os →
    (get_or os 0 0 ≡ 1 → ⊥) →
    too_far (objects_of os vs) ≡ too_far (objects_of (take (length os - 3) (drop 3 os)) vs)
unfolding object_of count_of pick
near_without os vs h t = ap too_far (objects_next os vs h) ∙ rw (ne_eqb (get_or os 0 0) 1 t)
