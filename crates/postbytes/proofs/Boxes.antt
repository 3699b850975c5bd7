-- The sheet's row of boxes, walked by place: what a loop over it learns at each turn, and how large its sums can be.
-- Assumes nothing.
use mathlib.Core.Path.{◌≡◌, refl, sym, ap, subst, ◌∙◌}
use mathlib.Core.Bool.{Bool, true, false, not, ◌||◌, true≢false}
use mathlib.Core.List.{List, [], ◌∷◌}
use Prim.Native.Nat.{ℕ, suc, ◌+◌, ◌-◌, ◌/◌, ◌%◌, ◌^◌, ◌<◌, ◌≤◌}
use native.Mathlib.Nat.{two-pow-succ}
use native.Mathlib.Omega.{arith}
use lib.Dec.{eqb, ltb, ltb→lt}
use lib.ListN.{length, drop, get_or, length-drop, drop_of_length-le}
use borrow.Author.Tests.{eqb-true}
use Rattle.ground.specs.Choice.{pick}
use Rattle.ground.proofs.Choices.{pick_false, by_pick}
use Rattle.ground.proofs.Ranges.{below}
use Rattle.ground.proofs.Stores.{drop_next}
use Rattle.postbytes.specs.Registers.{U, S}
use Rattle.postbytes.specs.Lists.{not_stack, other_of, boxes}
use Rattle.postbytes.specs.ListsWritten.{ticks_of_set}
use Rattle.postbytes.specs.ListsRead.{ticked}

-- a push's own pointer is one of two
pub by_stack : (P : ℕ → Type 0) (own : ℕ) → not_stack own ≡ false → P S → P U → P own
by_stack P own e s u = go (eqb own S) (eqb own U) refl refl e
  where
    go : (x y : Bool) → eqb own S ≡ x → eqb own U ≡ y → not (x || y) ≡ false → P own
    go true y d f _ = subst P (sym (eqb-true own S d)) s
    go false true d f _ = subst P (sym (eqb-true own U f)) u
    go false false d f z = absurd (true≢false z)

-- there are two rows, U's and S's
pub by_row : (P : List ℕ → Type 0) (own : ℕ) → P (boxes U) → P (boxes S) → P (boxes own)
unfolding other_of pick
by_row P own u s = go (eqb own U) refl
  where
    go : (t : Bool) → eqb own U ≡ t → P (boxes own)
    go true e = subst (λ (o : ℕ). P (boxes o)) (sym (eqb-true own U e)) u
    go false e =
        let o : other_of own ≡ U = pick_false S U e in
        rw o s

-- the register of a box has a bit in a set
pub box_small : {row : List ℕ} (own i : ℕ) → row ≡ boxes own → i < 8 → get_or row i 0 < 16
unfolding other_of pick
box_small own i same h =
    rw same
    (by_row (λ (row : List ℕ). get_or row i 0 < 16) own
    (ltb→lt (get_or (boxes U) i 0) 16 (below (λ (k : ℕ). ltb (get_or (boxes U) k 0) 16) 8 tt i h))
    (ltb→lt (get_or (boxes S) i 0) 16 (below (λ (k : ℕ). ltb (get_or (boxes S) k 0) 16) 8 tt i h)))

-- n boxes make a number of n bits, whichever of them are ticked
pub boxes_low :
    (t : ℕ → Bool) (sum : List ℕ → ℕ) →
    sum [] ≡ 0 →
    ((r : ℕ) (rs : List ℕ) → sum (r ∷ rs) ≡ pick (t r) (2 ^ length rs) 0 + sum rs) →
    (rs : List ℕ) →
    sum rs < 2 ^ length rs
boxes_low t sum none step [] = omega (arith, none)
boxes_low t sum none step (r ∷ rs) =
    let h = boxes_low t sum none step rs in
    let w : 2 ^ suc (length rs) ≡ 2 ^ length rs + 2 ^ length rs = two-pow-succ (length rs) in
    rw (step r rs)
    (by_pick (λ (b : ℕ). b + sum rs < 2 ^ suc (length rs)) (t r) (omega arith) (omega arith))

pub set_ticks_small : (own set : ℕ) → ticks_of_set (boxes own) set < 256
set_ticks_small own set = boxes_low (λ r. eqb (set / 2 ^ r % 2) 1) (λ rs. ticks_of_set rs set) refl (λ r rs. refl) (boxes own)

-- the registers read from boxes are no more than all of them
abbrev all : List ℕ → ℕ
all [] = 0
all (r ∷ rs) = 2 ^ r + all rs

ticked_most : (rs : List ℕ) (byte : ℕ) → ticked rs byte ≤ all rs
ticked_most [] byte = omega arith
ticked_most (r ∷ rs) byte =
    let h = ticked_most rs byte in
    by_pick (λ (b : ℕ). b + ticked rs byte ≤ 2 ^ r + all rs) _ (omega arith) (omega arith)

pub ticked_small : (own byte : ℕ) → ticked (boxes own) byte < 1024
unfolding other_of pick
ticked_small own byte =
    let h = ticked_most (boxes own) byte in
    let m : all (boxes own) < 1024 = by_row (λ (row : List ℕ). all row < 1024) own (omega arith) (omega arith) in
    omega arith

-- a bit of one number as a bit of another
abbrev pub moved_bit : ℕ → ℕ → ℕ → ℕ
moved_bit number from to = pick (eqb (number / 2 ^ from % 2) 1) (2 ^ to) 0

-- a sum over the boxes of a row. A loop that has x of it has all at the end
module _ (sum : List ℕ → ℕ) (own i x : ℕ) {row : List ℕ} (same : row ≡ boxes own) (inv : x + sum (drop i row) ≡ sum row) where
  pub boxes_ended : sum [] ≡ 0 → 8 ≤ i → x ≡ sum (boxes own)
  boxes_ended none h =
      let n : length row ≡ 8 = ap length same in
      let t : sum (drop i row) ≡ 0 = ap sum (drop_of_length-le row {i = i} (omega arith)) ∙ none in
      let e : x ≡ sum row = omega (arith, inv, t) in
      e ∙ ap sum same

  -- and before it adds its box's m. The box of register r adds f r n with n boxes after it, and that at place i has 7 - i
  pub box_added :
      (f : ℕ → ℕ → ℕ) →
      ((r : ℕ) (rs : List ℕ) → sum (r ∷ rs) ≡ f r (length rs) + sum rs) →
      (m : ℕ) →
      i < 8 →
      m ≡ f (get_or row i 0) (7 - i) →
      (x + m ≤ sum (boxes own)) × (x + m + sum (drop (i + 1) row) ≡ sum row)
  box_added f step m h e =
      let r = get_or row i 0 in
      let rs = drop (i + 1) row in
      let l : length row ≡ 8 = ap length same in
      let n : length rs ≡ 7 - i = length-drop (i + 1) row ∙ omega arith in
      let t : sum (drop i row) ≡ f r (7 - i) + sum rs = ap sum (drop_next row i (omega arith)) ∙ step r rs ∙ ap (λ (k : ℕ). f r k + sum rs) n in
      let w : sum row ≡ sum (boxes own) = ap sum same in
      (omega (arith, inv, t, e, w), omega (arith, inv, t, e))
