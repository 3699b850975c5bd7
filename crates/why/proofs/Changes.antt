-- Rows with the cells of one field changed, whatever their length: the other cells are kept, and the new ones stand in their place.
-- Assumes nothing.
use mathlib.Core.Path.{◌≡◌, refl, sym, ap, ◌∙◌}
use mathlib.Core.Bool.{Bool, true, false, ◌&&◌, true≢false}
use mathlib.Core.List.{List, [], ◌∷◌, ◌++◌}
use mathlib.Core.Logic.{◌⊎◌, inl, inr, ⊎_elim}
use Prim.Native.Nat.{ℕ, zero, suc, ◌+◌, ◌-◌, ◌<◌, ◌≤◌}
use native.Mathlib.Nat.{not-suc-le-zero, le_of_suc-le-suc}
use native.Mathlib.Omega.{arith}
use lib.Dec.{eqb, ltb, leb}
use lib.ListN.{length, get_or, drop, get_or-append}
use lib.Seq.{get_or-append-add, get_or-drop}
use borrow.Author.Tests.{ltb-true, ltb-false, leb-true, leb-false, eqb-true, eqb-false}
use Rattle.ground.proofs.Tests.{both_first, both_second}
use Rattle.entries.specs.Entries.{cells_from}
use Rattle.why.specs.declared.Field.{Field}
use Rattle.why.specs.Mending.{is_of, AlikeBut}

-- the row with other cells from a place on, and zeros before them where it was shorter
abbrev pub changed : ℕ → List ℕ → List ℕ → List ℕ
changed at news row = cells_from row 0 at ++ (news ++ drop (at + length news) row)

-- ---- cells
cells_length : (row : List ℕ) (at n : ℕ) → length (cells_from row at n) ≡ n
cells_length row at zero = refl
cells_length row at (suc n) = ap suc (cells_length row (at + 1) n)

cells_at : (row : List ℕ) (at n k : ℕ) → k < n → get_or (cells_from row at n) k 0 ≡ get_or row (at + k) 0
cells_at row at zero k h = absurd (not-suc-le-zero h)
cells_at row at (suc n) zero h = ap (λ (j : ℕ). get_or row j 0) (omega arith)
cells_at row at (suc n) (suc k) h = cells_at row (at + 1) n k (le_of_suc-le-suc h) ∙ ap (λ (j : ℕ). get_or row j 0) (omega arith)

module _ (at : ℕ) (news row : List ℕ) where
  before_kept : (k : ℕ) → k < at → get_or (changed at news row) k 0 ≡ get_or row k 0
  before_kept k h =
      get_or-append (cells_from row 0 at) (news ++ drop (at + length news) row) 0 k (omega (arith, cells_length row 0 at))
      ∙ cells_at row 0 at k h
      ∙ ap (λ (j : ℕ). get_or row j 0) (omega arith)

  -- what stands from the place on
  from_place : (j : ℕ) → get_or (changed at news row) (at + j) 0 ≡ get_or (news ++ drop (at + length news) row) j 0
  from_place j =
      ap (λ (k : ℕ). get_or (changed at news row) k 0) (omega (arith, cells_length row 0 at))
      ∙ get_or-append-add (cells_from row 0 at) (news ++ drop (at + length news) row) j 0

  after_kept : (k : ℕ) → at + length news ≤ k → get_or (changed at news row) k 0 ≡ get_or row k 0
  after_kept k h =
      let j = k - (at + length news) in
      ap (λ (m : ℕ). get_or (changed at news row) m 0) (omega arith)
      ∙ from_place (length news + j)
      ∙ get_or-append-add news (drop (at + length news) row) j 0
      ∙ get_or-drop (at + length news) row j 0
      ∙ ap (λ (m : ℕ). get_or row m 0) (omega arith)

  there_new : (k : ℕ) → at ≤ k → k < at + length news → get_or (changed at news row) k 0 ≡ get_or news (k - at) 0
  there_new k h l =
      ap (λ (m : ℕ). get_or (changed at news row) m 0) (omega arith)
      ∙ from_place (k - at)
      ∙ get_or-append news (drop (at + length news) row) 0 (k - at) (omega arith)

-- ---- a field's cells
-- as many cells from a place on are the field's
pub record Place (field : Field) (at size : ℕ) : Type 0 where
  outside : (k : ℕ) → is_of field k ≡ false → (k < at) ⊎ (at + size ≤ k)
  inside : (k : ℕ) → is_of field k ≡ true → (at ≤ k) × (k < at + size)

below_or_from : (k at : ℕ) → (k < at) ⊎ (at ≤ k)
below_or_from k at = go (ltb k at) refl
  where
    go : (t : Bool) → ltb k at ≡ t → (k < at) ⊎ (at ≤ k)
    go true q = inl (ltb-true k at q)
    go false q = inr (ltb-false k at q)

pub one_place : (field : Field) (at : ℕ) → ((k : ℕ) → is_of field k ≡ eqb k at) → Place field at 1
one_place field at is = record {
  outside = λ k e. ⊎_elim inl (λ (h : at ≤ k). inr (let ne = eqb-false k at (sym (is k) ∙ e) in omega arith)) (below_or_from k at);
  inside = λ k e. let same = eqb-true k at (sym (is k) ∙ e) in omega arith;
}

pub more_places : (field : Field) (at last : ℕ) → ((k : ℕ) → is_of field k ≡ (leb at k && leb k last)) → at ≤ last → Place field at (last + 1 - at)
more_places field at last is h = record {
  outside = λ k e. out k (leb at k) refl (leb k last) refl (sym (is k) ∙ e);
  inside = λ k e.
      let both = sym (is k) ∙ e in
      let low = leb-true at k (both_first (leb at k) (leb k last) both) in
      let high = leb-true k last (both_second (leb at k) (leb k last) both) in
      omega arith;
}
  where
    out : (k : ℕ) (a : Bool) → leb at k ≡ a → (b : Bool) → leb k last ≡ b → (leb at k && leb k last) ≡ false → (k < at) ⊎ (at + (last + 1 - at) ≤ k)
    out k false p b q e = inl (leb-false at k p)
    out k true p false q e = inr (omega (arith, leb-false k last q))
    out k true p true q e = absurd (true≢false (rw (p, q) at e))

-- cells of 16 bits
abbrev pub AllSmall : List ℕ → Type 0
AllSmall [] = 0 < 65536
AllSmall (n ∷ ns) = (n < 65536) × AllSmall ns

small_at : (ns : List ℕ) → AllSmall ns → (j : ℕ) → get_or ns j 0 < 65536
small_at [] s j = s
small_at (n ∷ ns) s zero = s.0
small_at (n ∷ ns) s (suc j) = small_at ns s.1 j

pub alike : (field : Field) (at : ℕ) (news row : List ℕ) → Place field at (length news) → AllSmall news → AlikeBut field row (changed at news row)
alike field at news row p s = record {
  kept = λ k e. ⊎_elim (before_kept at news row k) (after_kept at news row k) (p.outside k e);
  small = λ k e. let in_there = p.inside k e in rw (there_new at news row k in_there.0 in_there.1) (small_at news s (k - at));
}
