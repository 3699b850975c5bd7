-- "14 for a direct opcode read under an unknown page": as soon as the code is there, so before 15, and nowhere else. What is no direct code is read alike
-- under every page.
-- Assumes nothing.
use mathlib.Core.Path.{◌≡◌, ◌∙◌, refl, sym, ap}
use mathlib.Core.Bool.{Bool, true, false, false≢true}
use mathlib.Core.List.{List}
use mathlib.Core.Logic.{◌⊎◌, inl, inr}
use Prim.Native.Nat.{ℕ, ◌+◌}
use lib.Dec.{eqb, ltb}
use lib.ListN.{drop}
use borrow.Author.Tests.{eqb-true}
use Rattle.std.specs.Prelude.{Result, Ok, Err}
use Rattle.ground.specs.Choice.{pick}
use Rattle.ground.specs.declared.refusals.Refusal.{Refusal}
use Rattle.ground.specs.declared.refusals.Refusal.TheVariants as refusals
use Rattle.ground.specs.Words.{plus}
use Rattle.ground.proofs.Choices.{by_pick}
use Rattle.values.specs.declared.pages.Page.{Page}
use Rattle.values.specs.declared.pages.Page.TheVariants.{Unknown, Known}
use Rattle.ground.specs.declared.refusals.Refusal.{Refusal}
use Rattle.rows.specs.declared.Named.{Named}
use Rattle.rows.specs.Forms as forms
use Rattle.rows.specs.Lookup.{row_of}
use Rattle.rows.specs.Sizes.{number_at}
use Rattle.std.specs.Prelude.{Result, Ok, Err}
use Rattle.ground.specs.declared.refusals.Refusal.{Refusal}
use Rattle.postbytes.specs.declared.Shape.{Shape}
use Rattle.postbytes.specs.declared.Addressing.{Addressing}
use Rattle.postbytes.specs.declared.Addressing.TheVariants as addressing
use Rattle.postbytes.specs.Reading.{shape_of, extra_of, fill_of}
use Rattle.decoder.specs.declared.operands.Rest.{Rest}
use Rattle.decoder.specs.declared.operands.Reading.{Reading}
use Rattle.decoder.specs.declared.Kind.{Kind}
use Rattle.decoder.specs.declared.front.Head.{Head}
use Rattle.decoder.specs.Origin.{origin, shifted, target_of, unseen}
use Rattle.decoder.specs.Meaning.{reading, joined}
use Rattle.decoder.specs.Operands.{rest_of, numbered_of, numbered_at, resolved, indexed_as, indexed_at, operand_of}
use Rattle.decoder.specs.Front.{named_of, coded_of, front_of}
use Rattle.decoder.specs.Head.{head_of, is_direct, direct_head, direct_front}
use Rattle.decoder.proofs.Heads.{instruction, front_head}

-- ---- the row of a code: direct, or another
module _ (page code size : ℕ) (r : Rest) (a : ℕ) where
  named_unseen : (n : Result Named Refusal) → is_direct n ≡ true → named_of n page code size r (origin a Unknown) ≡ Err refusals.Undefined
  unfolding joined operand_of numbered_at unseen shifted pick
  named_unseen (Ok row) d = rw (eqb-true row.form forms.direct d)
  named_unseen (Err e) d = absurd (false≢true d)

  named_seen : (high : ℕ) (n : Result Named Refusal) → is_direct n ≡ true → named_of n page code size r (origin a (Known high)) ≡ Err refusals.Undefined → ⊥
  unfolding joined operand_of numbered_at unseen shifted pick
  named_seen high (Ok row) d =
      rw (eqb-true row.form forms.direct d)
      (by_pick (λ (x : Result Reading Refusal). joined size row.operation x ≡ Err refusals.Undefined → ⊥) (ltb r.left (number_at forms.direct page code))
      (λ z. absurd (cc)) (λ z. absurd (cc)))
  named_seen high (Err e) d = absurd (false≢true d)

-- what an operand hangs on is the address
module _ (a : ℕ) (p q : Page) where
  resolved_free : (m : Addressing) (n : ℕ) → resolved m (shifted (origin a p) n) ≡ resolved m (shifted (origin a q) n)
  unfolding shifted target_of
  resolved_free (addressing.Offset r ind n) k = refl
  resolved_free (addressing.Counter ind n) k = refl
  resolved_free (addressing.Accumulator r ind x) k = refl
  resolved_free (addressing.Step r ind s) k = refl
  resolved_free (addressing.Address n) k = refl

  shaped_free : (x : Result Shape Refusal) (r : Rest) → indexed_as x r (origin a p) ≡ indexed_as x r (origin a q)
  unfolding indexed_as
  shaped_free (Ok s) r =
      let n = 1 + extra_of s in
      ap (λ (k : Kind). pick (ltb r.left n) (Err refusals.CutShort) (reading n k)) (resolved_free (fill_of s r.second r.third) n)
  shaped_free (Err n) r = refl

  indexed_free : (r : Rest) → indexed_at r (origin a p) ≡ indexed_at r (origin a q)
  unfolding indexed_at
  indexed_free r = ap (pick (eqb r.left 0) (Err refusals.CutShort)) (shaped_free (shape_of r.first) r)

  numbered_free : (form size : ℕ) (r : Rest) → eqb form forms.direct ≡ false → numbered_at form size r (origin a p) ≡ numbered_at form size r (origin a q)
  unfolding numbered_at numbered_of unseen shifted target_of pick
  numbered_free form size r d = rw d

  operand_free :
      (o form size : ℕ) (r : Rest) → eqb form forms.direct ≡ false → operand_of o form size r (origin a p) ≡ operand_of o form size r (origin a q)
  unfolding operand_of
  operand_free o form size r d = rw (indexed_free r, numbered_free form size r d)

named_free :
    (page code size : ℕ) (r : Rest) (a : ℕ) (p q : Page) (n : Result Named Refusal) →
    is_direct n ≡ false →
    named_of n page code size r (origin a p) ≡ named_of n page code size r (origin a q)
unfolding shifted
named_free page code size r a p q (Ok row) d = ap (joined size row.operation) (operand_free (plus a size) p q row.operation row.form (number_at row.form page code) r d)
named_free page code size r a p q (Err e) d = refl

-- ---- the instruction
module _ (l : List ℕ) (a : ℕ) where
  -- whatever follows the code, or nothing
  pub unseen_first : direct_front l ≡ true → front_of l (origin a Unknown) ≡ Err refusals.Undefined
  unfolding direct_front coded_of
  unseen_first d = front_head l (origin a Unknown) ∙ go (head_of l) d
    where
      go : (h : Result Head Refusal) → direct_head h ≡ true → instruction h l (origin a Unknown) ≡ Err refusals.Undefined
      go (Ok h) e = named_unseen h.page h.code h.size (rest_of (drop h.size l)) a (row_of h.page h.code) e
      go (Err f) e = absurd (false≢true e)

  pub page_free : (p q : Page) → direct_front l ≡ false → front_of l (origin a p) ≡ front_of l (origin a q)
  unfolding direct_front coded_of
  page_free p q d = front_head l (origin a p) ∙ go (head_of l) d ∙ sym (front_head l (origin a q))
    where
      go : (h : Result Head Refusal) → direct_head h ≡ false → instruction h l (origin a p) ≡ instruction h l (origin a q)
      go (Ok h) e = named_free h.page h.code h.size (rest_of (drop h.size l)) a p q (row_of h.page h.code) e
      go (Err f) e = refl

  -- 14 under an unknown page is 14 under every page, or a direct code's
  pub unseen_only :
      front_of l (origin a Unknown) ≡ Err refusals.Undefined → (direct_front l ≡ true) ⊎ ((p : Page) → front_of l (origin a p) ≡ Err refusals.Undefined)
  unseen_only z = go (direct_front l) refl
    where
      go : (b : Bool) → direct_front l ≡ b → (direct_front l ≡ true) ⊎ ((p : Page) → front_of l (origin a p) ≡ Err refusals.Undefined)
      go true d = inl d
      go false d = inr (λ p. page_free p Unknown d ∙ z)

  -- and not both: under a known page a direct code is defined
  pub seen_defined : (high : ℕ) → direct_front l ≡ true → front_of l (origin a (Known high)) ≡ Err refusals.Undefined → ⊥
  unfolding direct_front coded_of
  seen_defined high d z = go (head_of l) d (sym (front_head l (origin a (Known high))) ∙ z)
    where
      go : (h : Result Head Refusal) → direct_head h ≡ true → instruction h l (origin a (Known high)) ≡ Err refusals.Undefined → ⊥
      go (Ok h) e = named_seen h.page h.code h.size (rest_of (drop h.size l)) a high (row_of h.page h.code) e
      go (Err f) e = absurd (false≢true e)
