-- What an instruction begins with, and what it is by that.
-- Assumes nothing.
use mathlib.Core.Path.{◌≡◌, refl, sym, ap, ◌∙◌, subst}
use mathlib.Core.Bool.{Bool, true, false}
use mathlib.Core.List.{List, [], ◌∷◌}
use Prim.Native.Nat.{ℕ, ◌+◌, ◌≤◌, ◌<◌}
use native.Mathlib.Omega.{arith}
use lib.ListN.{length, drop, length-drop}
use lib.Seq.{drop-drop}
use Rattle.std.specs.Prelude.{Result, Ok, Err, IfOk}
use Rattle.ground.specs.Choice.{pick}
use Rattle.ground.specs.declared.refusals.Refusal.{Refusal}
use Rattle.ground.proofs.Choices.{by_pick}
use Rattle.decoder.specs.declared.Origin.{Origin}
use Rattle.decoder.specs.declared.front.Head.{Head}
use Rattle.decoder.specs.Meaning.{Answer}
use Rattle.decoder.specs.Operands.{rest_of}
use Rattle.decoder.specs.Front.{is_prefix, coded_of, prefixed_of, front_of}
use Rattle.decoder.specs.Head.{first_of, head, behind_prefix, head_of}

-- ---- the byte at a place, and what stands there
pub byte_there :
    (l : List ℕ) (at b : ℕ) → first_of (drop at l) ≡ Ok b → (at < length l) × (drop at l ≡ b ∷ drop (at + 1) l)
byte_there l at b e = go (drop at l) refl e
  where
    go : (m : List ℕ) → drop at l ≡ m → first_of m ≡ Ok b → (at < length l) × (drop at l ≡ b ∷ drop (at + 1) l)
    go [] q e₁ = absurd (cc)
    go (x ∷ m) q e₁ =
        let n = ap length q in
        let first : x ≡ b = cc in
        let later : drop (at + 1) l ≡ m = sym (drop-drop 1 at l) ∙ ap (drop 1) q in
        (omega (arith, length-drop at l), rw (q, later, first))

-- ---- the instruction that begins so
abbrev pub instruction : Result Head Refusal → List ℕ → Origin → Answer
instruction (Ok h) l from = coded_of h.page h.code h.size (rest_of (drop h.size l)) from
instruction (Err e) l from = Err e

pub front_head : (l : List ℕ) (from : Origin) → front_of l from ≡ instruction (head_of l) l from
unfolding front_of head_of pick
front_head [] from = refl
front_head (a ∷ l) from = go (is_prefix a) l
  where
    go : (b : Bool) (m : List ℕ) → pick b (prefixed_of a m from) (coded_of 0x00 a 1 (rest_of m) from) ≡ instruction (pick b (behind_prefix a m) (Ok (head 0x00 a 1))) (a ∷ m) from
    go true [] = refl
    go true (c ∷ m) = refl
    go false m = refl

-- one byte or two, and they are there
abbrev Within : List ℕ → Head → Type 0
Within l h = (0 < h.size) × (h.size ≤ 2) × (h.size ≤ length l)

head_within : (l : List ℕ) → IfOk (head_of l) (Within l)
unfolding head_of
head_within [] = tt
head_within (a ∷ l) = by_pick (λ (x : Result Head Refusal). IfOk x (Within (a ∷ l))) (is_prefix a) (behind l) (omega arith)
  where
    behind : (m : List ℕ) → IfOk (behind_prefix a m) (Within (a ∷ m))
    behind [] = tt
    behind (c ∷ m) = omega arith

-- the same at a place of some bytes
module _ (l : List ℕ) (at : ℕ) where
  pub front_cut : (e : Refusal) → Err e ≡ head_of (drop at l) → (from : Origin) → Err e ≡ front_of (drop at l) from
  front_cut e q from = sym (front_head (drop at l) from ∙ ap (λ (h : Result Head Refusal). instruction h (drop at l) from) (sym q))

  module _ (h : Head) (q : Ok h ≡ head_of (drop at l)) where
    fits : Within (drop at l) h
    fits = subst (λ (x : Result Head Refusal). IfOk x (Within (drop at l))) (sym q) (head_within (drop at l))

    pub code_short : h.size ≤ 2
    code_short = fits.1

    pub code_there : at + h.size ≤ length l
    code_there = omega (arith, fits.0, fits.2, length-drop at l)

    pub front_coded : (from : Origin) → coded_of h.page h.code h.size (rest_of (drop (at + h.size) l)) from ≡ front_of (drop at l) from
    front_coded from =
        ap (λ (m : List ℕ). coded_of h.page h.code h.size (rest_of m) from) (sym (drop-drop h.size at l))
        ∙ sym (front_head (drop at l) from ∙ ap (λ (x : Result Head Refusal). instruction x (drop at l) from) (sym q))
