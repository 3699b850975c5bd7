-- A refusal changes nothing: the kept instruction comes back as it was, and what was lent is as before. Each refusing answer is built so. A record that is refused, and a fresh
-- build that is, answer the refusal alone.
-- Assumes nothing.
use mathlib.Core.Path.{◌≡◌, refl, ap, ◌∙◌}
use mathlib.Core.Bool.{Bool, true, false}
use mathlib.Core.List.{List, [], ◌∷◌, ◌++◌}
use Prim.Native.Nat.{ℕ}
use lib.Dec.{ltb}
use lib.ListN.{length, take, drop}
use Rattle.std.specs.Prelude.{Result, Ok, Err, IfErr}
use Rattle.ground.specs.Choice.{pick}
use Rattle.ground.specs.declared.refusals.Refusal.{Refusal}
use Rattle.ground.specs.declared.refusals.Refusal.TheVariants.{NoRoom}
use Rattle.values.specs.declared.pages.Page.{Page}
use Rattle.instruction.specs.declared.Instruction.{Instruction}
use Rattle.instruction.specs.declared.Values.{Values}
use Rattle.instruction.specs.declared.Built.{Built}
use Rattle.instruction.specs.declared.Placed.{Placed}
use Rattle.instruction.specs.declared.Refused.{Refused}
use Rattle.instruction.specs.Building.{tried_of, refused_with, handing, build_of, placed_as, placed_of, stored_of, buffer_of}
use Rattle.instruction.specs.Sequences.{built_with, instruction_in, kept_after, SpoilsNothing}
use Rattle.instruction.proofs.Results.{of_err}

handing_keeps : (i : Instruction) (t : Result Built Refusal) → IfErr (handing i t) (λ x. x.instruction ≡ i)
handing_keeps i (Ok b) = tt
handing_keeps i (Err n) = refl

-- room or none
placing_keeps :
    (i : Instruction) (d : List ℕ) (t : Result Built Refusal) →
    IfErr (placed_of i (handing i t) (length d)) (λ x. (x.instruction ≡ i) × (buffer_of (handing i t) d ≡ d))
unfolding placed_as stored_of pick
placing_keeps i d (Err n) = (refl, refl)
placing_keeps i d (Ok b) = go (ltb (length d) b.length)
  where
    go :
        (t : Bool) →
        IfErr {T = Placed} {E = Refused} (pick t (Err (refused_with i NoRoom)) (Ok (record { instruction = b.instruction; length = b.length; dirties = b.dirties })))
        (λ x. (x.instruction ≡ i) × (pick t d (take b.length b.bytes ++ drop b.length d) ≡ d))
    go true = (refl, refl)
    go false = tt

module _ (i : Instruction) (v : Values) (page : Page) (address : ℕ) where
  -- a refused build hands the instruction back unchanged
  pub refusal_keeps : IfErr (build_of i v page address) (λ x. x.instruction ≡ i)
  unfolding build_of
  refusal_keeps = handing_keeps i (tried_of i v page address)

  -- and so does a refused build into a buffer, which it leaves as it was; 9 too
  pub place_keeps :
      (d : List ℕ) →
      IfErr (placed_of i (build_of i v page address) (length d)) (λ x. (x.instruction ≡ i) × (buffer_of (build_of i v page address) d ≡ d))
  unfolding build_of
  place_keeps d = placing_keeps i d (tried_of i v page address)

-- so it is, among other builds, as if it had not been asked for
pub spoils_nothing : SpoilsNothing
unfolding kept_after
spoils_nothing i [] p qs x e =
    ap (λ (b : Result Built Refused). kept_after (instruction_in b) qs) e
    ∙ ap (λ (j : Instruction). kept_after j qs) (of_err (λ (y : Refused). y.instruction ≡ i) (refusal_keeps i p.values p.page p.address) e)
spoils_nothing i (q ∷ ps) p qs x e = spoils_nothing (instruction_in (built_with i q)) ps p qs x e
