-- Two records that follow on are one, whatever comes after.
-- Assumes nothing.
use borrow.Author.Tests.{eq-eqb}
use mathlib.Core.Path.{◌≡◌, refl, sym, ap, ◌∙◌}
use mathlib.Core.Bool.{Bool, true, false}
use mathlib.Core.List.{List, [], ◌∷◌, ◌++◌, append_assoc}
use Prim.Native.Nat.{ℕ, ◌+◌}
use native.Mathlib.Omega.{arith}
use lib.Dec.{eqb}
use lib.ListN.{length, length-append}
use Rattle.ground.proofs.Choices.{pick_true, pick_false}
use Rattle.records.specs.Text.{Rec}
use Rattle.records.specs.Runs.{join}

-- the address after a record, and two records as one
abbrev pub after : Rec → ℕ
after r = r.address + length r.bytes

abbrev pub glue : Rec → Rec → Rec
glue p q = record { address = p.address; bytes = p.bytes ++ q.bytes }

module _ (p q : Rec) where
  pub after_glue : q.address ≡ after p → after (glue p q) ≡ after q
  after_glue e = omega (arith, e, length-append p.bytes q.bytes)

  glue_join : (x : Rec) (xs : List Rec) (t : Bool) → q.address ≡ after p → eqb x.address (after q) ≡ t
      → join p (join q (x ∷ xs)) ≡ join (glue p q) (x ∷ xs)
  glue_join x xs true e f =
      ap (join p) (pick_true _ _ f)
      ∙ pick_true _ _ (eq-eqb q.address (after p) e)
      ∙ ap (λ (bs : List ℕ). record { address = p.address; bytes = bs } ∷ xs) (sym (append_assoc p.bytes q.bytes x.bytes))
      ∙ sym (pick_true _ _ (ap (eqb x.address) (after_glue e) ∙ f))
  glue_join x xs false e f =
      ap (join p) (pick_false _ _ f)
      ∙ pick_true _ _ (eq-eqb q.address (after p) e)
      ∙ sym (pick_false _ _ (ap (eqb x.address) (after_glue e) ∙ f))

  -- a record that goes on where another ends is one with it
  pub join_on : (qs : List Rec) → q.address ≡ after p → join p (join q qs) ≡ join (glue p q) qs
  join_on [] e = pick_true _ _ (eq-eqb q.address (after p) e)
  join_on (x ∷ xs) e = glue_join x xs (eqb x.address (after q)) e refl
