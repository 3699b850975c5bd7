-- `statements::listing::item` meets its contract.
-- Assumes nothing.
use mathlib.Core.Path.{◌≡◌, refl, ◌∙◌}
use mathlib.Core.List.{List, [], ◌∷◌}
use Prim.Native.Nat.{ℕ, zero, suc, ◌≤◌}
use native.Mathlib.Omega.{arith}
use lib.Dec.{ltb}
use lib.ListN.{length, get_or}
use borrow.Author.Tests.{ltb-true, ltb-false}
use Rattle.ground.proofs.Choices.{by_test}
use Rattle.statements.specs.Listing.{none, item_at}
use Rattle.statements.proofs.listing.item.Goals as goal

past : (items : List ℕ) (k : ℕ) → length items ≤ k → get_or items k none ≡ none
past [] k h = refl
past (x ∷ items) zero h = absurd (omega arith)
past (x ∷ items) (suc k) h = past items k (omega arith)

within : (items : List ℕ) (k : ℕ) → suc k ≤ length items → get_or items k none ≡ get_or items k 0
within [] k h = absurd (omega arith)
within (x ∷ items) zero h = refl
within (x ∷ items) (suc k) h = within items k (omega arith)

at_place : (items : List ℕ) (k : ℕ) → get_or items k none ≡ item_at items k
unfolding item_at
at_place items k =
    by_test (λ (n : ℕ). get_or items k none ≡ n) (ltb k (length items))
    (λ e. within items k (ltb-true k (length items) e))
    (λ e. past items k (ltb-false k (length items) e))

pub returns : goal.returns
returns c = c.cell_or.ensures ∙ at_place c.args.items.now c.args.at
