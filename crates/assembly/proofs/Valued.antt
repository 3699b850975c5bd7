-- Which statements have values: a statement whose object has no data, or that has no object, has none.
-- Assumes nothing.
use mathlib.Core.Path.{◌≡◌, refl}
use mathlib.Core.List.{List, []}
use mathlib.Core.Logic.{◌⊎◌, inl, inr}
use Prim.Native.Nat.{ℕ}
use Rattle.values.specs.declared.pages.Page.{Page}
use Rattle.statements.specs.declared.Statement.{Statement}
use Rattle.statements.specs.declared.Statement.TheVariants.{Label, Instruction, Rmb, Fcb, Fdb, Fcc, Org, Setdp, Unknown}
use Rattle.statements.specs.declared.Entry.{Entry}
use Rattle.statements.specs.Listing.{none, statement_at, entry_at, object_of}
use Rattle.statements.specs.Objects.{values_of, values_at}

kinds :
    (s : Statement) (e : Entry) (items ns ls : List ℕ) (here : ℕ) (page : Page) →
    (object_of s ≡ 1) ⊎ (((object_of s ≡ 0) ⊎ (object_of s ≡ none)) × (values_of s e items ns ls here page ≡ []))
kinds Label e items ns ls here page = inr (inr refl, refl)
kinds (Instruction node) e items ns ls here page = inl refl
kinds (Rmb node) e items ns ls here page = inr (inl refl, refl)
kinds (Fcb first n) e items ns ls here page = inl refl
kinds (Fdb first n) e items ns ls here page = inl refl
kinds (Fcc first n) e items ns ls here page = inl refl
kinds (Org node) e items ns ls here page = inr (inl refl, refl)
kinds (Setdp number) e items ns ls here page = inr (inr refl, refl)
kinds Unknown e items ns ls here page = inr (inr refl, refl)

pub values_kinds :
    (list items ns ls : List ℕ) (i here : ℕ) (page : Page) →
    (object_of (statement_at list i) ≡ 1)
    ⊎ (((object_of (statement_at list i) ≡ 0) ⊎ (object_of (statement_at list i) ≡ none)) × (values_at list items ns ls i here page ≡ []))
unfolding values_at
values_kinds list items ns ls i here page = kinds (statement_at list i) (entry_at list i) items ns ls here page
