-- The objects of the settled pass, in the rows that the record writer takes (docs/ROWS.md). 01, "Passes": a settled pass's "bytes, or its first refusal, are
-- the answer".
use Rattle.std.specs.Prelude.{ℕ, zero, suc, ◌+◌, ◌%◌, false, List, [], ◌∷◌, ◌++◌, eqb}
use Rattle.std.specs.Option.{unwrap_or}
use Rattle.ground.specs.Choice.{pick}
use Rattle.values.specs.declared.pages.Page.{Page}
use Rattle.statements.specs.declared.Effect.{Effect}
use Rattle.statements.specs.Listing.{none, statement_at, object_of}
use Rattle.statements.specs.Effects.{effect_at}
use Rattle.statements.specs.Objects.{values_at, count_in}
use Rattle.passes.specs.Walks.{Source, walk_to}
use Rattle.passes.specs.Passes.{Outcome, passed_of, ended_of}

-- ---- one statement, built with a label table at a running address on a page
-- the kind of its object: with data (an instruction, FCB, FDB, FCC), without (RMB, ORG), or none at all
abbrev pub kind_at : List ℕ → ℕ → ℕ
kind_at list i = object_of (statement_at list i)

-- kind, address and count of values
unfoldable pub object_row : ℕ → ℕ → ℕ → List ℕ
object_row kind address count = pick (eqb kind none) [] (kind ∷ address ∷ count ∷ [])

-- its values, (number, width) each
unfoldable pub values_built : Source → List ℕ → ℕ → ℕ → Page → List ℕ
values_built src ls i at page = values_at src.list src.items src.nodes ls i (at % 65536) page

-- where the object stands of a statement that does this at a location: an ORG's where the ORG moves to, any other at the location
unfoldable pub stands_at : Effect → ℕ → ℕ
stands_at e here = unwrap_or e.to here

-- its object; at 65536 only what has no length can stand, and its address is 0 like the location there
unfoldable pub object_built : Source → List ℕ → ℕ → ℕ → Page → List ℕ
object_built src ls i at page =
    object_row (kind_at src.list i)
    (stands_at (effect_at src.list src.items src.nodes ls i (at % 65536) page false) (at % 65536))
    (count_in (values_built src ls i at page))

-- ---- the settled pass
-- the running address and the page before statement i, where the pass is walked over the tables that it settled
unfoldable pub address_at : Source → Outcome → ℕ → ℕ
address_at src o i = (walk_to src o.table o.sizes i).state.at

unfoldable pub page_at : Source → Outcome → ℕ → Page
page_at src o i = (walk_to src o.table o.sizes i).state.page

-- the object and the values of statement i, at its address there and with the page as it is there
unfoldable pub object_in : Source → Outcome → ℕ → List ℕ
object_in src o i = object_built src o.table i (address_at src o i) (page_at src o i)

unfoldable pub values_in : Source → Outcome → ℕ → List ℕ
values_in src o i = values_built src o.table i (address_at src o i) (page_at src o i)

-- what f gives of n statements from i on, one after the other
unfoldable pub gather : {A : Type 0} → (ℕ → List A) → ℕ → ℕ → List A
gather f zero i = []
gather f (suc n) i = f i ++ gather f n (i + 1)

-- "Objects are walked in order, and each object's values within": of n statements from i on
abbrev pub objects_from : Source → Outcome → ℕ → ℕ → List ℕ
objects_from src o n i = gather (λ k. object_in src o k) n i

abbrev pub values_from : Source → Outcome → ℕ → ℕ → List ℕ
values_from src o n i = gather (λ k. values_in src o k) n i

-- of the statements before the refused one, which are all of them where none is refused
unfoldable pub objects_of : Source → List ℕ → List ℕ
objects_of src ls = objects_from src (passed_of src ls) (ended_of src ls).fine 0

unfoldable pub values_of : Source → List ℕ → List ℕ
values_of src ls = values_from src (passed_of src ls) (ended_of src ls).fine 0
