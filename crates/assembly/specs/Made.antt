-- The objects of a settled list without their rows: at each statement's address the bytes that building it there gives.
use Rattle.std.specs.Prelude.{ℕ, ◌%◌, List, [], ◌∷◌, eqb}
use Rattle.ground.specs.Choice.{pick}
use Rattle.records.specs.Objects.{Object, With, Without}
use Rattle.statements.specs.Listing.{none}
use Rattle.statements.specs.Objects.{bytes_at}
use Rattle.passes.specs.Walks.{Source}
use Rattle.passes.specs.Passes.{Outcome}
use Rattle.assembly.specs.Objects.{kind_at, address_at, page_at, gather}

-- the bytes of statement i, built at its address with the settled table and the page as it is there
abbrev pub bytes_in : Source → Outcome → ℕ → List ℕ
bytes_in src o i = bytes_at src.list src.items src.nodes o.table i (address_at src o i % 65536) (page_at src o i)

-- its object with data or without; a bare label has none
unfoldable pub made_in : Source → Outcome → ℕ → List Object
made_in src o i =
    pick (eqb (kind_at src.list i) none) []
    (pick (eqb (kind_at src.list i) 1) (With (address_at src o i % 65536) (bytes_in src o i)) Without ∷ [])

-- of n statements from i on
abbrev pub made_from : Source → Outcome → ℕ → ℕ → List Object
made_from src o n i = gather (λ k. made_in src o k) n i
