-- What the code keeps at hand. Only private contracts cite it.
use Rattle.std.specs.Prelude.{ℕ, zero, suc, ◌+◌, Bool, List, [], ◌∷◌, eqb}
use Rattle.ground.specs.Choice.{pick}
use Rattle.expressions.specs.Finding.{label_row}
use Rattle.passes.specs.declared.labels.Lent.{Lent}
use Rattle.passes.specs.Labels.{bearer_of}

-- n cells from place k on, each as f says
unfoldable pub table_of : (ℕ → ℕ) → ℕ → ℕ → List ℕ
table_of f zero k = []
table_of f (suc n) k = f k ∷ table_of f n (k + 1)

-- the statement that each of the labels 0 to 511 belongs to
unfoldable pub bearers_of : List ℕ → List ℕ
bearers_of list = table_of (bearer_of list) 512 0

-- the state and the node of a label as lent
unfoldable pub lent_of : List ℕ → ℕ → Lent
lent_of ls k = record { state = (label_row ls k).first; node = (label_row ls k).third }

-- a label's state in every pass, from the lent one and whether a statement bears it
unfoldable pub state_of : ℕ → Bool → ℕ
state_of state borne = pick (eqb state 2) 2 (pick borne 1 0)

-- a label's row before the first pass
unfoldable pub row_of : List ℕ → ℕ → Bool → List ℕ
row_of ls k borne = state_of (label_row ls k).first borne ∷ 0 ∷ (label_row ls k).third ∷ []
