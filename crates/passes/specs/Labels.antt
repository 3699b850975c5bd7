-- Whose each label is, and the label table before the first pass and after the last (01, "Labels, expressions, segments", "Passes").
use Rattle.std.specs.Prelude.{ℕ, zero, suc, ◌+◌, ◌*◌, Bool, ◌&&◌, ◌||◌, not, List, [], ◌∷◌, ltb, leb, eqb}
use Rattle.std.specs.List.{list_all, range_with_len}
use Rattle.ground.specs.Choice.{pick}
use Rattle.expressions.specs.Finding.{label_row}
use Rattle.statements.specs.Listing.{none, rows_of, label_at}

-- of n statements from i on, the first that bears label k; the number after the last where none does
unfoldable pub first_bearer : List ℕ → ℕ → ℕ → ℕ → ℕ
first_bearer list zero i k = i
first_bearer list (suc n) i k = pick (eqb (label_at list i) k) i (first_bearer list n (i + 1) k)

-- the statement that label k belongs to: where it is "defined twice" it keeps its first place
unfoldable pub bearer_of : List ℕ → ℕ → ℕ
bearer_of list k = first_bearer list (rows_of list) 0 k

-- the own label of statement i is refused: "defined twice, or above 511"
unfoldable pub ill_of : List ℕ → ℕ → Bool
ill_of list i =
    not (eqb (label_at list i) none) && (ltb 511 (label_at list i) || not (eqb (bearer_of list (label_at list i)) i))

-- the state of label k in every pass: an expression stays one (2), another label has an address (1) if a statement bears it, and else it is
-- "undefined" (0), whatever address the lent table held before
unfoldable pub begun_state : List ℕ → List ℕ → ℕ → ℕ
begun_state list ls k = pick (eqb (label_row ls k).first 2) 2 (pick (ltb (bearer_of list k) (rows_of list)) 1 0)

-- the rows of n labels from k on, (state, address, node): "All addresses .. begin at 0"
unfoldable pub begun_rows : List ℕ → List ℕ → ℕ → ℕ → List ℕ
begun_rows list ls zero k = []
begun_rows list ls (suc n) k = begun_state list ls k ∷ 0 ∷ (label_row ls k).third ∷ begun_rows list ls n (k + 1)

-- labels 0 to 511
unfoldable pub begun_table : List ℕ → List ℕ → List ℕ
begun_table list ls = begun_rows list ls 512 0

-- a lent table after the passes: states and addresses are those found, in the rows that both tables have whole; nodes, and what lies beyond, as
-- they were
unfoldable pub laid_over : List ℕ → List ℕ → List ℕ
laid_over [] ls = ls
laid_over (s ∷ []) ls = ls
laid_over (s ∷ a ∷ []) ls = ls
laid_over (s ∷ a ∷ n ∷ found) [] = []
laid_over (s ∷ a ∷ n ∷ found) (x ∷ []) = x ∷ []
laid_over (s ∷ a ∷ n ∷ found) (x ∷ y ∷ []) = x ∷ y ∷ []
laid_over (s ∷ a ∷ n ∷ found) (x ∷ y ∷ z ∷ ls) = s ∷ a ∷ z ∷ laid_over found ls

-- ---- "lent buffer too short"
-- statement i bears no label, or one whose row a label table of so many numbers wholly has
unfoldable pub label_fits : List ℕ → ℕ → ℕ → Bool
label_fits list cells i = eqb (label_at list i) none || leb (label_at list i * 3 + 3) cells

-- so it is with each of the first n statements
unfoldable pub labels_fit : List ℕ → ℕ → ℕ → Bool
labels_fit list cells n = list_all (label_fits list cells) (range_with_len 0 n)
