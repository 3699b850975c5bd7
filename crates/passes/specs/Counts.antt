-- How many passes are made, said apart from what they answer (01, "Passes": "with the number of passes made").
use Rattle.std.specs.Prelude.{ℕ, zero, suc, List}
use Rattle.ground.specs.Choice.{pick}
use Rattle.passes.specs.Walks.{Source, Walk}
use Rattle.passes.specs.Passes.{pass_of}

-- pass number k + 1, each from the label table and the sizes that the one before left
unfoldable pub pass_at : Source → ℕ → List ℕ → List ℕ → Walk
pass_at src zero ls zs = pass_of src ls zs
pass_at src (suc k) ls zs = pass_at src k (pass_of src ls zs).labels (pass_of src ls zs).sizes

-- passes are made until one changes nothing, at most n
unfoldable pub count_of : Source → ℕ → List ℕ → List ℕ → ℕ
count_of src zero ls zs = 0
count_of src (suc n) ls zs =
    suc (pick (pass_of src ls zs).state.changed (count_of src n (pass_of src ls zs).labels (pass_of src ls zs).sizes) 0)
