-- Passes until one changes no label address and no size, at most 64 (01, "Passes").
use Rattle.std.specs.Prelude.{ℕ, zero, suc, ◌+◌, Bool, ◌||◌, List, length, replicate, ltb, Option, Some, None, Result, Ok, Err, is_ok}
use Rattle.std.specs.List.{list_any, range_with_len}
use Rattle.ground.specs.Choice.{pick}
use Rattle.ground.specs.declared.refusals.Refusal.{Refusal}
use Rattle.ground.specs.declared.refusals.Refusal.TheVariants.{NoRoom, NotSettled, OverLimit}
use Rattle.expressions.specs.Answers as expressions
use Rattle.statements.specs.Listing.{rows_of, overfull_at}
use Rattle.passes.specs.declared.walk.State.{State}
use Rattle.passes.specs.declared.Ended.{Ended}
use Rattle.passes.specs.declared.Settled.{Settled}
use Rattle.passes.specs.Labels.{begun_table, laid_over, labels_fit}
use Rattle.passes.specs.Walks.{Source, Walk, walk_to}

-- one pass, from the label table and the sizes that the one before left
abbrev pub pass_of : Source → List ℕ → List ℕ → Walk
pass_of src ls zs = walk_to src ls zs (rows_of src.list)

-- how the passes ended: how many were made, the address after the last statement or a refusal, and how many statements stand before the refused one
abbrev pub ended : ℕ → Result ℕ Refusal → ℕ → Ended
ended passes end fine = record { passes = passes; end = end; fine = fine }

-- a settled pass answers where it ended, or "its first refusal, .. with the number of passes made"
unfoldable pub end_of : Option Refusal → ℕ → Result ℕ Refusal
end_of None at = Ok at
end_of (Some why) at = Err why

unfoldable pub answer_of : ℕ → State → Ended
answer_of made s = ended made (end_of s.refusal s.at) s.fine

-- the answer, and the label table and the sizes then
pub record Outcome : Type 0 where
  pub answer : Ended
  pub table : List ℕ
  pub sizes : List ℕ

abbrev pub outcome : Ended → List ℕ → List ℕ → Outcome
outcome a ls zs = record { answer = a; table = ls; sizes = zs }

-- "A pass is settled if it changed no label address and no size": its outcome, and else what more passes give
unfoldable pub after_of : (List ℕ → List ℕ → Outcome) → ℕ → Walk → Outcome
after_of more made w =
    pick w.state.changed (more w.labels w.sizes) (outcome (answer_of made w.state) w.labels w.sizes)

-- n more passes at most, where some are made
unfoldable pub settle_of : Source → ℕ → ℕ → List ℕ → List ℕ → Outcome
settle_of src zero made ls zs = outcome (ended made (Err NotSettled) 0) ls zs
settle_of src (suc n) made ls zs = after_of (λ ls' zs'. settle_of src n (made + 1) ls' zs') (made + 1) (pass_of src ls zs)

-- "64 passes and not settled"
abbrev pub most_passes : ℕ
most_passes = 64

-- "All addresses and sizes begin at 0"
unfoldable pub passed_of : Source → List ℕ → Outcome
passed_of src ls = settle_of src most_passes 0 (begun_table src.list ls) (replicate 1024 0)

-- ---- "any other 17", before all else: it has made no pass
-- one of the first n statements is too long: "256 values or characters in one statement"
unfoldable pub overfull_in : List ℕ → ℕ → Bool
overfull_in list n = list_any (overfull_at list) (range_with_len 0 n)

-- "more than 1,024 statements or nodes"
unfoldable pub too_many : List ℕ → List ℕ → Bool
too_many list nodes = ltb 1024 (rows_of list) || (expressions.too_many nodes || overfull_in list (rows_of list))

unfoldable pub ended_of : Source → List ℕ → Ended
ended_of src ls = pick (too_many src.list src.nodes) (ended 0 (Err OverLimit) 0) (passed_of src ls).answer

-- the tables that the passes work in, as they leave them
unfoldable pub worked_table : Source → List ℕ → List ℕ → List ℕ
worked_table src ls table = pick (too_many src.list src.nodes) table (passed_of src ls).table

unfoldable pub worked_sizes : Source → List ℕ → List ℕ → List ℕ
worked_sizes src ls sizes = pick (too_many src.list src.nodes) sizes (passed_of src ls).sizes

-- ---- the answer to a caller
-- statements in order: 9 where the label's row of a statement before the refused one does not fit, and else what the passes answer
unfoldable pub settled_end : Source → List ℕ → Result ℕ Refusal
settled_end src ls = pick (labels_fit src.list (length ls) (ended_of src ls).fine) (ended_of src ls).end (Err NoRoom)

-- the passes made, and that
unfoldable pub settled_of : Source → List ℕ → Settled
settled_of src ls = record { passes = (ended_of src ls).passes; end = settled_end src ls }

-- the lent label table then: the addresses found, or on a refusal what it held
unfoldable pub labels_after : Source → List ℕ → List ℕ
labels_after src ls = pick (is_ok (settled_end src ls)) (laid_over (passed_of src ls).table ls) ls
