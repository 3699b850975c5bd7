-- What is said of a node's and a label's value.
use Rattle.std.specs.Prelude.{ℕ, List, [], ◌∷◌, ◌++◌, Result, Ok, Err}
use Rattle.ground.specs.declared.refusals.Refusal.{Refusal}
use Rattle.ground.specs.Refusals.{number_of}
use Rattle.answers.specs.Said.{Said, said}
use Rattle.values.specs.declared.Value.{Value}
use Rattle.expressions.specs.declared.Evaluated.{Evaluated}

-- a number and its width
unfoldable pub value_cells : Value → List ℕ
value_cells v = v.number ∷ v.width ∷ []

-- "unsigned and signed evaluation, each with its width"
unfoldable pub evaluated_said : Result Evaluated Refusal → Said
evaluated_said (Ok e) = said 0 (value_cells e.unsigned ++ value_cells e.signed)
evaluated_said (Err r) = said (number_of r) []

unfoldable pub value_said : Result Value Refusal → Said
value_said (Ok v) = said 0 (value_cells v)
value_said (Err r) = said (number_of r) []
