-- What the code hands to one function. Only private contracts cite it.
use Rattle.std.specs.Prelude.{ℕ, Bool, true, false, eqb, Result, Err}
use Rattle.ground.specs.Choice.{pick}
use Rattle.ground.specs.Words.{plus, minus}
use Rattle.ground.specs.declared.refusals.Refusal.{Refusal}
use Rattle.ground.specs.declared.refusals.Refusal.TheVariants.{TooDeep}
use Rattle.expressions.specs.declared.finding.Found.{Found}
use Rattle.expressions.specs.Finding.{times}

-- 4 is a sum and 6 a product; a difference subtracts
unfoldable pub operation_of : ℕ → ℕ → ℕ → ℕ
operation_of kind a b = pick (eqb kind 4) (plus a b) (pick (eqb kind 6) (times a b) (minus a b))

abbrev pub is_deep : Result Found Refusal → Bool
is_deep (Err TooDeep) = true
is_deep f = false
