-- A statement built alone: 17, then the refusals of the statement, then 9; 18 is "never in a lone build".
use Rattle.std.specs.Prelude.{ℕ, Bool, List, ◌++◌, Result, Ok, Err, is_ok, ltb, length, drop}
use Rattle.ground.specs.Choice.{pick}
use Rattle.ground.specs.declared.refusals.Refusal.{Refusal}
use Rattle.ground.specs.declared.refusals.Refusal.TheVariants.{NoRoom, OverLimit}
use Rattle.values.specs.declared.pages.Page.{Page}
use Rattle.statements.specs.declared.Effect.{Effect}
use Rattle.statements.specs.declared.lone.Lone.{Lone}
use Rattle.statements.specs.Listing.{overfull_at}
use Rattle.statements.specs.Effects.{after, effect_at}
use Rattle.statements.specs.Objects.{values_at, count_in}

-- what an accepted effect says, with the count of its values
abbrev pub accepted : Effect → ℕ → Lone
accepted e count = record { count = count; size = e.size; to = e.to; turn = e.turn }

-- the answer where the lent table has so much room
unfoldable pub answer_of : Bool → Effect → List ℕ → ℕ → Result Lone Refusal
answer_of overfull e values room =
    pick overfull (Err OverLimit)
    (after e.refusal (pick (ltb room (length values)) (Err NoRoom) (Ok (accepted e (count_in values)))))

unfoldable pub lone_at : List ℕ → List ℕ → List ℕ → List ℕ → ℕ → ℕ → Page → Bool → ℕ → Result Lone Refusal
lone_at list items ns ls i here page ill room =
    answer_of (overfull_at list i) (effect_at list items ns ls i here page ill) (values_at list items ns ls i here page) room

-- the values, followed by what the table held beyond them; refused, the table as it was
unfoldable pub table_after : List ℕ → List ℕ → List ℕ → List ℕ → ℕ → ℕ → Page → Bool → List ℕ → List ℕ
table_after list items ns ls i here page ill table =
    pick (is_ok (lone_at list items ns ls i here page ill (length table)))
    (values_at list items ns ls i here page ++ drop (length (values_at list items ns ls i here page)) table)
    table
