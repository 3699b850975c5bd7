-- What the code hands from stage to stage.
use Rattle.std.specs.Prelude.{ℕ, eqb}
use Rattle.ground.specs.Choice.{pick}
use Rattle.ground.specs.Refusals.{no_room}

-- the refusal of a call whose answer has too few cells: its own, and 9 where it has none
unfoldable pub late_of : ℕ → ℕ
late_of n = pick (eqb n 0) no_room n
