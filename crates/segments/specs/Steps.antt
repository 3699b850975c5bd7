-- What one turn of the search does. Only a private contract cites it.
use Rattle.std.specs.Prelude.{ℕ, ◌-◌, min, max, leb}
use Rattle.ground.specs.Choice.{pick}
use Rattle.segments.specs.declared.Segment.{Segment}

-- a segment that holds the address, cut off at one start more
unfoldable pub narrowed_by : ℕ → ℕ → Segment → Segment
narrowed_by a s g =
    pick (leb s a)
    (record { left = max g.left s; right = g.right })
    (record { left = g.left; right = min g.right (s - 1) })
