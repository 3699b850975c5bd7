-- What the writing of a line's bytes does. (For the contracts of inner functions: nothing outside the crate rests on it.)
use Rattle.std.specs.Prelude.{◌≡◌, List, ℕ, ◌+◌, ◌%◌}
use Rattle.ground.specs.Stores.{Wrote}
use Rattle.records.specs.Hex.{hexes}
use Rattle.records.specs.Line.{sum}
use Rattle.records.specs.declared.lines.Pen.{Pen}

-- the bytes are written as digits from the pen's place on, and added to its sum
pub record Penned (d : List ℕ) (s : Pen) (bytes : List ℕ) (r : Pen) (e : List ℕ) : Type 0 where
  pub digits : Wrote d s.at (hexes bytes) r.at e
  pub total : r.sum ≡ (s.sum + sum bytes) % 256
