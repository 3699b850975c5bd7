-- Numbers wider or narrower than a cell of 16 bits.
use Rattle.std.specs.Prelude.{Bool, List, [], ◌∷◌, ℕ, ◌/◌, ◌%◌, ◌^◌}
use Rattle.ground.specs.Choice.{pick}

-- a size of up to 64 bits in four cells, the lowest first
unfoldable pub size_cells : ℕ → List ℕ
size_cells n = (n % 2 ^ 16) ∷ (n / 2 ^ 16 % 2 ^ 16) ∷ (n / 2 ^ 32 % 2 ^ 16) ∷ (n / 2 ^ 48) ∷ []

-- 1 for true, 0 for false
unfoldable pub flag_cell : Bool → ℕ
flag_cell b = pick b 1 0
