-- When a list is laid, and which bytes it then has: said of the instructions' own builds alone, with no order of refusals.
use Rattle.std.specs.Prelude.{◌≡◌, Bool, true, ◌&&◌, List, [], ◌∷◌, ◌++◌, Result, Ok, Err, ℕ, ◌+◌, ◌≤◌, eqb, length}
use Rattle.ground.specs.declared.refusals.Refusal.{Refusal}
use Rattle.instruction.specs.declared.Record.{Record}
use Rattle.instruction.specs.Building.{told, size_told, bytes_told}
use Rattle.laying.specs.Laying.{built_at, before}

-- each instruction's own build accepts it, at the address that those before it reach
unfoldable pub all_built : List Record → ℕ → Bool
all_built [] at = true
all_built (entry ∷ entries) at = eqb (told (built_at entry at)) 0 && all_built entries (at + size_told (built_at entry at))

-- the bytes of the builds, one after the other
unfoldable pub bytes_from : List Record → ℕ → List ℕ
bytes_from [] at = []
bytes_from (entry ∷ entries) at = bytes_told (built_at entry at) ++ bytes_from entries (at + size_told (built_at entry at))

-- each is built, no byte lies beyond 65535, and the buffer is long enough
pub record Fits (entries : List Record) (at room : ℕ) : Type 0 where
  pub built : all_built entries at ≡ true
  pub within : at + length (bytes_from entries at) ≤ 65536
  pub enough : length (bytes_from entries at) ≤ room

-- some bytes, and after them what follows from them
abbrev pub continued : Result (List ℕ) Refusal → (List ℕ → Result (List ℕ) Refusal) → Result (List ℕ) Refusal
continued (Ok bytes) next = before bytes (next bytes)
continued (Err refusal) next = Err refusal
