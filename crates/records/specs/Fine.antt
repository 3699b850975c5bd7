-- What holds of every record that is written, and what it takes of the objects.
use Rattle.std.specs.Prelude.{List, [], ◌∷◌, ℕ, ◌+◌, ◌≤◌, ◌<◌, length}
use Rattle.records.specs.Objects.{Object, With, Without}
use Rattle.records.specs.Text.{Rec}

-- P holds of each
abbrev pub Each : {A : Type 0} → (A → Type 0) → List A → Type 0
Each P [] = Unit
Each P (x ∷ xs) = P x × Each P xs

abbrev pub Bytes : List ℕ → Type 0
Bytes = Each (λ b. b < 256)

-- a record has 1 to 32 bytes, each with an address
pub record Fine (r : Rec) : Type 0 where
  pub some : 0 < length r.bytes
  pub most : length r.bytes ≤ 32
  pub bytes : Bytes r.bytes
  pub near : r.address + length r.bytes ≤ 65536

-- an object's bytes are bytes
abbrev pub Sound : Object → Type 0
Sound (With address bytes) = Bytes bytes
Sound Without = Unit
