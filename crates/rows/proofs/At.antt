-- What a table gives at a place.
-- Assumes nothing.
use mathlib.Core.Path.{◌≡◌}
use mathlib.Core.List.{List}
use Prim.Native.Nat.{ℕ}
use native.Mathlib.Omega.{arith}
use denote.Ref.{Bor}
use Rattle.std.specs.Prelude.{Option, slice_get, option_copied}
use Rattle.std.specs.Slice.{IsItemAt}
use Rattle.std.proofs.lemmas.Grind.{common_steps}
use Rattle.std.proofs.lemmas.Option.{gets}

pub item_copied : (rows : List ℕ) (at : ℕ) (r : Option (Bor ℕ)) → IsItemAt rows at r → option_copied r ≡ slice_get rows at
item_copied rows at r h = grind (arith, common_steps, gets)
