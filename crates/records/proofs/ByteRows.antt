-- Bytes as values of 8 bits: two numbers each, lawful, and the same bytes again.
-- Assumes nothing.
use mathlib.Core.Path.{◌≡◌, refl, ap, ◌∙◌}
use mathlib.Core.Bool.{false}
use mathlib.Core.List.{List, [], ◌∷◌}
use Prim.Native.Nat.{ℕ, suc, ◌*◌}
use native.Mathlib.Nat.{mod-eq_of_lt}
use native.Mathlib.Omega.{arith}
use lib.ListN.{length}
use borrow.Author.Tests.{lt-ltb}
use Rattle.ground.specs.Choice.{pick}
use Rattle.records.specs.Objects.{bytes_of, data_of, byte_rows, fits, bad_values}
use Rattle.records.specs.Fine.{Bytes}

pub byte_rows_length : (bytes : List ℕ) → length (byte_rows bytes) ≡ 2 * length bytes
byte_rows_length [] = refl
byte_rows_length (b ∷ bs) = omega (arith, byte_rows_length bs)

pub byte_data_length : (bytes : List ℕ) → length (data_of (byte_rows bytes)) ≡ length bytes
unfolding bytes_of pick
byte_data_length [] = refl
byte_data_length (b ∷ bs) = ap suc (byte_data_length bs)

pub byte_data : (bytes : List ℕ) → Bytes bytes → data_of (byte_rows bytes) ≡ bytes
unfolding bytes_of pick
byte_data [] h = refl
byte_data (b ∷ bs) (h, hs) =
    ap (λ (n : ℕ). n ∷ data_of (byte_rows bs)) (mod-eq_of_lt h) ∙ ap (λ (l : List ℕ). b ∷ l) (byte_data bs hs)

pub bytes_good : (bytes : List ℕ) → Bytes bytes → bad_values (byte_rows bytes) ≡ false
unfolding fits
bytes_good [] h = refl
bytes_good (b ∷ bs) h = rw (lt-ltb b 256 h.0, bytes_good bs h.1) refl
