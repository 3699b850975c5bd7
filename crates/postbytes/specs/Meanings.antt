-- What an operand and a list of registers mean, from themselves alone, and what it is for bytes to be read so.
use Rattle.std.specs.Prelude.{◌≡◌, List, [], ◌∷◌, ℕ, ◌+◌, ◌^◌, ◌≤◌, length, get_or, Ok}
use Rattle.ground.specs.Choice.{pick}
use Rattle.values.specs.Widths.{sign_extended_of}
use Rattle.postbytes.specs.declared.Index.{Index}
use Rattle.postbytes.specs.declared.Index.TheVariants as index
use Rattle.postbytes.specs.declared.Shape.{Shape}
use Rattle.postbytes.specs.declared.Addressing.{Addressing}
use Rattle.postbytes.specs.declared.Addressing.TheVariants.{Offset, Counter, Accumulator, Step, Address}
use Rattle.postbytes.specs.Registers.{A, B, X, Y, U, S, PC, CC, DP}
use Rattle.postbytes.specs.Lists.{among}
use Rattle.postbytes.specs.Reading.{shape_of, extra_of, fill_of}

-- 01, "Meaning": an offset is its number modulo 65536, sign-extended
abbrev pub meaning_of : Index → Addressing
meaning_of (index.Offset r ind v) = Offset r ind (sign_extended_of v).number
meaning_of (index.Counter ind v) = Counter ind (sign_extended_of v).number
meaning_of (index.Accumulator r ind a) = Accumulator r ind a
meaning_of (index.Step r ind k) = Step r ind k
meaning_of (index.Address address) = Address address

-- a push's registers are a set, bit r for register r; D is A with B, and has no bit of its own
abbrev pub marks : List ℕ → List ℕ → ℕ
marks [] list = 0
marks (r ∷ rs) list = pick (among r list) (2 ^ r) 0 + marks rs list

unfoldable pub set_of : List ℕ → ℕ
set_of list = marks (A ∷ B ∷ X ∷ Y ∷ U ∷ S ∷ PC ∷ CC ∷ DP ∷ []) list

-- the bytes l begin with an operand of n bytes, which means m
pub record Means (l : List ℕ) (n : ℕ) (m : Addressing) : Type 0 where
  pub some : 1 ≤ n
  pub most : n ≤ 3
  pub there : n ≤ length l
  pub shape : Shape
  pub defined : shape_of (get_or l 0 0) ≡ Ok shape
  pub extra : 1 + extra_of shape ≡ n
  pub reads : fill_of shape (get_or l 1 0) (get_or l 2 0) ≡ m
