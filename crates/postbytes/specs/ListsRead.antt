-- The sheet's push byte and transfer byte, read.
use Rattle.std.specs.Prelude.{ℕ, ◌+◌, ◌/◌, ◌%◌, ◌^◌, List, [], ◌∷◌, eqb, length, get_or, Option, Some, None, Result, Ok, Err}
use Rattle.ground.specs.Choice.{pick}
use Rattle.ground.specs.declared.refusals.Refusal.{Refusal}
use Rattle.ground.specs.declared.refusals.Refusal.TheVariants.{Undefined}
use Rattle.postbytes.specs.declared.Pair.{Pair}
use Rattle.postbytes.specs.Registers.{A, B, D, X, Y, U, S, PC, CC, DP}
use Rattle.postbytes.specs.Lists.{boxes, size_of}

-- the registers whose boxes are ticked, as a set: bit r for register r
abbrev pub ticked : List ℕ → ℕ → ℕ
ticked [] byte = 0
ticked (r ∷ rs) byte = pick (eqb (byte / 2 ^ length rs % 2) 1) (2 ^ r) 0 + ticked rs byte

unfoldable pub registers_of : ℕ → ℕ → ℕ
registers_of own byte = ticked (boxes own) byte

-- the registers of the sheet's transfer codes, 0 to F; some codes are no register's
abbrev pub coded : List (Option ℕ)
coded =
    Some D ∷ Some X ∷ Some Y ∷ Some U ∷ Some S ∷ Some PC ∷ None ∷ None ∷ Some A ∷ Some B ∷ Some CC ∷ Some DP ∷ None ∷ None ∷ None ∷ None ∷ []

-- "both of one size"
abbrev pub pair_is : Option ℕ → Option ℕ → Result Pair Refusal
pair_is (Some s) (Some d) = pick (eqb (size_of s) (size_of d)) (Ok (record { source = s; destination = d })) (Err Undefined)
pair_is (Some s) None = Err Undefined
pair_is None d = Err Undefined

-- the source in the high four bits, the destination in the low four
unfoldable pub pair_of : ℕ → Result Pair Refusal
pair_of byte = pair_is (get_or coded (byte / 16) None) (get_or coded (byte % 16) None)

-- its values in 01: source and destination
abbrev pub values_of_pair : Pair → List ℕ
values_of_pair p = p.source ∷ p.destination ∷ []
