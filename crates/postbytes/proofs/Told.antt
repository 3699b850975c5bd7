-- An answer loses nothing in its values; and a postbyte and a transfer byte that the sheet lacks are refused as undefined, and never otherwise.
-- Assumes nothing.
use mathlib.Core.Path.{◌≡◌, refl}
use mathlib.Core.Bool.{Bool, true, false}
use mathlib.Core.List.{List}
use Prim.Native.Nat.{ℕ, ◌/◌, ◌%◌}
use lib.Dec.{eqb, ltb}
use lib.ListN.{get_or}
use Rattle.std.specs.Prelude.{Option, Some, None, Result, Ok, Err, IsOkUnless}
use Rattle.std.specs.Result.{result_err}
use Rattle.ground.specs.Choice.{pick}
use Rattle.ground.specs.declared.refusals.Refusal.{Refusal}
use Rattle.ground.specs.declared.refusals.Refusal.TheVariants.{Undefined}
use Rattle.ground.proofs.Choices.{by_pick}
use Rattle.postbytes.specs.declared.Shape.{Shape}
use Rattle.postbytes.specs.declared.Shape.TheVariants.{NoOffset, FiveBits, OneByte, TwoBytes, Accumulator, Step, CounterByte, CounterWord, Address}
use Rattle.postbytes.specs.declared.Addressing.{Addressing}
use Rattle.postbytes.specs.declared.Addressing.TheVariants as addressing
use Rattle.postbytes.specs.declared.Pair.{Pair}
use Rattle.postbytes.specs.Lists.{size_of}
use Rattle.postbytes.specs.Reading.{direct_only, address_only, high_of, shape_of, extra_of, fill_of, flag, values_of_shape, values_of_addressing}
use Rattle.postbytes.specs.ListsRead.{coded, pair_is, pair_of, values_of_pair}
use Rattle.postbytes.proofs.Counts.{filled}

pub flag_told : (b : Bool) → eqb (flag b) 1 ≡ b
flag_told true = refl
flag_told false = refl

-- ---- a postbyte
abbrev shape_from : List ℕ → Shape
shape_from values =
    pick (eqb (get_or values 0 0) 7)
    (pick (eqb (get_or values 1 0) 0) (NoOffset (get_or values 2 0) (eqb (get_or values 3 0) 1))
    (pick (eqb (get_or values 1 0) 5) (FiveBits (get_or values 2 0) (get_or values 3 0))
    (pick (eqb (get_or values 1 0) 8) (OneByte (get_or values 2 0) (eqb (get_or values 3 0) 1))
    (TwoBytes (get_or values 2 0) (eqb (get_or values 3 0) 1)))))
    (pick (eqb (get_or values 0 0) 9) (Accumulator (get_or values 2 0) (eqb (get_or values 3 0) 1) (get_or values 4 0))
    (pick (eqb (get_or values 0 0) 10) (Step (get_or values 2 0) (eqb (get_or values 3 0) 1) (get_or values 4 0))
    (pick (eqb (get_or values 0 0) 8)
    (pick (eqb (get_or values 1 0) 8) (CounterByte (eqb (get_or values 2 0) 1)) (CounterWord (eqb (get_or values 2 0) 1)))
    Address)))

pub shape_told : (s : Shape) → shape_from (values_of_shape s) ≡ s
unfolding pick
shape_told (NoOffset r ind) = rw (flag_told ind)
shape_told (FiveBits r n) = refl
shape_told (OneByte r ind) = rw (flag_told ind)
shape_told (TwoBytes r ind) = rw (flag_told ind)
shape_told (Accumulator r ind a) = rw (flag_told ind)
shape_told (Step r ind k) = rw (flag_told ind)
shape_told (CounterByte ind) = rw (flag_told ind)
shape_told (CounterWord ind) = rw (flag_told ind)
shape_told Address = refl

-- a postbyte that the sheet lacks is undefined
either : {A : Type 0} (t : Bool) (a b : Result A Refusal) → IsOkUnless a Undefined → IsOkUnless b Undefined → IsOkUnless (pick t a b) Undefined
either t a b = by_pick (λ r. IsOkUnless r Undefined) t

high_undefined : (rr : ℕ) (ind : Bool) (four : ℕ) → IsOkUnless (high_of rr ind four) Undefined
unfolding high_of direct_only address_only
high_undefined rr ind four =
    either _ _ _ tt (either _ _ _ tt (either _ _ _ tt (either _ _ _ tt (either _ _ _ tt (either _ _ _ tt (either _ _ _ (either ind _ _ refl tt)
    (either _ _ _ tt (either _ _ _ (either ind _ _ refl tt) (either _ _ _ tt (either _ _ _ tt (either _ _ _ tt (either _ _ _ (either _ _ _ tt refl) refl))))))))))))

pub lacking_undefined : (p : ℕ) → IsOkUnless (shape_of p) Undefined
unfolding shape_of
lacking_undefined p = either (ltb p 128) _ _ tt (high_undefined (p / 32 % 4) (eqb (p / 16 % 2) 1) (p % 16))

-- the sheet's two columns agree: 8 bits are one byte after the postbyte, 16 are two, and fewer stand in it
pub bytes_for_bits : (s : Shape) → extra_of s ≡ get_or (values_of_shape s) 1 0 / 8
bytes_for_bits (NoOffset r ind) = refl
bytes_for_bits (FiveBits r n) = refl
bytes_for_bits (OneByte r ind) = refl
bytes_for_bits (TwoBytes r ind) = refl
bytes_for_bits (Accumulator r ind a) = refl
bytes_for_bits (Step r ind k) = refl
bytes_for_bits (CounterByte ind) = refl
bytes_for_bits (CounterWord ind) = refl
bytes_for_bits Address = refl

-- ---- with the bytes after it
abbrev addressing_from : List ℕ → Addressing
addressing_from values =
    pick (eqb (get_or values 0 0) 7) (addressing.Offset (get_or values 1 0) (eqb (get_or values 2 0) 1) (get_or values 3 0))
    (pick (eqb (get_or values 0 0) 8) (addressing.Counter (eqb (get_or values 1 0) 1) (get_or values 2 0))
    (pick (eqb (get_or values 0 0) 9) (addressing.Accumulator (get_or values 1 0) (eqb (get_or values 2 0) 1) (get_or values 3 0))
    (pick (eqb (get_or values 0 0) 10) (addressing.Step (get_or values 1 0) (eqb (get_or values 2 0) 1) (get_or values 3 0))
    (addressing.Address (get_or values 1 0)))))

pub addressing_told : (a : Addressing) → addressing_from (values_of_addressing a) ≡ a
unfolding pick
addressing_told (addressing.Offset r ind n) = rw (flag_told ind)
addressing_told (addressing.Counter ind n) = rw (flag_told ind)
addressing_told (addressing.Accumulator r ind a) = rw (flag_told ind)
addressing_told (addressing.Step r ind k) = rw (flag_told ind)
addressing_told (addressing.Address a) = refl

-- what fills a postbyte is refused exactly if the postbyte is
pub filled_refused : (r : Result Shape Refusal) (b c : ℕ) → result_err (filled b c r) ≡ result_err r
filled_refused (Ok s) b c = refl
filled_refused (Err n) b c = refl

-- the bytes after a postbyte do not change its kind
pub filled_kind : (s : Shape) (b c : ℕ) → get_or (values_of_addressing (fill_of s b c)) 0 0 ≡ get_or (values_of_shape s) 0 0
filled_kind (NoOffset r ind) b c = refl
filled_kind (FiveBits r n) b c = refl
filled_kind (OneByte r ind) b c = refl
filled_kind (TwoBytes r ind) b c = refl
filled_kind (Accumulator r ind a) b c = refl
filled_kind (Step r ind k) b c = refl
filled_kind (CounterByte ind) b c = refl
filled_kind (CounterWord ind) b c = refl
filled_kind Address b c = refl

-- ---- a transfer byte
abbrev pair_from : List ℕ → Pair
pair_from values = record { source = get_or values 0 0; destination = get_or values 1 0 }

pub pair_told : (p : Pair) → pair_from (values_of_pair p) ≡ p
pair_told p = refl

pair_undefined : (s d : Option ℕ) → IsOkUnless (pair_is s d) Undefined
pair_undefined (Some s) (Some d) = either (eqb (size_of s) (size_of d)) _ _ tt refl
pair_undefined (Some s) None = refl
pair_undefined None d = refl

-- a transfer byte that the sheet lacks is undefined
pub unpaired_undefined : (byte : ℕ) → IsOkUnless (pair_of byte) Undefined
unfolding pair_of
unpaired_undefined byte = pair_undefined (get_or coded (byte / 16) None) (get_or coded (byte % 16) None)
