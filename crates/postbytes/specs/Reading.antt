-- The sheet's table of indexed addressing, read: what a postbyte says, and what it means with the bytes after it.
use Rattle.std.specs.Prelude.{ℕ, ◌+◌, ◌/◌, ◌%◌, Bool, true, false, ◌&&◌, List, [], ◌∷◌, eqb, ltb, Result, Ok, Err}
use Rattle.ground.specs.Choice.{pick}
use Rattle.ground.specs.declared.refusals.Refusal.{Refusal}
use Rattle.ground.specs.declared.refusals.Refusal.TheVariants.{Undefined}
use Rattle.ground.specs.Words.{word}
use Rattle.values.specs.Widths.{extended}
use Rattle.postbytes.specs.declared.Shape.{Shape}
use Rattle.postbytes.specs.declared.Shape.TheVariants.{NoOffset, FiveBits, OneByte, TwoBytes, Accumulator, Step, CounterByte, CounterWord, Address}
use Rattle.postbytes.specs.declared.Addressing.{Addressing}
use Rattle.postbytes.specs.declared.Addressing.TheVariants as addressing
use Rattle.postbytes.specs.Registers.{A, B, D, X}

-- "not allowed" in the sheet's column of indirect forms
unfoldable pub direct_only : Bool → Shape → Result Shape Refusal
direct_only ind s = pick ind (Err Undefined) (Ok s)

-- `10011111`, and no other
unfoldable pub address_only : ℕ → Bool → Result Shape Refusal
address_only rr ind = pick (eqb rr 0 && ind) (Ok Address) (Err Undefined)

-- the sheet's lines with bit 7 set, in its order: `1RRi` and the four bits that tell them apart
unfoldable pub high_of : ℕ → Bool → ℕ → Result Shape Refusal
high_of rr ind four =
    -- 1RRi0100, 1RRi1000, 1RRi1001: a constant offset from R, of no, 8 or 16 bits
    pick (eqb four 0x4) (Ok (NoOffset (X + rr) ind))
    (pick (eqb four 0x8) (Ok (OneByte (X + rr) ind))
    (pick (eqb four 0x9) (Ok (TwoBytes (X + rr) ind))
    -- 1RRi0110, 1RRi0101, 1RRi1011: an accumulator offset from R, by A, B or D
    (pick (eqb four 0x6) (Ok (Accumulator (X + rr) ind A))
    (pick (eqb four 0x5) (Ok (Accumulator (X + rr) ind B))
    (pick (eqb four 0xB) (Ok (Accumulator (X + rr) ind D))
    -- 1RR00000, 1RRi0001, 1RR00010, 1RRi0011: `,R+` `,R++` `,-R` `,--R`
    (pick (eqb four 0x0) (direct_only ind (Step (X + rr) ind 1))
    (pick (eqb four 0x1) (Ok (Step (X + rr) ind 2))
    (pick (eqb four 0x2) (direct_only ind (Step (X + rr) ind 3))
    (pick (eqb four 0x3) (Ok (Step (X + rr) ind 4))
    -- 1xxi1100, 1xxi1101: a constant offset from PC, of 8 or 16 bits; xx is "don't care", and 02 reads "all four register settings .. as the same PC form"
    (pick (eqb four 0xC) (Ok (CounterByte ind))
    (pick (eqb four 0xD) (Ok (CounterWord ind))
    -- 10011111: extended indirect
    (pick (eqb four 0xF) (address_only rr ind)
    (Err Undefined)))))))))))))

-- 0RRnnnnn: a constant offset from R, of 5 bits in two's complement; else a line with bit 7 set
unfoldable pub shape_of : ℕ → Result Shape Refusal
shape_of p =
    pick (ltb p 128)
    (Ok (FiveBits (X + p / 32 % 4) (extended 5 (p % 32))))
    (high_of (p / 32 % 4) (eqb (p / 16 % 2) 1) (p % 16))

-- the sheet's column of bytes after the postbyte
abbrev pub extra_of : Shape → ℕ
extra_of (NoOffset r ind) = 0
extra_of (FiveBits r n) = 0
extra_of (OneByte r ind) = 1
extra_of (TwoBytes r ind) = 2
extra_of (Accumulator r ind a) = 0
extra_of (Step r ind k) = 0
extra_of (CounterByte ind) = 1
extra_of (CounterWord ind) = 2
extra_of Address = 2

-- the offset is in two's complement, of the bytes b and c after the postbyte as many as belong to it, high byte first
abbrev pub fill_of : Shape → ℕ → ℕ → Addressing
fill_of (NoOffset r ind) b c = addressing.Offset r ind 0
fill_of (FiveBits r n) b c = addressing.Offset r false n
fill_of (OneByte r ind) b c = addressing.Offset r ind (extended 8 b)
fill_of (TwoBytes r ind) b c = addressing.Offset r ind (word b c)
fill_of (Accumulator r ind a) b c = addressing.Accumulator r ind a
fill_of (Step r ind k) b c = addressing.Step r ind k
fill_of (CounterByte ind) b c = addressing.Counter ind (extended 8 b)
fill_of (CounterWord ind) b c = addressing.Counter ind (word b c)
fill_of Address b c = addressing.Address (word b c)

-- what 01 tells of a postbyte: the kind of operand, as docs/ROWS.md numbers the kinds of meaning, the bits of its number, in the sheet's column of
-- forms, and what stands in the postbyte itself, a flag as 0 or 1
abbrev pub flag : Bool → ℕ
flag true = 1
flag false = 0

abbrev pub values_of_shape : Shape → List ℕ
values_of_shape (NoOffset r ind) = 7 ∷ 0 ∷ r ∷ flag ind ∷ []
values_of_shape (FiveBits r n) = 7 ∷ 5 ∷ r ∷ n ∷ []
values_of_shape (OneByte r ind) = 7 ∷ 8 ∷ r ∷ flag ind ∷ []
values_of_shape (TwoBytes r ind) = 7 ∷ 16 ∷ r ∷ flag ind ∷ []
values_of_shape (Accumulator r ind a) = 9 ∷ 0 ∷ r ∷ flag ind ∷ a ∷ []
values_of_shape (Step r ind k) = 10 ∷ 0 ∷ r ∷ flag ind ∷ k ∷ []
values_of_shape (CounterByte ind) = 8 ∷ 8 ∷ flag ind ∷ []
values_of_shape (CounterWord ind) = 8 ∷ 16 ∷ flag ind ∷ []
values_of_shape Address = 11 ∷ 16 ∷ []

-- the same of a postbyte with the bytes after it: the kind, and what it uses
abbrev pub values_of_addressing : Addressing → List ℕ
values_of_addressing (addressing.Offset r ind n) = 7 ∷ r ∷ flag ind ∷ n ∷ []
values_of_addressing (addressing.Counter ind n) = 8 ∷ flag ind ∷ n ∷ []
values_of_addressing (addressing.Accumulator r ind a) = 9 ∷ r ∷ flag ind ∷ a ∷ []
values_of_addressing (addressing.Step r ind k) = 10 ∷ r ∷ flag ind ∷ k ∷ []
values_of_addressing (addressing.Address a) = 11 ∷ a ∷ []
