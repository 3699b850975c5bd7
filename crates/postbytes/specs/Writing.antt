-- 01, "Index postbytes": an indexed operand, written.
use Rattle.std.specs.Prelude.{ℕ, ◌+◌, ◌-◌, ◌*◌, ◌%◌, Bool, ◌&&◌, ◌||◌, not, List, [], ◌∷◌, eqb, ltb, leb, take, Result, Ok, Err}
use Rattle.ground.specs.Choice.{pick}
use Rattle.ground.specs.declared.refusals.Refusal.{Refusal}
use Rattle.ground.specs.declared.refusals.Refusal.TheVariants.{Unknown, BadRegister, SingleStepIndirect}
use Rattle.ground.specs.Words.{plus, minus, high, low}
use Rattle.values.specs.declared.Value.{Value}
use Rattle.values.specs.Widths.{valid_of, sign_extended_of}
use Rattle.postbytes.specs.declared.Encoded.{Encoded}
use Rattle.postbytes.specs.declared.Index.{Index}
use Rattle.postbytes.specs.declared.Index.TheVariants.{Offset, Counter, Accumulator, Step, Address}
use Rattle.postbytes.specs.Registers.{A, B, X, unknown_register, unknown_step, not_indexing, not_accumulator}

-- a postbyte alone, with one byte, and with a number in two bytes
abbrev pub alone : ℕ → Encoded
alone p = record { bytes = p ∷ 0 ∷ 0 ∷ []; length = 1 }

abbrev pub with_byte : ℕ → ℕ → Encoded
with_byte p b = record { bytes = p ∷ b ∷ 0 ∷ []; length = 2 }

abbrev pub with_word : ℕ → ℕ → Encoded
with_word p n = record { bytes = p ∷ high n ∷ low n ∷ []; length = 3 }

-- the bytes that were written
abbrev pub written : Encoded → List ℕ
written e = take e.length e.bytes

-- "Register bits: X 00, Y 20, U 40, S 60."
abbrev pub register_bits : ℕ → ℕ
register_bits r = (r - X) * 0x20

-- "Indirect adds 10."
unfoldable pub marked : Bool → ℕ → ℕ
marked ind p = pick ind (p + 0x10) p

-- "Not indirect and -16..15"
abbrev pub five_bits : Bool → ℕ → Bool
five_bits ind n = not ind && (ltb n 16 || leb 0xFFF0 n)

-- "one byte for an 8-bit value", "two bytes for a 16-bit one", each with its own postbyte
unfoldable pub sized_of : ℕ → ℕ → ℕ → ℕ → Encoded
sized_of p q width n = pick (eqb width 8) (with_byte p (low n)) (with_word q n)

-- "from the signed value: zero gives 84 plus register. Not indirect and -16..15: bit 7 clear, five bits.
-- Otherwise 88 and one byte for an 8-bit value, 89 and two bytes for a 16-bit one."
unfoldable pub constant_of : ℕ → Bool → ℕ → ℕ → Encoded
constant_of r ind width n =
    pick (eqb n 0) (alone (marked ind (0x84 + register_bits r)))
    (pick (five_bits ind n) (alone (n % 32 + register_bits r))
    (sized_of (marked ind (0x88 + register_bits r)) (marked ind (0x89 + register_bits r)) width n))

-- "Constant offset on X, Y, U, S"
unfoldable pub offset_of : ℕ → Bool → Value → Result Encoded Refusal
offset_of r ind v =
    pick (unknown_register r || not (valid_of v)) (Err Unknown)
    (pick (not_indexing r) (Err BadRegister)
    (Ok (constant_of r ind v.width (sign_extended_of v).number)))

-- "Offset from PC: 8C or 8D by width, zero included."
unfoldable pub counter_of : Bool → Value → Result Encoded Refusal
counter_of ind v =
    pick (not (valid_of v)) (Err Unknown)
    (Ok (sized_of (marked ind 0x8C) (marked ind 0x8D) v.width (sign_extended_of v).number))

-- "Accumulator: A 86, B 85, D 8B."
unfoldable pub accumulator_base : ℕ → ℕ
accumulator_base a = pick (eqb a A) 0x86 (pick (eqb a B) 0x85 0x8B)

unfoldable pub accumulator_of : ℕ → Bool → ℕ → Result Encoded Refusal
accumulator_of r ind a =
    pick (unknown_register r || unknown_register a) (Err Unknown)
    (pick (not_indexing r || not_accumulator a) (Err BadRegister)
    (Ok (alone (marked ind (accumulator_base a + register_bits r)))))

-- "Steps: `,R+` 80, `,R++` 81, `,-R` 82, `,--R` 83.": step k is 7F + k. The two single steps have no indirect form.
unfoldable pub step_of : ℕ → Bool → ℕ → Result Encoded Refusal
step_of r ind k =
    pick (unknown_register r || unknown_step k) (Err Unknown)
    (pick (ind && (eqb k 1 || eqb k 3)) (Err SingleStepIndirect)
    (pick (not_indexing r) (Err BadRegister)
    (Ok (alone (marked ind (0x7F + k + register_bits r))))))

abbrev pub encode_of : Index → Result Encoded Refusal
encode_of (Offset r ind v) = offset_of r ind v
encode_of (Counter ind v) = counter_of ind v
encode_of (Accumulator r ind a) = accumulator_of r ind a
encode_of (Step r ind k) = step_of r ind k
-- "Extended indirect: 9F and the address."
encode_of (Address address) = Ok (with_word 0x9F address)

-- "within -128..127"
abbrev pub near_of : ℕ → Bool
near_of d = ltb d 128 || leb 0xFF80 d

-- "PCRelative: distance from the end of the one-byte form; within -128..127 it is 8C, else 8D with the distance from the end of the
-- two-byte form." The postbyte stands at `after`, so the forms end 2 and 3 bytes later.
unfoldable pub relative_of : ℕ → ℕ → Bool → Encoded
relative_of target after ind =
    pick (near_of (minus target (plus after 2)))
    (with_byte (marked ind 0x8C) (low (minus target (plus after 2))))
    (with_word (marked ind 0x8D) (minus target (plus after 3)))
