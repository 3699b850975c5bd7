-- 01, "Meaning": what an accepted instruction means, "taken from its record, its address and the form and size chosen"; never from its bytes, and not
-- from what the choosing made of the record's numbers.
use Rattle.std.specs.Prelude.{ℕ, ◌&&◌, ◌||◌, eqb, get_or, take}
use Rattle.ground.specs.Choice.{pick}
use Rattle.ground.specs.Words.{plus}
use Rattle.values.specs.Widths.{sign_extended_of}
use Rattle.rows.specs.Forms.{inherent, immediate, direct, indexed, extended, relative}
use Rattle.rows.specs.Lookup.{merged_of}
use Rattle.rows.specs.Sizes.{long_of}
use Rattle.postbytes.specs.Registers.{PC}
use Rattle.postbytes.specs.Meanings.{set_of}
use Rattle.decoder.specs.declared.Kind.{Kind}
use Rattle.decoder.specs.declared.Kind.TheVariants.{Inherent, Immediate, Memory, Branch, Push, Pair, Offset, Counter, Accumulator, Step, Address}
use Rattle.decoder.specs.declared.Meaning.{Meaning}
use Rattle.instruction.specs.declared.Operand.{Operand}
use Rattle.instruction.specs.declared.Values.{Values}
use Rattle.instruction.specs.declared.Instruction.{Instruction}
use Rattle.instruction.specs.Names.{mode_register, mode_offset, mode_pc_relative, mode_inc_dec, exg, tfr}

-- the first register that the record names, and the second
abbrev pub first : Operand → ℕ
first o = get_or o.registers 0 0

abbrev pub second : Operand → ℕ
second o = get_or o.registers 1 0

-- offsets read the signed evaluation, "five-bit and one-byte offsets sign-extended"; "A missing value is an 8-bit zero, on PC too"
unfoldable pub offset_in : Values → ℕ
offset_in v = pick v.given (sign_extended_of v.signed).number 0

-- "every PC form .. has its target modulo 65536 as its number": an offset from PC counts from the end of the instruction
unfoldable pub offset_kind : Operand → Values → ℕ → Kind
offset_kind o v end =
    pick (eqb (first o) PC)
    (Counter o.indirect (plus end (offset_in v)))
    (Offset (first o) o.indirect (offset_in v))

-- "offset from PC and PCRelative are one kind"; the last is extended indirect
unfoldable pub index_kind : Operand → Values → ℕ → Kind
index_kind o v end =
    pick (eqb o.mode mode_register) (Accumulator (second o) o.indirect (first o))
    (pick (eqb o.mode mode_offset) (offset_kind o v end)
    (pick (eqb o.mode mode_pc_relative) (Counter o.indirect v.unsigned.number)
    (pick (eqb o.mode mode_inc_dec) (Step (first o) o.indirect o.step)
    (Address v.unsigned.number))))

-- "registers (a set for pushes)"; EXG and TFR have a source and a destination
unfoldable pub list_kind : Operand → Kind
list_kind o =
    pick (eqb o.operation exg || eqb o.operation tfr)
    (Pair (first o) (second o))
    (Push (set_of (take o.count o.registers)))

-- "Direct and extended are one kind with the 16-bit address"; "every .. branch has its target"
unfoldable pub kind_of : ℕ → Operand → Values → ℕ → Kind
kind_of form o v end =
    pick (eqb form inherent) Inherent
    (pick (eqb form immediate) (Immediate v.unsigned.number)
    (pick (eqb form direct) (Memory v.unsigned.number)
    (pick (eqb form extended) (Memory v.unsigned.number)
    (pick (eqb form indexed) (index_kind o v end)
    (pick (eqb form relative) (Branch v.unsigned.number) (list_kind o))))))

-- "Operation (aliases are one, a widened branch is its long one)"
unfoldable pub operation_of : Instruction → ℕ
operation_of i =
    pick (eqb i.form relative && i.widened) (long_of i.operand.operation) (merged_of i.operand.operation)

-- of an instruction as its build handed it back, with the values, the address and the size of that build
unfoldable pub meaning_of : Instruction → Values → ℕ → ℕ → Meaning
meaning_of i v address size =
    record { operation = operation_of i; kind = kind_of i.form i.operand v (plus address size) }
