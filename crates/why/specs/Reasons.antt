-- 02 a: why an accepted fresh instruction is as long as it is, over its record.
use Rattle.std.specs.Prelude.{ℕ, ◌+◌, ◌/◌, Bool, false, not, eqb}
use Rattle.ground.specs.Choice.{pick}
use Rattle.ground.specs.Words.{plus, minus}
use Rattle.values.specs.declared.pages.Page.{Page}
use Rattle.values.specs.declared.pages.Page.TheVariants.{Unknown, Known}
use Rattle.values.specs.Pages.{is_unknown}
use Rattle.values.specs.Widths.{sign_extended_of}
use Rattle.rows.specs.Forms.{indexed, extended, relative}
use Rattle.rows.specs.Lookup.{has_form_of, code_of}
use Rattle.rows.specs.Sizes.{of_code, number_size_of}
use Rattle.postbytes.specs.Registers.{PC}
use Rattle.postbytes.specs.Writing.{five_bits, near_of}
use Rattle.instruction.specs.declared.Operand.{Operand}
use Rattle.instruction.specs.declared.Values.{Values}
use Rattle.instruction.specs.declared.Record.{Record}
use Rattle.instruction.specs.Names.{mode_offset, mode_pc_relative, mode_extended}
use Rattle.instruction.specs.Choosing.{register_at, offset_value}
use Rattle.instruction.specs.Bytes.{code_size}
use Rattle.why.specs.declared.Reason.{Reason}
use Rattle.why.specs.declared.Reason.TheVariants.{Plain, Address, Branch, PcRelative, Offset}

-- ---- an address
-- "high byte not the page": under an unknown page there is none to differ from
abbrev pub elsewhere : Page → ℕ → Bool
elsewhere Unknown n = false
elsewhere (Known high) n = not (eqb high (n / 256))

-- the three facts of a record: forced to extended; "page unknown, high byte not the page"
abbrev pub is_forced : Record → Bool
is_forced r = r.operand.forced

abbrev pub is_page_unknown : Record → Bool
is_page_unknown r = is_unknown r.page

abbrev pub is_elsewhere : Record → Bool
is_elsewhere r = elsewhere r.page r.values.unsigned.number

unfoldable pub address_reason : Record → Reason
address_reason r = Address (is_forced r) (is_page_unknown r) (is_elsewhere r)

-- ---- a distance
-- the bytes of an operation's code in a form, its prefix among them
unfoldable pub code_bytes : ℕ → ℕ → ℕ
code_bytes o form = of_code (λ page code. code_size page) (code_of o form)

-- "For a branch it names the distance": from the end of the record's own operation, so of a short branch that is made long from the end of the short one, which decided
unfoldable pub branch_distance : Record → ℕ → ℕ
branch_distance r address =
    minus r.values.unsigned.number
    (plus address (code_bytes r.operand.operation relative + number_size_of r.operand.operation relative))

-- "PCRelative: distance from the end of the one-byte form": the code, the postbyte and one byte
unfoldable pub relative_distance : Record → ℕ → ℕ
relative_distance r address = minus r.values.unsigned.number (plus (plus address (code_bytes r.operand.operation indexed)) 2)

-- "and whether it lies in -128..127"
unfoldable pub branch_reason : Record → ℕ → Reason
branch_reason r address = Branch (branch_distance r address) (near_of (branch_distance r address))

unfoldable pub relative_reason : Record → ℕ → Reason
relative_reason r address = PcRelative (relative_distance r address) (near_of (relative_distance r address))

-- ---- an offset
-- the number of an offset, sign-extended
unfoldable pub offset_number : Values → ℕ
offset_number v = (sign_extended_of (offset_value v)).number

-- "for an offset, zero, five-bit, or its width": as 01's "Index postbytes" has them; on PC "by width, zero included"
unfoldable pub offset_bits : Operand → Values → ℕ
offset_bits o v =
    pick (eqb (register_at o 0) PC) (offset_value v).width
    (pick (eqb (offset_number v) 0) 0
    (pick (five_bits o.indirect (offset_number v)) 5 (offset_value v).width))

unfoldable pub offset_reason : Record → Reason
offset_reason r = Offset (offset_number r.values) (offset_bits r.operand r.values)

-- ---- by the parser's mode
-- "an accepted fresh operand in Extended mode, not indirect, on a row with Extended"; a branch is one on a row with Relative
unfoldable pub extended_reason : Record → ℕ → Reason
extended_reason r address =
    pick r.operand.indirect Plain
    (pick (has_form_of r.operand.operation extended) (address_reason r)
    (pick (has_form_of r.operand.operation relative) (branch_reason r address) Plain))

unfoldable pub reason_for : Record → ℕ → Reason
reason_for r address =
    pick (eqb r.operand.mode mode_extended) (extended_reason r address)
    (pick (eqb r.operand.mode mode_pc_relative) (relative_reason r address)
    (pick (eqb r.operand.mode mode_offset) (offset_reason r) Plain))
