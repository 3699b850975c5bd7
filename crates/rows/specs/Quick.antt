-- The quick ways that the code takes. Nothing here has to be believed: proofs/Quick.antt and proofs/Bytes.antt show that they come to what
-- Lookup.antt and Sizes.antt define.
use Rattle.std.specs.Prelude.{ℕ, ◌+◌, ◌-◌, ◌*◌, ◌/◌, ◌%◌, ◌^◌, Bool, ◌&&◌, ◌||◌, not, List, [], ◌∷◌, Option, Some, None, Result, Err, eqb, leb, ltb, get_or, slice_get}
use Rattle.ground.specs.Choice.{pick}
use Rattle.ground.specs.declared.refusals.Refusal.{Refusal}
use Rattle.ground.specs.declared.refusals.Refusal.TheVariants.{NoSuchMode, Undefined}
use Rattle.rows.specs.declared.Code.{Code}
use Rattle.rows.specs.declared.Named.{Named}
use Rattle.rows.specs.Forms.{inherent, immediate, indexed, register}
use Rattle.rows.specs.Sheet.{table_of}
use Rattle.rows.specs.Lookup.{on_page, in_form}
use Rattle.rows.specs.Sizes.{between}

-- what is found, if it is a row of that operation
abbrev pub of_operation : ℕ → Option ℕ → Option ℕ
of_operation o (Some row) = pick (eqb (row % 256) o) (Some row) None
of_operation o None = None

-- a line has a hexadecimal digit for each of sixteen cases, the left digit for the first
unfoldable pub digit_of : ℕ → ℕ → ℕ
digit_of line case = line / 2 ^ (60 - 4 * (case % 16)) % 16

-- the forms of codes, a line for each sixteen; 7 is none
abbrev pub form_lines : List ℕ
form_lines =
    0x2772_2722_2227_2222 ∷
    0x7700_7755_7017_1066 ∷
    0x5555_5555_5555_5555 ∷
    0x3333_6666_7000_1070 ∷
    0x0770_0700_0007_0070 ∷
    0x0770_0700_0007_0070 ∷
    0x3773_3733_3337_3333 ∷
    0x4774_4744_4447_4444 ∷
    0x1111_1117_1111_1517 ∷
    0x2222_2222_2222_2222 ∷
    0x3333_3333_3333_3333 ∷
    0x4444_4444_4444_4444 ∷
    0x1111_1117_1111_1717 ∷
    0x2222_2222_2222_2222 ∷
    0x3333_3333_3333_3333 ∷
    0x4444_4444_4444_4444 ∷
    []

unfoldable pub form_of : ℕ → ℕ
form_of code = digit_of (get_or form_lines (code / 16) 0) code

-- on page 0, the place from which the rows of a sixteen stand in their table, and how many places on a code has its row. F where there is no row,
-- and at 8D, which stands at 18 among the branches
abbrev pub firsts : List ℕ
firsts = 0 ∷ 0 ∷ 2 ∷ 0 ∷ 9 ∷ 20 ∷ 4 ∷ 0 ∷ 3 ∷ 12 ∷ 16 ∷ 12 ∷ 16 ∷ 28 ∷ 32 ∷ 28 ∷ []

abbrev pub step_lines : List ℕ
step_lines =
    0x0FF1_2F34_567F_89AB ∷
    0xFF01_FF01_F20F_1301 ∷
    0x0123_4567_89AB_CDEF ∷
    0x0123_2345_F456_27F8 ∷
    0x0FF1_2F34_567F_89FA ∷
    0x0FF1_2F34_567F_89FA ∷
    0x0FF1_2F34_567F_89AB ∷
    0x0FF1_2F34_567F_89AB ∷
    0x0123_456F_789A_BFCF ∷
    0x0123_4567_89AB_CDEF ∷
    0x0123_4567_89AB_CDEF ∷
    0x0123_4567_89AB_CDEF ∷
    0x0123_456F_789A_BFCF ∷
    0x0123_4567_89AB_CDEF ∷
    0x0123_4567_89AB_CDEF ∷
    0x0123_4567_89AB_CDEF ∷
    []

unfoldable pub place_on_page0 : ℕ → ℕ
place_on_page0 code = get_or firsts (code / 16) 0 + digit_of (get_or step_lines (code / 16) 0) code

-- on the other pages, the place itself; F, past the end of every table, where there is no row
abbrev pub prefixed_lines : List ℕ
prefixed_lines =
    0xFFFF_FFFF_FFFF_FFFF ∷
    0xFFFF_FFFF_FFFF_FFFF ∷
    0xF012_3456_789A_BCDE ∷
    0xFFFF_FFFF_FFFF_FFF0 ∷
    0xFFFF_FFFF_FFFF_FFFF ∷
    0xFFFF_FFFF_FFFF_FFFF ∷
    0xFFFF_FFFF_FFFF_FFFF ∷
    0xFFFF_FFFF_FFFF_FFFF ∷
    0xFFF0_FFFF_FFFF_1F2F ∷
    0xFFF0_FFFF_FFFF_1F23 ∷
    0xFFF0_FFFF_FFFF_1F23 ∷
    0xFFF0_FFFF_FFFF_1F23 ∷
    0xFFFF_FFFF_FFFF_FF3F ∷
    0xFFFF_FFFF_FFFF_FF45 ∷
    0xFFFF_FFFF_FFFF_FF45 ∷
    0xFFFF_FFFF_FFFF_FF45 ∷
    []

unfoldable pub place_of_code : ℕ → ℕ → ℕ
place_of_code page code = pick (eqb page 0x00) (place_on_page0 code) (digit_of (get_or prefixed_lines (code / 16) 0) code)

-- the sixteen in which an operation below 96 has its code, a digit for each form
unfoldable pub sixteen_line : ℕ → ℕ
sixteen_line o =
    pick (eqb (o / 16) 0) 0x0006_7000_0000_0000
    (pick (eqb (o / 16) 1) 0x4000_0000_0000_0000
    (pick (eqb (o / 16) 2) 0x5000_0000_0000_0000
    (pick (eqb (o / 16) 3) 0x089A_B000_0000_0000
    (pick (eqb (o / 16) 4) 0x0CDE_F000_0000_0000 0x0000_0200_0000_0000))))

unfoldable pub regular_code : ℕ → ℕ → ℕ
regular_code o form = 16 * digit_of (sixteen_line o) form + o % 16

-- the places of the operations from 96 on, but of BSR, which stands at 18, and of LDS, which stands at 3 among the immediates
unfoldable pub other_line : ℕ → ℕ
other_line o =
    pick (eqb (o / 16) 6) 0x0012_3456_789A_BCDE
    (pick (eqb (o / 16) 7) 0x1F01_2435_0010_0123
    (pick (eqb (o / 16) 8) 0x4567_8012_0123_4501 0x2300_0000_0000_0000))

unfoldable pub place_of_operation : ℕ → ℕ → ℕ
place_of_operation o form =
    pick (ltb o 96) (place_on_page0 (regular_code o form))
    (pick (eqb o 113) 18
    (pick (eqb o 117 && eqb form immediate) 3
    (digit_of (other_line o) o)))

-- the page of an operation that is no alias
unfoldable pub page_of : ℕ → ℕ
page_of o =
    pick (between 97 111 o || between 114 120 o) 0x10
    (pick (between 121 123 o) 0x11 0x00)

-- a row by its code, in the one table of its form
unfoldable pub quick_row : ℕ → ℕ → Result Named Refusal
quick_row page code = in_form (form_of code) (slice_get (table_of page (form_of code)) (place_of_code page code)) (Err Undefined)

-- a code by its operation, in the one table of its page
unfoldable pub quick_on : ℕ → ℕ → Result Code Refusal
quick_on o form = on_page (page_of o) (of_operation o (slice_get (table_of (page_of o) form) (place_of_operation o form))) (Err NoSuchMode)

-- the number that stands after an operation's codes, a digit for each operation: its right two bits are the bytes of an immediate; its left two bits are 1
-- where there is an address, 2 for a branch's distance and 3 for a long branch's
unfoldable pub number_line : ℕ → ℕ
number_line o =
    pick (eqb (o / 16) 0) 0x4004_4044_4440_4444
    (pick (eqb (o / 16) 3) 0x5556_5554_5555_6464
    (pick (eqb (o / 16) 4) 0x5556_5554_5555_6464
    (pick (eqb (o / 16) 5) 0x8888_8888_8888_8888
    (pick (eqb (o / 16) 6) 0xCCCC_CCCC_CCCC_CCCC
    (pick (eqb (o / 16) 7) 0xC866_6644_0660_0000
    (pick (eqb (o / 16) 8) 0x0000_0111_0000_0000
    (pick (eqb (o / 16) 9) 0x0040_088C_C000_0000 0)))))))

unfoldable pub number_digit : ℕ → ℕ
number_digit o = digit_of (number_line o) o

-- the bytes of a number in a form, by the digit
unfoldable pub number_bytes : ℕ → ℕ → ℕ
number_bytes told form =
    pick (eqb form 1) (told % 4)
    (pick (eqb form 2) (pick (eqb (told / 4) 1) 1 0)
    (pick (eqb form 4) (pick (eqb (told / 4) 1) 2 0)
    (pick (eqb form 5) (pick (leb 2 (told / 4)) (told / 4 - 1) 0) 0)))

-- the least bytes of any row but its code, by the operation's number
unfoldable pub operand_bytes : ℕ → ℕ
operand_bytes o = pick (between 16 47 o || (eqb o 120 || between 123 132 o)) 0 (pick (between 96 112 o) 2 1)

-- whether a known operation that is no alias has a form: if the form has bytes for it, or for an inherent row none; what has a direct form has an indexed
-- one, as LEAX to LEAU, from 142 on, have; the registers' rows are 136 to 141
unfoldable pub formed_of : ℕ → ℕ → Bool
formed_of o form =
    pick (eqb form inherent) (eqb (operand_bytes o) 0)
    (pick (eqb form indexed) (eqb (number_digit o / 4) 1 || leb 142 o)
    (pick (eqb form register) (between 136 141 o)
    (not (eqb (number_bytes (number_digit o) form) 0))))

unfoldable pub row_bytes : ℕ → ℕ
row_bytes o = pick (eqb (page_of o) 0x00) 1 2 + operand_bytes o
