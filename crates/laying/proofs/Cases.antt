-- 01's section "Cases, all proved", laid as one list, and the boundaries of each refusal of laying, under a single statement.
-- Assumes nothing.
use mathlib.Core.Path.{◌≡◌, refl}
use mathlib.Core.List.{List, [], ◌∷◌, ◌++◌, map}
use Prim.Native.Nat.{ℕ}
use lib.ListN.{replicate}
use Rattle.std.specs.Prelude.{Result, Ok, Err}
use Rattle.ground.specs.Choice.{pick}
use Rattle.ground.specs.declared.refusals.Refusal.{Refusal}
use Rattle.ground.specs.declared.refusals.Refusal.TheVariants.{Unknown, BadRegister, SingleStepIndirect, BranchTooFar, NoRoom, OverLimit, Beyond}
use Rattle.values.specs.Widths.{bits_of, extended, valid_of, sign_extended_of}
use Rattle.values.specs.Pages.{is_page, page_numbered}
use Rattle.rows.specs.Sheet.{page0, page10, page11, table_of}
use Rattle.rows.specs.Lookup.{merged_of, placed, has_form_of, known_of, code_of}
use Rattle.rows.specs.Sizes.{is_wide, is_long, number_at, number_size_of, long_from, long_of}
use Rattle.postbytes.specs.Registers.{X, Y, U, S, PC}
use Rattle.postbytes.specs.Lists.{any_unknown, strange_list, among}
use Rattle.postbytes.specs.Writing.{marked, sized_of, constant_of, offset_of, relative_of}
use Rattle.instruction.specs.Names.{mode_offset, mode_pc_relative, mode_inc_dec, mode_extended, mode_inherent}
use Rattle.instruction.specs.Records.{stepped, recognised, narrower, agreeing, lawful, sound}
use Rattle.instruction.specs.Forms.{becomes_direct, extended_form, register_form, form_of, strays, lacks, needs_value}
use Rattle.instruction.specs.Choosing.{inherent_of, anew_as, anew_of, address_of, long_branch, branch_of, accumulator_index, offset_value, offset_index, target_index, step_index, index_of, choose_of}
use Rattle.instruction.specs.Bytes.{number_bytes, operand_bytes, code_size, behind_code, laid_at, laid_of}
use Rattle.instruction.specs.Building.{instruction_of, made_as, make_of, early_of, dirties_of, accepted_of, tried_of, fresh_of}
use Rattle.entries.specs.Entries.{byte_in, is_flag, flag_in, is_page_in, page_in, flagged_in, registers_in, fields_in, told_in, value_in, values_in, all_flagged, entry_of}
use Rattle.laying.specs.Entries.{entry_at, rows_in, entries_from, entries_of}
use Rattle.laying.specs.Laying.{built_at, lay_from, lay_of}

-- ---- rows
-- a row with no step, no forced form, widening allowed, and at most one register: operation, mode, indirect, page, count, register; then whether
-- values are given, the unsigned one with its width, the signed one with its width
abbrev row : (o mode ind page count r given u uw s sw : ℕ) → List ℕ
row o mode ind page count r given u uw s sw =
    o ∷ mode ∷ ind ∷ 0 ∷ 0 ∷ 1 ∷ count ∷ r ∷ 0 ∷ 0 ∷ 0 ∷ 0 ∷ 0 ∷ 0 ∷ 0 ∷ page ∷ given ∷ u ∷ uw ∷ s ∷ sw ∷ []

-- operations by number (docs/ROWS.md)
abbrev lda : ℕ
lda = 54

abbrev bra : ℕ
bra = 80

-- `LDA` with an offset on a register; to a target from PC
abbrev offset : (r ind u uw s sw : ℕ) → List ℕ
offset r ind u uw s sw = row lda mode_offset ind 0 1 r 1 u uw s sw

abbrev counter : ℕ → List ℕ
counter target = row lda mode_pc_relative 0 0 1 PC 1 target 16 target 16

abbrev branch : ℕ → List ℕ
branch target = row bra mode_extended 0 0 0 0 1 target 16 target 16

-- `BRA` that may not be made long
abbrev short : ℕ → List ℕ
short target =
    bra ∷ mode_extended ∷ 0 ∷ 0 ∷ 0 ∷ 0 ∷ 0 ∷ 0 ∷ 0 ∷ 0 ∷ 0 ∷ 0 ∷ 0 ∷ 0 ∷ 0 ∷ 0 ∷ 1 ∷ target ∷ 16 ∷ target ∷ 16 ∷ []

abbrev memory : (page address : ℕ) → List ℕ
memory page address = row lda mode_extended 0 page 0 0 1 address 8 address 16

abbrev nop : List ℕ
nop = row 124 mode_inherent 0 0 0 0 0 0 0 0 0

-- `LDA` [,X+]
abbrev stepped_indirect : List ℕ
stepped_indirect =
    lda ∷ mode_inc_dec ∷ 1 ∷ 0 ∷ 1 ∷ 1 ∷ 1 ∷ X ∷ 0 ∷ 0 ∷ 0 ∷ 0 ∷ 0 ∷ 0 ∷ 0 ∷ 0 ∷ 0 ∷ 0 ∷ 0 ∷ 0 ∷ 0 ∷ []

abbrev joined : List (List ℕ) → List ℕ
joined [] = []
joined (l ∷ ls) = l ++ joined ls

-- ---- 01's cases, end to end from 0100
-- `LDA` t,PCR at 0100 and at 0103 and `BRA` at 0107, 0109, 010C and 010E are as far from their targets as 01's are from 0100
-- then `LDA` 0,X; 15,Y; 8-bit 16,Y; -16,U; 8-bit -17,U; 16-bit 128,S; 8-bit [5,X]; `LDA $FF` under page 0, and with the page unknown
abbrev all : List ℕ
all =
    joined
    (counter 0x0182
    ∷ counter 0x0186
    ∷ branch 0x0188
    ∷ branch 0x018B
    ∷ branch 0x008E
    ∷ branch 0x008F
    ∷ offset X 0 0 8 0 8
    ∷ offset Y 0 15 8 15 8
    ∷ offset Y 0 16 8 16 8
    ∷ offset U 0 0xFFF0 16 0xF0 8
    ∷ offset U 0 0xFFEF 16 0xEF 8
    ∷ offset S 0 128 8 128 16
    ∷ offset X 1 5 8 5 8
    ∷ memory 0 0xFF
    ∷ memory 256 0xFF
    ∷ [])

abbrev all_laid : List ℕ
all_laid =
    joined
    ((0xA6 ∷ 0x8C ∷ 0x7F ∷ [])
    ∷ (0xA6 ∷ 0x8D ∷ 0x00 ∷ 0x7F ∷ [])
    ∷ (0x20 ∷ 0x7F ∷ [])
    ∷ (0x16 ∷ 0x00 ∷ 0x7F ∷ [])
    ∷ (0x20 ∷ 0x80 ∷ [])
    ∷ (0x16 ∷ 0xFF ∷ 0x7E ∷ [])
    ∷ (0xA6 ∷ 0x84 ∷ [])
    ∷ (0xA6 ∷ 0x2F ∷ [])
    ∷ (0xA6 ∷ 0xA8 ∷ 0x10 ∷ [])
    ∷ (0xA6 ∷ 0x50 ∷ [])
    ∷ (0xA6 ∷ 0xC8 ∷ 0xEF ∷ [])
    ∷ (0xA6 ∷ 0xE9 ∷ 0x00 ∷ 0x80 ∷ [])
    ∷ (0xA6 ∷ 0x98 ∷ 0x05 ∷ [])
    ∷ (0x96 ∷ 0xFF ∷ [])
    ∷ (0xB6 ∷ 0x00 ∷ 0xFF ∷ [])
    ∷ [])

-- ---- questions
pub data Question : Type 0 where
  lay : (list : List ℕ) (address room : ℕ) → Question

abbrev ask : Question → Result (List ℕ) Refusal
ask (lay list address room) = lay_of list address room

abbrev asked : List Question
asked =
    -- 01's cases in a buffer just long enough, and one byte shorter; with the one that is refused after them
    lay all 0x0100 41
    ∷ lay all 0x0100 40
    ∷ lay (all ++ stepped_indirect) 0x0100 41
    -- those of an address, alone at 0100
    ∷ lay (counter 0x0183) 0x0100 4
    ∷ lay (branch 0x0181) 0x0100 2
    ∷ lay (branch 0x0182) 0x0100 3
    ∷ lay (branch 0x0082) 0x0100 2
    ∷ lay (branch 0x0081) 0x0100 3
    -- a list that ends at 65536, and one that goes on there; an earlier 9 before a later 18; within one instruction 18 before 9
    ∷ lay nop 0xFFFF 1
    ∷ lay (nop ++ nop) 0xFFFF 1
    ∷ lay (nop ++ nop) 0xFFFF 0
    ∷ lay (branch 0x0000) 0xFFFF 0
    -- at 65536, what its own build refuses as at 0 comes before 18; a branch there that is near to 0 is only beyond
    ∷ lay (nop ++ stepped_indirect) 0xFFFF 1
    ∷ lay (nop ++ short 0x0082) 0xFFFF 1
    ∷ lay (nop ++ short 0x0081) 0xFFFF 1
    -- a flag that is 2, an operation that is 310, and 20 numbers, which are no row
    ∷ lay (offset X 2 0 8 0 8) 0x0100 2
    ∷ lay (row 310 mode_inherent 0 0 0 0 0 0 0 0 0) 0x0100 1
    ∷ lay (replicate 20 0) 0x0100 0
    -- 1,025 rows, and 1,024, the first of which is refused
    ∷ lay (replicate 21525 0) 0 0
    ∷ lay (replicate 21524 0) 0 0
    ∷ []

abbrev answered : List (Result (List ℕ) Refusal)
answered =
    Ok all_laid
    ∷ Err NoRoom
    ∷ Err SingleStepIndirect
    ∷ Ok (0xA6 ∷ 0x8D ∷ 0x00 ∷ 0x7F ∷ [])
    ∷ Ok (0x20 ∷ 0x7F ∷ [])
    ∷ Ok (0x16 ∷ 0x00 ∷ 0x7F ∷ [])
    ∷ Ok (0x20 ∷ 0x80 ∷ [])
    ∷ Ok (0x16 ∷ 0xFF ∷ 0x7E ∷ [])
    ∷ Ok (0x12 ∷ [])
    ∷ Err Beyond
    ∷ Err NoRoom
    ∷ Err Beyond
    ∷ Err SingleStepIndirect
    ∷ Err BranchTooFar
    ∷ Err Beyond
    ∷ Err Unknown
    ∷ Err Unknown
    ∷ Ok []
    ∷ Err OverLimit
    ∷ Err BadRegister
    ∷ []

pub cases : map ask asked ≡ answered
unfolding pick bits_of extended valid_of sign_extended_of is_page page_numbered table_of page0 page10 page11 merged_of placed has_form_of known_of code_of is_wide is_long number_at number_size_of long_from long_of any_unknown strange_list among marked sized_of constant_of offset_of relative_of stepped recognised narrower agreeing lawful sound becomes_direct extended_form register_form form_of strays lacks needs_value inherent_of anew_as anew_of address_of long_branch branch_of accumulator_index offset_value offset_index target_index step_index index_of choose_of number_bytes operand_bytes code_size behind_code laid_at laid_of instruction_of made_as make_of early_of dirties_of accepted_of tried_of fresh_of byte_in is_flag flag_in is_page_in page_in flagged_in registers_in fields_in told_in value_in values_in all_flagged entry_of entry_at rows_in entries_from entries_of built_at lay_from lay_of
cases = refl
