-- Cases of 02 a, of the definitions, under one statement: what is told of a row at 0100.
-- Assumes nothing.
use mathlib.Core.Path.{◌≡◌, refl}
use mathlib.Core.Bool.{true, false}
use mathlib.Core.List.{List, [], ◌∷◌, map}
use Prim.Native.Nat.{ℕ}
use Rattle.ground.specs.Choice.{pick}
use Rattle.values.specs.Pages.{is_page, page_numbered}
use Rattle.values.specs.Widths.{bits_of, extended, valid_of, sign_extended_of}
use Rattle.rows.specs.Sheet.{page0, page10, page11, table_of}
use Rattle.rows.specs.Lookup.{merged_of, placed, has_form_of, known_of, code_of}
use Rattle.rows.specs.Sizes.{is_wide, is_long, number_at, number_size_of, long_from, long_of}
use Rattle.postbytes.specs.Lists.{any_unknown, strange_list}
use Rattle.postbytes.specs.Writing.{marked, sized_of, constant_of, offset_of, counter_of, relative_of}
use Rattle.instruction.specs.Names.{mode_offset, mode_pc_relative, mode_inc_dec, mode_extended, mode_direct, mode_immediate, mode_inherent}
use Rattle.instruction.specs.Records.{stepped, recognised, narrower, agreeing, lawful, sound}
use Rattle.instruction.specs.Forms.{becomes_direct, extended_form, form_of, strays, lacks, needs_value}
use Rattle.instruction.specs.Choosing.{inherent_of, immediate_of, forced_wide, leaves_direct, stays_direct, directly_of, anew_as, anew_of, address_of, long_branch, branch_of, offset_value, offset_index, target_index, step_index, address_index, index_of, choose_of}
use Rattle.instruction.specs.Bytes.{number_bytes, operand_bytes, code_size, behind_code, laid_at, laid_of}
use Rattle.instruction.specs.Building.{instruction_of, made_as, make_of, early_of, dirties_of, accepted_of, tried_of, fresh_of, told, bytes_told}
use Rattle.entries.specs.Entries.{byte_in, is_flag, flag_in, is_page_in, page_in, flagged_in, registers_in, fields_in, told_in, value_in, values_in, all_flagged, entry_of}
use Rattle.why.specs.declared.Reason.{Reason}
use Rattle.why.specs.declared.Reason.TheVariants.{Plain, Address, Branch, PcRelative, Offset, Refused}
use Rattle.why.specs.declared.Field.TheVariants.{Operation, Mode, Indirect, Forced, Step, Widening, Registers, Page, Values}
use Rattle.why.specs.declared.Explained.{Explained}
use Rattle.why.specs.Fields.{if_wrong, first_wrong, page_or_values, field_of}
use Rattle.why.specs.Reasons.{address_reason, code_bytes, branch_distance, relative_distance, branch_reason, relative_reason, offset_number, offset_bits, offset_reason, extended_reason, reason_for}
use Rattle.why.specs.Explaining.{explained_of}

-- ---- what is told: the refusal, the bytes, the reason
pub record Telling : Type 0 where
  pub refusal : ℕ
  pub bytes : List ℕ
  pub reason : Reason

abbrev tells : List ℕ → Reason → Telling
tells bytes reason = record { refusal = 0; bytes = bytes; reason = reason }

abbrev refuses : ℕ → Reason → Telling
refuses n reason = record { refusal = n; bytes = []; reason = reason }

abbrev of_explained : Explained → Telling
of_explained e = record { refusal = told e.built; bytes = bytes_told e.built; reason = e.reason }

abbrev ask : List ℕ → Telling
ask row = of_explained (explained_of row 0x0100)

-- ---- rows (docs/ROWS.md)
-- an operation in a mode, with its flags indirect and forced, a step, the flag of widening, and one register or none
abbrev front : ℕ → ℕ → ℕ → ℕ → ℕ → ℕ → ℕ → ℕ → List ℕ → List ℕ
front o mode indirect forced step widening count register rest =
    o ∷ mode ∷ indirect ∷ forced ∷ step ∷ widening ∷ count ∷ register ∷ 0 ∷ 0 ∷ 0 ∷ 0 ∷ 0 ∷ 0 ∷ 0 ∷ rest

-- a page, and a value of 8 bits in both evaluations, one of 16, or none
abbrev narrow : ℕ → ℕ → List ℕ
narrow page n = page ∷ 1 ∷ n ∷ 8 ∷ n ∷ 8 ∷ []

abbrev wide : ℕ → ℕ → List ℕ
wide page n = page ∷ 1 ∷ n ∷ 16 ∷ n ∷ 16 ∷ []

abbrev valueless : ℕ → List ℕ
valueless page = page ∷ 0 ∷ 0 ∷ 0 ∷ 0 ∷ 0 ∷ []

abbrev unknown : ℕ
unknown = 256

abbrev lda : ℕ
lda = 54

-- LDA of an address, unforced and forced; a branch that may be made long; LDA in an indexed mode
abbrev address : List ℕ → List ℕ
address rest = front lda mode_extended 0 0 0 0 0 0 rest

abbrev forcing : List ℕ → List ℕ
forcing rest = front lda mode_extended 0 1 0 0 0 0 rest

abbrev branch : ℕ → ℕ → List ℕ
branch o target = front o mode_extended 0 0 0 1 0 0 (wide 0 target)

abbrev relative : ℕ → ℕ → List ℕ
relative o target = front o mode_pc_relative 0 0 0 0 1 7 (wide 0 target)

abbrev offset : ℕ → ℕ → List ℕ → List ℕ
offset indirect register rest = front lda mode_offset indirect 0 0 0 1 register rest

abbrev asked : List (List ℕ)
asked =
    -- an address: no fact, each alone, and two together
    address (narrow 0 0x34)
    ∷ address (narrow unknown 0x34)
    ∷ forcing (narrow 0 0x34)
    ∷ address (wide 0 0x2034)
    ∷ address (wide 0x20 0x2034)
    ∷ forcing (wide unknown 0x2034)
    ∷ forcing (wide 0 0x2034)
    -- BRA at both ends of its range, 130 ahead; LBRA and LBNE from their own ends
    ∷ branch 80 0x0181
    ∷ branch 80 0x0182
    ∷ branch 80 0x0082
    ∷ branch 80 0x0081
    ∷ branch 80 0x0184
    ∷ branch 96 0x0182
    ∷ branch 102 0x0182
    -- LDA and LDY, PCRelative
    ∷ relative lda 0x0182
    ∷ relative lda 0x0183
    ∷ relative 116 0x0183
    -- offsets 0, 15, -16 and 16; 128 of 16 bits; [5,X]; none on PC
    ∷ offset 0 3 (narrow 0 0)
    ∷ offset 0 4 (narrow 0 15)
    ∷ offset 0 5 (narrow 0 0xF0)
    ∷ offset 0 4 (narrow 0 16)
    ∷ offset 0 6 (wide 0 128)
    ∷ offset 1 3 (narrow 0 5)
    ∷ offset 0 7 (valueless 0)
    -- extended indirect, mode Direct and NOP have one form each
    ∷ front lda mode_extended 1 0 0 0 0 0 (narrow 0 0x34)
    ∷ front lda mode_direct 0 0 0 0 0 0 (narrow 0 0x34)
    ∷ front 124 mode_inherent 0 0 0 0 0 0 (valueless 0)
    -- 1 for each field, the first of two that are wrong, and a flag before an unknown page
    ∷ front 1 mode_extended 0 0 0 0 0 0 (narrow 0 0x34)
    ∷ front lda 8 0 0 0 0 0 0 (narrow 0 0x34)
    ∷ front lda mode_extended 2 0 0 0 0 0 (narrow 0 0x34)
    ∷ front lda mode_extended 0 2 0 0 0 0 (narrow 257 0x34)
    ∷ front lda mode_inc_dec 0 0 0 0 1 3 (valueless 0)
    ∷ front lda mode_extended 0 0 0 2 9 0 (narrow 0 0x34)
    ∷ front lda mode_extended 0 0 0 0 1 10 (narrow 0 0x34)
    ∷ address (narrow 257 0x34)
    ∷ address (narrow 0 0x100)
    -- 2 to 8
    ∷ front lda mode_inherent 0 0 0 0 0 0 (valueless 0)
    ∷ address (valueless 0)
    ∷ offset 0 0 (narrow 0 0)
    ∷ front lda mode_inc_dec 1 0 1 0 1 3 (valueless 0)
    ∷ front lda mode_immediate 0 0 0 0 0 0 (wide 0 0x100)
    ∷ front lda mode_direct 0 0 0 0 0 0 (narrow unknown 0x34)
    ∷ front lda mode_direct 0 0 0 0 0 0 (wide 0 0x2034)
    ∷ front 80 mode_extended 0 0 0 0 0 0 (wide 0 0x0182)
    ∷ []

abbrev answered : List Telling
answered =
    tells (0x96 ∷ 0x34 ∷ []) (Address false false false)
    ∷ tells (0xB6 ∷ 0x00 ∷ 0x34 ∷ []) (Address false true false)
    ∷ tells (0xB6 ∷ 0x00 ∷ 0x34 ∷ []) (Address true false false)
    ∷ tells (0xB6 ∷ 0x20 ∷ 0x34 ∷ []) (Address false false true)
    ∷ tells (0x96 ∷ 0x34 ∷ []) (Address false false false)
    ∷ tells (0xB6 ∷ 0x20 ∷ 0x34 ∷ []) (Address true true false)
    ∷ tells (0xB6 ∷ 0x20 ∷ 0x34 ∷ []) (Address true false true)
    ∷ tells (0x20 ∷ 0x7F ∷ []) (Branch 127 true)
    ∷ tells (0x16 ∷ 0x00 ∷ 0x7F ∷ []) (Branch 128 false)
    ∷ tells (0x20 ∷ 0x80 ∷ []) (Branch 0xFF80 true)
    ∷ tells (0x16 ∷ 0xFF ∷ 0x7E ∷ []) (Branch 0xFF7F false)
    ∷ tells (0x16 ∷ 0x00 ∷ 0x81 ∷ []) (Branch 130 false)
    ∷ tells (0x16 ∷ 0x00 ∷ 0x7F ∷ []) (Branch 127 true)
    ∷ tells (0x10 ∷ 0x26 ∷ 0x00 ∷ 0x7E ∷ []) (Branch 126 true)
    ∷ tells (0xA6 ∷ 0x8C ∷ 0x7F ∷ []) (PcRelative 127 true)
    ∷ tells (0xA6 ∷ 0x8D ∷ 0x00 ∷ 0x7F ∷ []) (PcRelative 128 false)
    ∷ tells (0x10 ∷ 0xAE ∷ 0x8C ∷ 0x7F ∷ []) (PcRelative 127 true)
    ∷ tells (0xA6 ∷ 0x84 ∷ []) (Offset 0 0)
    ∷ tells (0xA6 ∷ 0x2F ∷ []) (Offset 15 5)
    ∷ tells (0xA6 ∷ 0x50 ∷ []) (Offset 0xFFF0 5)
    ∷ tells (0xA6 ∷ 0xA8 ∷ 0x10 ∷ []) (Offset 16 8)
    ∷ tells (0xA6 ∷ 0xE9 ∷ 0x00 ∷ 0x80 ∷ []) (Offset 128 16)
    ∷ tells (0xA6 ∷ 0x98 ∷ 0x05 ∷ []) (Offset 5 8)
    ∷ tells (0xA6 ∷ 0x8C ∷ 0x00 ∷ []) (Offset 0 8)
    ∷ tells (0xA6 ∷ 0x9F ∷ 0x00 ∷ 0x34 ∷ []) Plain
    ∷ tells (0x96 ∷ 0x34 ∷ []) Plain
    ∷ tells (0x12 ∷ []) Plain
    ∷ refuses 1 (Refused Operation)
    ∷ refuses 1 (Refused Mode)
    ∷ refuses 1 (Refused Indirect)
    ∷ refuses 1 (Refused Forced)
    ∷ refuses 1 (Refused Step)
    ∷ refuses 1 (Refused Widening)
    ∷ refuses 1 (Refused Registers)
    ∷ refuses 1 (Refused Page)
    ∷ refuses 1 (Refused Values)
    ∷ refuses 2 (Refused Mode)
    ∷ refuses 3 (Refused Values)
    ∷ refuses 4 (Refused Registers)
    ∷ refuses 5 (Refused Indirect)
    ∷ refuses 6 (Refused Values)
    ∷ refuses 7 (Refused Page)
    ∷ refuses 7 (Refused Values)
    ∷ refuses 8 (Refused Widening)
    ∷ []

pub cases : map ask asked ≡ answered
unfolding pick is_page page_numbered bits_of extended valid_of sign_extended_of page0 page10 page11 table_of merged_of placed has_form_of known_of code_of is_wide is_long number_at number_size_of long_from long_of any_unknown strange_list marked sized_of constant_of offset_of counter_of relative_of stepped recognised narrower agreeing lawful sound becomes_direct extended_form form_of strays lacks needs_value inherent_of immediate_of forced_wide leaves_direct stays_direct directly_of anew_as anew_of address_of long_branch branch_of offset_value offset_index target_index step_index address_index index_of choose_of number_bytes operand_bytes code_size behind_code laid_at laid_of instruction_of made_as make_of early_of dirties_of accepted_of tried_of fresh_of byte_in is_flag flag_in is_page_in page_in flagged_in registers_in fields_in told_in value_in values_in all_flagged entry_of if_wrong first_wrong page_or_values field_of address_reason code_bytes branch_distance relative_distance branch_reason relative_reason offset_number offset_bits offset_reason extended_reason reason_for explained_of
cases = refl
