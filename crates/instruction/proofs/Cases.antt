-- 01's section "Cases, all proved", of the definitions, under a single statement; then further cases of this crate, and those of 02 e, each under another.
-- Assumes nothing.
use mathlib.Core.Path.{◌≡◌, refl}
use mathlib.Core.Bool.{true, false}
use mathlib.Core.List.{List, [], ◌∷◌, map}
use Prim.Native.Nat.{ℕ}
use lib.ListN.{take}
use Rattle.std.specs.Prelude.{Result, Ok, Err}
use Rattle.ground.specs.Choice.{pick}
use Rattle.ground.specs.declared.refusals.Refusal.{Refusal}
use Rattle.ground.specs.Refusals.{number_of}
use Rattle.values.specs.declared.pages.Page.{Page}
use Rattle.values.specs.declared.pages.Page.TheVariants.{Unknown, Known}
use Rattle.values.specs.Widths.{bits_of, extended, valid_of, sign_extended_of}
use Rattle.rows.specs.Sheet.{page0, page10, page11, table_of}
use Rattle.rows.specs.Lookup.{merged_of, placed, has_form_of, known_of, code_of}
use Rattle.rows.specs.Sizes.{is_wide, is_long, number_at, number_size_of, long_from, long_of}
use Rattle.postbytes.specs.Registers.{A, X, Y, U, S, PC, DP}
use Rattle.postbytes.specs.Lists.{any_unknown, strange_list, among, size_of}
use Rattle.postbytes.specs.ListsWritten.{push_of, paired_of}
use Rattle.postbytes.specs.ListsWritten as written
use Rattle.postbytes.specs.Writing.{marked, sized_of, constant_of, offset_of, relative_of}
use Rattle.instruction.specs.declared.Operand.{Operand}
use Rattle.instruction.specs.declared.Values.{Values}
use Rattle.instruction.specs.declared.Record.{Record}
use Rattle.instruction.specs.declared.Built.{Built}
use Rattle.instruction.specs.declared.Refused.{Refused}
use Rattle.instruction.specs.Names.{mode_register, mode_offset, mode_pc_relative, mode_inc_dec, mode_extended, mode_direct, mode_immediate}
use Rattle.instruction.specs.Records.{stepped, recognised, narrower, agreeing, lawful, sound}
use Rattle.instruction.specs.Forms.{becomes_direct, extended_form, register_form, form_of, strays, lacks, needs_value}
use Rattle.instruction.specs.Choosing.{immediate_of, forced_wide, leaves_direct, stays_direct, directly_of, anew_as, anew_of, address_of, long_branch, branch_of, offset_value, offset_index, target_index, step_index, index_of, is_pair, own_stack, listed_of, registers_of, choose_of}
use Rattle.instruction.specs.Bytes.{number_bytes, operand_bytes, code_size, behind_code, laid_at, laid_of}
use Rattle.instruction.specs.Building.{instruction_of, made_as, make_of, early_of, dirties_of, accepted_of, tried_of, build_of, fresh_of}
use Rattle.instruction.specs.Sequences.{instruction_in, told_of}

-- what a build says: its bytes, with the page left unknown or not, or its refusal
pub data Answer : Type 0 where
  bytes : List ℕ → Answer
  forgetting : List ℕ → Answer
  refused : ℕ → Answer

abbrev said : Result Built Refusal → Answer
said (Ok b) = pick b.dirties (forgetting (take b.length b.bytes)) (bytes (take b.length b.bytes))
said (Err n) = refused (number_of n)

-- a value with its unsigned and its signed evaluation, each of a width
abbrev valued : ℕ → ℕ → ℕ → ℕ → Values
valued uw u sw s = record { given = true; unsigned = record { number = u; width = uw }; signed = record { number = s; width = sw } }

abbrev address16 : ℕ → Values
address16 n = valued 16 n 16 n

abbrev missing : Values
missing = record { given = false; unsigned = record { number = 0; width = 0 }; signed = record { number = 0; width = 0 } }

-- an operation in a mode, with the registers a and b, of which so many count; widening is allowed
abbrev operand : ℕ → ℕ → ℕ → ℕ → ℕ → Operand
operand o mode count a b = record {
  operation = o;
  mode = mode;
  indirect = false;
  forced = false;
  registers = a ∷ b ∷ 0 ∷ 0 ∷ 0 ∷ 0 ∷ 0 ∷ 0 ∷ [];
  count = count;
  step = 0;
  widening = true;
}

abbrev indirect : Operand → Operand
indirect o = record {
  operation = o.operation;
  mode = o.mode;
  indirect = true;
  forced = o.forced;
  registers = o.registers;
  count = o.count;
  step = o.step;
  widening = o.widening;
}

abbrev forced : Operand → Operand
forced o = record {
  operation = o.operation;
  mode = o.mode;
  indirect = o.indirect;
  forced = true;
  registers = o.registers;
  count = o.count;
  step = o.step;
  widening = o.widening;
}

abbrev stepping : ℕ → Operand → Operand
stepping k o = record {
  operation = o.operation;
  mode = o.mode;
  indirect = o.indirect;
  forced = o.forced;
  registers = o.registers;
  count = o.count;
  step = k;
  widening = o.widening;
}

abbrev fixed : Operand → Operand
fixed o = record {
  operation = o.operation;
  mode = o.mode;
  indirect = o.indirect;
  forced = o.forced;
  registers = o.registers;
  count = o.count;
  step = o.step;
  widening = false;
}

-- an operand with its value, under a page; an instruction made of it and built again and again, its value another each time, of which the last build answers.
-- All at 0100.
pub data Question : Type 0 where
  fresh : Page → Operand → Values → Question
  again : Page → Operand → Values → List Values → Question

abbrev record_of_lem : Page → Operand → Values → Record
record_of_lem page o v = record { operand = o; page = page; values = v }

abbrev last : Page → Result Built Refused → List Values → Result Built Refused
last page b [] = b
last page b (v ∷ vs) = last page (build_of (instruction_in b) v page 0x0100) vs

abbrev afterwards : Page → Result Built Refusal → List Values → Answer
afterwards page (Ok b) vs = said (told_of (last page (Ok b) vs))
afterwards page (Err n) vs = refused (number_of n)

abbrev ask : Question → Answer
ask (fresh page o v) = said (fresh_of (record_of_lem page o v) 0x0100)
ask (again page o v vs) = afterwards page (fresh_of (record_of_lem page o v) 0x0100) vs

-- operations by number (docs/ROWS.md)
abbrev lda : ℕ
lda = 54

abbrev bra : ℕ
bra = 80

-- LDA in an indexed mode on a register
abbrev on : ℕ → ℕ → Operand
on mode r = operand lda mode 1 r 0

abbrev to : ℕ → ℕ → Question
to o target = fresh (Known 0) (operand o mode_extended 0 0 0) (address16 target)

-- `LDA` 0,X; 15,Y; 8-bit 16,Y; -16,U; 8-bit -17,U; 16-bit 128,S; 8-bit [5,X]; 0182,PCR; 0183,PCR; [,X+]
-- `BRA` 0181; 0182; 0082; 0081. Clean `LDA $FF`, dirty `LDA $FF`
abbrev asked : List Question
asked =
    fresh (Known 0) (on mode_offset X) (valued 8 0 8 0) ∷
    fresh (Known 0) (on mode_offset Y) (valued 8 15 8 15) ∷
    fresh (Known 0) (on mode_offset Y) (valued 8 16 8 16) ∷
    fresh (Known 0) (on mode_offset U) (valued 16 0xFFF0 8 0xF0) ∷
    fresh (Known 0) (on mode_offset U) (valued 16 0xFFEF 8 0xEF) ∷
    fresh (Known 0) (on mode_offset S) (valued 8 128 16 128) ∷
    fresh (Known 0) (indirect (on mode_offset X)) (valued 8 5 8 5) ∷
    fresh (Known 0) (on mode_pc_relative PC) (address16 0x0182) ∷
    fresh (Known 0) (on mode_pc_relative PC) (address16 0x0183) ∷
    fresh (Known 0) (indirect (stepping 1 (on mode_inc_dec X))) missing ∷
    to bra 0x0181 ∷
    to bra 0x0182 ∷
    to bra 0x0082 ∷
    to bra 0x0081 ∷
    fresh (Known 0) (operand lda mode_extended 0 0 0) (valued 8 0xFF 16 0xFF) ∷
    fresh Unknown (operand lda mode_extended 0 0 0) (valued 8 0xFF 16 0xFF) ∷
    []

abbrev answered : List Answer
answered =
    bytes (0xA6 ∷ 0x84 ∷ []) ∷
    bytes (0xA6 ∷ 0x2F ∷ []) ∷
    bytes (0xA6 ∷ 0xA8 ∷ 0x10 ∷ []) ∷
    bytes (0xA6 ∷ 0x50 ∷ []) ∷
    bytes (0xA6 ∷ 0xC8 ∷ 0xEF ∷ []) ∷
    bytes (0xA6 ∷ 0xE9 ∷ 0x00 ∷ 0x80 ∷ []) ∷
    bytes (0xA6 ∷ 0x98 ∷ 0x05 ∷ []) ∷
    bytes (0xA6 ∷ 0x8C ∷ 0x7F ∷ []) ∷
    bytes (0xA6 ∷ 0x8D ∷ 0x00 ∷ 0x7F ∷ []) ∷
    refused 5 ∷
    bytes (0x20 ∷ 0x7F ∷ []) ∷
    bytes (0x16 ∷ 0x00 ∷ 0x7F ∷ []) ∷
    bytes (0x20 ∷ 0x80 ∷ []) ∷
    bytes (0x16 ∷ 0xFF ∷ 0x7E ∷ []) ∷
    bytes (0x96 ∷ 0xFF ∷ []) ∷
    bytes (0xB6 ∷ 0x00 ∷ 0xFF ∷ []) ∷
    []

pub cases : map ask asked ≡ answered
unfolding pick bits_of extended valid_of sign_extended_of table_of page0 page10 page11 merged_of placed has_form_of known_of code_of is_wide is_long number_at number_size_of long_from long_of any_unknown strange_list among marked sized_of constant_of offset_of relative_of stepped recognised narrower agreeing lawful sound becomes_direct extended_form register_form form_of strays lacks needs_value directly_of anew_as anew_of address_of long_branch branch_of offset_value offset_index target_index step_index index_of choose_of number_bytes operand_bytes code_size behind_code laid_at laid_of instruction_of made_as make_of early_of dirties_of accepted_of tried_of build_of fresh_of
cases = refl

-- a long branch; a branch that stays long once it was made long, and one that may not be made long
-- in Extended mode near, far, near, far: each build is Direct or Extended as a fresh one is; far, near, far (D10); near, without a value, far: what is refused spoils
-- nothing. In Direct mode far is 7, and near after it is Direct; forced and wide is 6
-- PSHS S; TFR A,DP; INC immediate; the operation 1, which is none; a value of width 7; LDA #FFFF and LDX #FF
pub further :
    map ask
    (to 96 0x0181 ∷
    again (Known 0) (operand bra mode_extended 0 0 0) (address16 0x0181) (address16 0x0182 ∷ address16 0x0181 ∷ []) ∷
    fresh (Known 0) (fixed (operand bra mode_extended 0 0 0)) (address16 0x0182) ∷
    again (Known 0) (operand lda mode_extended 0 0 0) (valued 8 0x10 8 0x10) (address16 0x1000 ∷ []) ∷
    again (Known 0) (operand lda mode_extended 0 0 0) (valued 8 0x10 8 0x10) (address16 0x1000 ∷ valued 8 0x10 8 0x10 ∷ []) ∷
    again (Known 0) (operand lda mode_extended 0 0 0) (valued 8 0x10 8 0x10) (address16 0x1000 ∷ valued 8 0x10 8 0x10 ∷ address16 0x1000 ∷ []) ∷
    again (Known 0) (operand lda mode_extended 0 0 0) (address16 0x1000) (valued 8 0x10 8 0x10 ∷ address16 0x1000 ∷ []) ∷
    again (Known 0) (operand lda mode_extended 0 0 0) (valued 8 0x10 8 0x10) (missing ∷ address16 0x1000 ∷ []) ∷
    fresh (Known 0) (operand lda mode_direct 0 0 0) (address16 0x0100) ∷
    again (Known 0) (operand lda mode_direct 0 0 0) (valued 8 0x10 8 0x10) (address16 0x1000 ∷ valued 8 0x10 8 0x10 ∷ []) ∷
    fresh (Known 0) (forced (operand lda mode_direct 0 0 0)) (address16 0x0010) ∷
    fresh (Known 0) (operand 138 mode_register 1 S 0) missing ∷
    fresh (Known 0) (operand 137 mode_register 2 A DP) missing ∷
    fresh (Known 0) (operand 12 mode_immediate 0 0 0) (valued 8 1 8 1) ∷
    fresh (Known 0) (operand 1 mode_immediate 0 0 0) (valued 8 1 8 1) ∷
    fresh (Known 0) (operand lda mode_immediate 0 0 0) (valued 7 1 8 1) ∷
    fresh (Known 0) (operand lda mode_immediate 0 0 0) (address16 0xFFFF) ∷
    fresh (Known 0) (operand 62 mode_immediate 0 0 0) (valued 8 0xFF 16 0xFF) ∷
    [])
    ≡ bytes (0x16 ∷ 0x00 ∷ 0x7E ∷ []) ∷
    bytes (0x16 ∷ 0x00 ∷ 0x7E ∷ []) ∷
    refused 8 ∷
    bytes (0xB6 ∷ 0x10 ∷ 0x00 ∷ []) ∷
    bytes (0x96 ∷ 0x10 ∷ []) ∷
    bytes (0xB6 ∷ 0x10 ∷ 0x00 ∷ []) ∷
    bytes (0xB6 ∷ 0x10 ∷ 0x00 ∷ []) ∷
    bytes (0xB6 ∷ 0x10 ∷ 0x00 ∷ []) ∷
    refused 7 ∷
    bytes (0x96 ∷ 0x10 ∷ []) ∷
    refused 6 ∷
    refused 4 ∷
    forgetting (0x1F ∷ 0x8B ∷ []) ∷
    refused 2 ∷
    refused 1 ∷
    refused 1 ∷
    refused 6 ∷
    bytes (0x8E ∷ 0x00 ∷ 0xFF ∷ []) ∷
    []
unfolding pick bits_of valid_of table_of page0 page10 page11 merged_of placed has_form_of known_of code_of is_wide is_long number_at number_size_of long_from long_of any_unknown strange_list among size_of push_of paired_of written.code_of stepped recognised narrower agreeing lawful sound becomes_direct extended_form register_form form_of strays lacks needs_value immediate_of forced_wide leaves_direct stays_direct directly_of anew_as anew_of address_of long_branch branch_of is_pair own_stack listed_of registers_of choose_of number_bytes operand_bytes code_size behind_code laid_at laid_of instruction_of made_as make_of early_of dirties_of accepted_of tried_of build_of fresh_of
further = refl

-- 02 e. `LDA $2005` under page 20, under 0 and under unknown; `LDA $05` under 20; `LDA >$2005` forced Extended under 20
-- `LDA <$05` under 20; `<$2005` under 20 and under 0; forced `<$05` of 16 bits under 0, under 20 and under unknown; `LDA <$FF` under 0 and under unknown
-- far, near, far by the page: Extended under 20, Direct with 2010, Extended again; EXG DP,A leaves the page unknown, TFR DP,A does not
pub paged :
    map ask
    (fresh (Known 0x20) (operand lda mode_extended 0 0 0) (address16 0x2005) ∷
    fresh (Known 0) (operand lda mode_extended 0 0 0) (address16 0x2005) ∷
    fresh Unknown (operand lda mode_extended 0 0 0) (address16 0x2005) ∷
    fresh (Known 0x20) (operand lda mode_extended 0 0 0) (valued 8 0x05 8 0x05) ∷
    fresh (Known 0x20) (forced (operand lda mode_extended 0 0 0)) (address16 0x2005) ∷
    fresh (Known 0x20) (forced (operand lda mode_direct 0 0 0)) (valued 8 0x05 8 0x05) ∷
    fresh (Known 0x20) (forced (operand lda mode_direct 0 0 0)) (address16 0x2005) ∷
    fresh (Known 0) (forced (operand lda mode_direct 0 0 0)) (address16 0x2005) ∷
    fresh (Known 0) (forced (operand lda mode_direct 0 0 0)) (address16 0x0005) ∷
    fresh (Known 0x20) (forced (operand lda mode_direct 0 0 0)) (address16 0x0005) ∷
    fresh Unknown (forced (operand lda mode_direct 0 0 0)) (address16 0x0005) ∷
    fresh (Known 0) (operand lda mode_direct 0 0 0) (valued 8 0xFF 16 0xFF) ∷
    fresh Unknown (operand lda mode_direct 0 0 0) (valued 8 0xFF 16 0xFF) ∷
    again (Known 0x20) (operand lda mode_extended 0 0 0) (address16 0x1000) (address16 0x2010 ∷ address16 0x1000 ∷ []) ∷
    again (Known 0x20) (operand lda mode_extended 0 0 0) (address16 0x1000) (address16 0x2010 ∷ []) ∷
    fresh (Known 0x20) (operand 136 mode_register 2 DP A) missing ∷
    fresh (Known 0x20) (operand 137 mode_register 2 DP A) missing ∷
    [])
    ≡ bytes (0x96 ∷ 0x05 ∷ []) ∷
    bytes (0xB6 ∷ 0x20 ∷ 0x05 ∷ []) ∷
    bytes (0xB6 ∷ 0x20 ∷ 0x05 ∷ []) ∷
    bytes (0xB6 ∷ 0x00 ∷ 0x05 ∷ []) ∷
    bytes (0xB6 ∷ 0x20 ∷ 0x05 ∷ []) ∷
    refused 7 ∷
    bytes (0x96 ∷ 0x05 ∷ []) ∷
    refused 7 ∷
    refused 6 ∷
    refused 7 ∷
    refused 7 ∷
    bytes (0x96 ∷ 0xFF ∷ []) ∷
    refused 7 ∷
    bytes (0xB6 ∷ 0x10 ∷ 0x00 ∷ []) ∷
    bytes (0x96 ∷ 0x10 ∷ []) ∷
    forgetting (0x1E ∷ 0xB8 ∷ []) ∷
    bytes (0x1F ∷ 0xB8 ∷ []) ∷
    []
unfolding pick bits_of valid_of table_of page0 page10 page11 merged_of placed has_form_of known_of code_of is_wide is_long number_at number_size_of long_from long_of any_unknown strange_list among size_of push_of paired_of written.code_of stepped recognised narrower agreeing lawful sound becomes_direct extended_form register_form form_of strays lacks needs_value immediate_of forced_wide leaves_direct stays_direct directly_of anew_as anew_of address_of long_branch branch_of is_pair own_stack listed_of registers_of choose_of number_bytes operand_bytes code_size behind_code laid_at laid_of instruction_of made_as make_of early_of dirties_of accepted_of tried_of build_of fresh_of
paged = refl
