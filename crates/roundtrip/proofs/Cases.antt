-- Texts of other makers against 01's two instructions, `LDA` 0,X and `RTS` at 0100, under a single statement: equal, and each way to differ. And against
-- `LDA $0182`,PCR there, whose postbyte may carry register bits. All of these under page 0; then `LDA $0005` and `LDA $2005` under pages of their own.
-- Assumes nothing.
use mathlib.Core.Path.{◌≡◌, refl}
use mathlib.Core.Bool.{true, false}
use mathlib.Core.List.{List, [], ◌∷◌, ◌++◌, map}
use Prim.Native.Nat.{ℕ}
use lib.ListN.{replicate}
use Rattle.std.specs.Prelude.{Result, Ok, Err}
use Rattle.ground.specs.Choice.{pick}
use Rattle.ground.specs.declared.refusals.Refusal.{Refusal}
use Rattle.ground.specs.declared.refusals.Refusal.TheVariants as refusal
use Rattle.values.specs.Widths.{bits_of, extended, valid_of, sign_extended_of}
use Rattle.values.specs.declared.pages.Page.{Page}
use Rattle.values.specs.declared.pages.Page.TheVariants.{Unknown, Known}
use Rattle.values.specs.Pages.{is_page, page_numbered}
use Rattle.rows.specs.Sheet.{page0, page10, page11, table_of}
use Rattle.rows.specs.Lookup.{merged_of, placed, has_form_of, known_of, code_of, row_of}
use Rattle.rows.specs.Sizes.{is_wide, is_long, number_at, number_size_of}
use Rattle.postbytes.specs.Lists.{any_unknown, strange_list}
use Rattle.postbytes.specs.Reading.{direct_only, address_only, high_of, shape_of}
use Rattle.postbytes.specs.Writing.{marked, constant_of, offset_of, relative_of}
use Rattle.instruction.specs.Records.{stepped, recognised, narrower, agreeing, lawful, sound}
use Rattle.instruction.specs.Forms.{becomes_direct, extended_form, register_form, form_of, strays, lacks, needs_value}
use Rattle.instruction.specs.Choosing.{inherent_of, anew_as, anew_of, address_of, accumulator_index, offset_value, offset_index, target_index, index_of, choose_of}
use Rattle.instruction.specs.Bytes.{number_bytes, operand_bytes, code_size, behind_code, laid_at, laid_of}
use Rattle.instruction.specs.Building.{instruction_of, made_as, make_of, early_of, dirties_of, accepted_of, tried_of, fresh_of}
use Rattle.meanings.specs.Means.{offset_in, offset_kind, index_kind, kind_of, operation_of, meaning_of}
use Rattle.entries.specs.Entries.{byte_in, is_flag, flag_in, is_page_in, page_in, flagged_in, registers_in, fields_in, told_in, value_in, values_in, all_flagged, entry_of}
use Rattle.laying.specs.Entries.{entry_at, rows_in, entries_from, entries_of}
use Rattle.laying.specs.Laying.{built_at, lay_from, lay_of}
use Rattle.laying.specs.Meant.{meanings_from}
use Rattle.records.specs.Hex.{hex_of}
use Rattle.records.specs.Line.{check_of, body, line}
use Rattle.reader.specs.Digits.{digit_of, pair_of, behind}
use Rattle.reader.specs.Lines as lines
use Rattle.reader.specs.Lines.{count_of, type_of, data_of, ends_line, after_end, record_of, line_in, records_in}
use Rattle.reader.specs.Answers.{runs_in}
use Rattle.reader.proofs.Cases.{code, end, lf, first}
use Rattle.decoder.specs.declared.Decoded.{Decoded}
use Rattle.decoder.specs.declared.Kind.TheVariants.{Memory}
use Rattle.decoder.specs.Origin.{shifted, outside, target_of, direct_of, unseen}
use Rattle.decoder.specs.Meaning.{joined}
use Rattle.decoder.specs.Operands.{number_of, numbered_of, numbered_at, indexed_as, indexed_at, operand_of}
use Rattle.decoder.specs.Front.{coded_of, front_of}
use Rattle.decoder.specs.Run.{run_from, run_of}
use Rattle.roundtrip.specs.Comparing.{answer, text_against, compare_of}
use Rattle.roundtrip.specs.declared.Compared.{Compared}

abbrev list : List ℕ
list =
    54 ∷ 1 ∷ 0 ∷ 0 ∷ 0 ∷ 0 ∷ 1 ∷ 3 ∷ 0 ∷ 0 ∷ 0 ∷ 0 ∷ 0 ∷ 0 ∷ 0 ∷ 0 ∷ 0 ∷ 0 ∷ 0 ∷ 0 ∷ 0
    ∷ 128 ∷ 7 ∷ 0 ∷ 0 ∷ 0 ∷ 0 ∷ 0 ∷ 0 ∷ 0 ∷ 0 ∷ 0 ∷ 0 ∷ 0 ∷ 0 ∷ 0 ∷ 0 ∷ 0 ∷ 0 ∷ 0 ∷ 0 ∷ 0 ∷ []

abbrev counter : List ℕ
counter = 54 ∷ 2 ∷ 0 ∷ 0 ∷ 0 ∷ 0 ∷ 1 ∷ 7 ∷ 0 ∷ 0 ∷ 0 ∷ 0 ∷ 0 ∷ 0 ∷ 0 ∷ 0 ∷ 1 ∷ 0x0182 ∷ 16 ∷ 0x0182 ∷ 16 ∷ []

-- `LDA` with an address, under a page
abbrev memory : (page address : ℕ) → List ℕ
memory page address = 54 ∷ 4 ∷ 0 ∷ 0 ∷ 0 ∷ 0 ∷ 0 ∷ 0 ∷ 0 ∷ 0 ∷ 0 ∷ 0 ∷ 0 ∷ 0 ∷ 0 ∷ page ∷ 1 ∷ address ∷ 16 ∷ address ∷ 16 ∷ []

-- `LDA $0005` under page 0 and `LDA $2005` under page 20 (hexadecimal)
abbrev low : List ℕ
low = memory 0 0x0005

abbrev high : List ℕ
high = memory 0x20 0x2005

-- bytes at an address, and the end record
abbrev at : ℕ → List ℕ → List ℕ
at address bytes = line 0 address bytes ++ end

pub data Question : Type 0 where
  compare : List ℕ → ℕ → List ℕ → Question
  under : Page → List ℕ → ℕ → List ℕ → Question

abbrev ask : Question → Result Compared Refusal
ask (compare l address text) = compare_of l address (Known 0) text
ask (under page l address text) = compare_of l address page text

-- the text of what both of them are laid as
abbrev both : List ℕ
both = at 0x0100 (0x96 ∷ 0x05 ∷ [])

abbrev asked : List Question
asked =
    -- 01's own text, and the same in two records
    compare list 0x0100 first
    ∷ compare list 0x0100 (line 0 0x0100 (0xA6 ∷ []) ++ at 0x0101 (0x84 ∷ 0x39 ∷ []))
    -- it starts elsewhere; there is no run
    ∷ compare list 0x0101 first
    ∷ compare list 0x0100 end
    -- another second instruction; `LDA` 0,X in three bytes, of the same meaning
    ∷ compare list 0x0100 (at 0x0100 (0xA6 ∷ 0x84 ∷ 0x12 ∷ []))
    ∷ compare list 0x0100 (at 0x0100 (0xA6 ∷ 0x88 ∷ 0x00 ∷ 0x39 ∷ []))
    -- one instruction more, one less, one cut short
    ∷ compare list 0x0100 (at 0x0100 (0xA6 ∷ 0x84 ∷ 0x39 ∷ 0x39 ∷ []))
    ∷ compare list 0x0100 (at 0x0100 (0xA6 ∷ 0x84 ∷ []))
    ∷ compare list 0x0100 (at 0x0100 (0xA6 ∷ 0x84 ∷ 0x10 ∷ []))
    -- a PC form as it is written here, with register bits, and indirect
    ∷ compare counter 0x0100 (at 0x0100 (0xA6 ∷ 0x8C ∷ 0x7F ∷ []))
    ∷ compare counter 0x0100 (at 0x0100 (0xA6 ∷ 0xAC ∷ 0x7F ∷ []))
    ∷ compare counter 0x0100 (at 0x0100 (0xA6 ∷ 0xBC ∷ 0x7F ∷ []))
    -- a second run
    ∷ compare list 0x0100 (code ++ lf ++ at 0x0200 (0x39 ∷ []))
    -- no instruction against no run, and against one
    ∷ compare [] 0x0100 end
    ∷ compare [] 0x0100 first
    -- a broken text, one with a byte beyond 65535; and the list's refusal before the text's
    ∷ compare list 0x0100 code
    ∷ compare list 0x0100 (at 0xFFFF (0x12 ∷ 0x12 ∷ []))
    ∷ compare list 0xFFFE code
    ∷ compare (replicate 21525 0) 0x0100 code
    -- one text under two pages says two things; with the page unknown it says neither
    ∷ under (Known 0) low 0x0100 both
    ∷ under (Known 0x20) low 0x0100 both
    ∷ under (Known 0) high 0x0100 both
    ∷ under (Known 0x20) high 0x0100 both
    ∷ under Unknown low 0x0100 both
    -- laid under page 0, and then with the page unknown: read under page 0, and under another
    ∷ under (Known 0) (low ++ memory 256 0x0005) 0x0100 (at 0x0100 (0x96 ∷ 0x05 ∷ 0xB6 ∷ 0x00 ∷ 0x05 ∷ []))
    ∷ under (Known 0x20) (memory 256 0x0005 ++ low) 0x0100 (at 0x0100 (0xB6 ∷ 0x00 ∷ 0x05 ∷ 0x96 ∷ 0x05 ∷ []))
    -- laid under page 20 and read with it: $0005 does not lie there
    ∷ under (Known 0x20) (high ++ memory 0x20 0x0005) 0x0100 (at 0x0100 (0x96 ∷ 0x05 ∷ 0xB6 ∷ 0x00 ∷ 0x05 ∷ []))
    ∷ []

abbrev answered : List (Result Compared Refusal)
answered =
    Ok (answer true 2)
    ∷ Ok (answer true 2)
    ∷ Ok (answer false 0)
    ∷ Ok (answer false 0)
    ∷ Ok (answer false 1)
    ∷ Ok (answer false 0)
    ∷ Ok (answer false 2)
    ∷ Ok (answer false 1)
    ∷ Ok (answer false 1)
    ∷ Ok (answer true 1)
    ∷ Ok (answer true 1)
    ∷ Ok (answer false 0)
    ∷ Ok (answer false 2)
    ∷ Ok (answer true 0)
    ∷ Ok (answer false 0)
    ∷ Err refusal.BrokenText
    ∷ Err refusal.Beyond
    ∷ Err refusal.Beyond
    ∷ Err refusal.OverLimit
    ∷ Ok (answer true 1)
    ∷ Ok (answer false 0)
    ∷ Ok (answer false 0)
    ∷ Ok (answer true 1)
    ∷ Ok (answer false 0)
    ∷ Ok (answer true 2)
    ∷ Ok (answer false 1)
    ∷ Ok (answer true 2)
    ∷ []

-- "its last sentence holds for two lists laid under the same page": low and high are laid as the same bytes, and mean two things
abbrev laid : List ℕ → Result (List ℕ) Refusal
laid l = lay_of l 0x0100 2

abbrev means : List ℕ → List Decoded
means l = meanings_from (entries_of l) 0x0100

abbrev loads : ℕ → List Decoded
loads address = record { length = 2; meaning = record { operation = 54; kind = Memory address } } ∷ []

pub cases :
    (map ask asked ≡ answered)
    × (map laid (low ∷ high ∷ []) ≡ Ok (0x96 ∷ 0x05 ∷ []) ∷ Ok (0x96 ∷ 0x05 ∷ []) ∷ [])
    × (map means (low ∷ high ∷ []) ≡ loads 0x0005 ∷ loads 0x2005 ∷ [])
unfolding pick bits_of extended valid_of sign_extended_of is_page page_numbered table_of page0 page10 page11 merged_of placed has_form_of known_of code_of row_of is_wide is_long number_at number_size_of any_unknown strange_list direct_only address_only high_of shape_of marked constant_of offset_of relative_of stepped recognised narrower agreeing lawful sound becomes_direct extended_form register_form form_of strays lacks needs_value inherent_of anew_as anew_of address_of accumulator_index offset_value offset_index target_index index_of choose_of number_bytes operand_bytes code_size behind_code laid_at laid_of instruction_of made_as make_of early_of dirties_of accepted_of tried_of fresh_of offset_in offset_kind index_kind kind_of operation_of meaning_of byte_in is_flag flag_in is_page_in page_in flagged_in registers_in fields_in told_in value_in values_in all_flagged entry_of entry_at rows_in entries_from entries_of built_at lay_from lay_of meanings_from hex_of check_of body line digit_of pair_of behind count_of lines.address_of lines.sound type_of data_of ends_line after_end record_of line_in records_in runs_in shifted outside target_of direct_of unseen joined number_of numbered_of numbered_at indexed_as indexed_at operand_of coded_of front_of run_from run_of text_against compare_of
cases = (refl, refl, refl)
