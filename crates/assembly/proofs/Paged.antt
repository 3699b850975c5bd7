-- The cases of 02 e under one statement, of the definitions: lists of statements, with the refusal of the settled pass, the size of each statement and the bytes of those before the
-- refused one; and what such bytes mean, read under a page.
-- Assumes nothing.
use mathlib.Core.Path.{◌≡◌, refl}
use mathlib.Core.List.{List, [], ◌∷◌, ◌++◌, map}
use Prim.Native.Nat.{ℕ}
use lib.ListN.{take, replicate}
use Rattle.std.proofs.Common.{Option, Some, None}
use Rattle.std.specs.Result.{result_err}
use Rattle.ground.specs.Choice.{pick}
use Rattle.ground.specs.declared.refusals.Refusal.{Refusal}
use Rattle.ground.specs.declared.refusals.Refusal.TheVariants.{DirectNotAllowed}
use Rattle.ground.specs.declared.refusals.Refusal.TheVariants as refusal
use Rattle.values.specs.declared.pages.Page.TheVariants.{Unknown, Known}
use Rattle.values.specs.Widths.{bits_of, valid_of}
use Rattle.rows.specs.Sheet.{page0, page10, page11, table_of}
use Rattle.rows.specs.Lookup.{merged_of, placed, has_form_of, known_of, code_of, row_of}
use Rattle.rows.specs.Sizes.{is_wide, is_long, number_size_of, least_at, smallest_size_of}
use Rattle.rows.specs.Sizes as sizes
use Rattle.postbytes.specs.Registers.{A, DP}
use Rattle.postbytes.specs.Lists.{any_unknown, strange_list, among, size_of}
use Rattle.postbytes.specs.ListsWritten.{paired_of}
use Rattle.postbytes.specs.ListsWritten as written
use Rattle.decoder.specs.declared.Kind.TheVariants.{Memory}
use Rattle.decoder.specs.Origin.{origin, shifted, outside, direct_of, unseen}
use Rattle.decoder.specs.Meaning.{Answer, answer}
use Rattle.decoder.specs.Meaning as meaning
use Rattle.decoder.specs.Operands.{number_of, numbered_of, numbered_at}
use Rattle.decoder.specs.Operands as operands
use Rattle.decoder.specs.Front.{coded_of, front_of, decode_of}
use Rattle.records.specs.Objects.{bytes_of}
use Rattle.expressions.specs.Finding.{row_at, label_row, node_in, node_value}
use Rattle.expressions.specs.Answers.{narrow_of, value_of, evaluations}
use Rattle.instruction.specs.Names.{mode_register, mode_extended, mode_direct, tfr}
use Rattle.instruction.specs.Records.{stepped, recognised, narrower, agreeing, lawful, sound}
use Rattle.instruction.specs.Forms.{becomes_direct, extended_form, register_form, form_of, strays, lacks, needs_value}
use Rattle.instruction.specs.Choosing.{forced_wide, leaves_direct, stays_direct, directly_of, anew_as, anew_of, address_of, is_pair, own_stack, listed_of, registers_of, choose_of}
use Rattle.instruction.specs.Bytes.{number_bytes, operand_bytes, code_size, behind_code, laid_at, laid_of}
use Rattle.instruction.specs.Building.{no_values, instruction_of, made_as, make_of, operand_refusal, early_of, dirties_of, accepted_of, tried_of, fresh_of}
use Rattle.entries.specs.Entries.{byte_in, is_flag, flag_in, flagged_in, registers_in, fields_in, told_in, operand_of}
use Rattle.statements.specs.Order.{place_of, earlier}
use Rattle.statements.specs.Listing.{none, rows_of, number_at, statement_of, statement_at, operand_row, entry_in, entry_at, overfull_at}
use Rattle.statements.specs.Asking.{asked_of}
use Rattle.statements.specs.Effects.{own_label, entry_refusal, setdp_effect, effect_at, counted_of, labelled, made_of}
use Rattle.statements.specs.Objects.{values_at}
use Rattle.passes.specs.Labels.{first_bearer, bearer_of, ill_of, begun_state, begun_rows, begun_table}
use Rattle.passes.specs.Walks.{source, marks_of, marked_labels, marked_state, effect_in, sized_state, judged, advanced_state, advanced_starts, mark_of, resize_of, advance_of, done_of, step_of, walk_of, walk_to}
use Rattle.passes.specs.Passes.{end_of, answer_of, after_of, settle_of, passed_of, overfull_in, too_many, ended_of}
use Rattle.assembly.specs.Objects.{address_at, page_at, gather}
use Rattle.assembly.specs.Made.{bytes_in}

-- node 0 is hexadecimal 2005, node 1 is 05
abbrev nodes : List ℕ
nodes = 0 ∷ 0x2005 ∷ 0 ∷ 0 ∷ 0x05 ∷ 0 ∷ []

abbrev setdp : ℕ → List ℕ
setdp number = 7 ∷ none ∷ number ∷ replicate 17 0

-- LDA in a mode, forced or not
abbrev lda : (mode forced node : ℕ) → List ℕ
lda mode forced node = 1 ∷ none ∷ node ∷ 0 ∷ 0 ∷ 54 ∷ mode ∷ 0 ∷ forced ∷ replicate 11 0

abbrev plain : ℕ → List ℕ
plain node = lda mode_extended 0 node

abbrev direct : ℕ → List ℕ
direct node = lda mode_direct 1 node

-- TFR A,DP
abbrev transfer : List ℕ
transfer = 1 ∷ none ∷ none ∷ 0 ∷ 0 ∷ tfr ∷ mode_register ∷ 0 ∷ 0 ∷ 0 ∷ 0 ∷ 2 ∷ A ∷ DP ∷ replicate 6 0

pub record Given : Type 0 where
  refusal : Option Refusal
  sizes : List ℕ
  bytes : List ℕ

abbrev given : Option Refusal → List ℕ → List ℕ → Given
given refusal sizes bytes = record { refusal = refusal; sizes = sizes; bytes = bytes }

abbrev ask : List ℕ → Given
ask list =
    let src = source list [] nodes in
    let o = passed_of src [] in
    let e = ended_of src [] in
    given (result_err e.end) (take (rows_of list) o.sizes) (gather (λ k. bytes_in src o k) e.fine 0)

-- `LDA $2005` under page 20, under 0 and under unknown
-- `LDA <$05` and `LDA <$2005`, forced, under page 20
-- TFR A,DP and then `LDA $05`; SETDP 256 and `LDA $05`: refused, and page 0 as it was
-- set, left unknown and set again
abbrev asked : List (List ℕ)
asked =
    (setdp 0x20 ++ plain 0)
    ∷ plain 0
    ∷ (transfer ++ plain 0)
    ∷ (setdp 0x20 ++ direct 1)
    ∷ (setdp 0x20 ++ direct 0)
    ∷ (transfer ++ plain 1)
    ∷ (setdp 256 ++ plain 1)
    ∷ (setdp 0x20 ++ plain 0 ++ transfer ++ plain 0 ++ setdp 0 ++ plain 1)
    ∷ []

abbrev answered : List Given
answered =
    given None (0 ∷ 2 ∷ []) (0x96 ∷ 0x05 ∷ [])
    ∷ given None (3 ∷ []) (0xB6 ∷ 0x20 ∷ 0x05 ∷ [])
    ∷ given None (2 ∷ 3 ∷ []) (0x1F ∷ 0x8B ∷ 0xB6 ∷ 0x20 ∷ 0x05 ∷ [])
    ∷ given (Some DirectNotAllowed) (0 ∷ 2 ∷ []) []
    ∷ given None (0 ∷ 2 ∷ []) (0x96 ∷ 0x05 ∷ [])
    ∷ given None (2 ∷ 3 ∷ []) (0x1F ∷ 0x8B ∷ 0xB6 ∷ 0x00 ∷ 0x05 ∷ [])
    ∷ given (Some refusal.Unknown) (0 ∷ 2 ∷ []) []
    ∷ given None (0 ∷ 2 ∷ 2 ∷ 3 ∷ 0 ∷ 2 ∷ []) (0x96 ∷ 0x05 ∷ 0x1F ∷ 0x8B ∷ 0xB6 ∷ 0x20 ∷ 0x05 ∷ 0x96 ∷ 0x05 ∷ [])
    ∷ []

-- what the bytes mean: in page 20, in page 0, and the same under an unknown page where nothing is direct
abbrev meant : List Answer
meant =
    decode_of (0x96 ∷ 0x05 ∷ []) (origin 0 (Known 0x20))
    ∷ decode_of (0x96 ∷ 0x05 ∷ []) (origin 0 (Known 0))
    ∷ decode_of (0xB6 ∷ 0x20 ∷ 0x05 ∷ []) (origin 0 Unknown)
    ∷ []

pub cases :
    (map ask asked ≡ answered)
    × (meant ≡ answer 2 54 (Memory 0x2005) ∷ answer 2 54 (Memory 0x0005) ∷ answer 3 54 (Memory 0x2005) ∷ [])
unfolding pick bits_of valid_of table_of page0 page10 page11 merged_of placed has_form_of known_of code_of row_of is_wide is_long sizes.number_at number_size_of least_at smallest_size_of any_unknown strange_list among size_of paired_of written.code_of shifted outside direct_of unseen meaning.joined number_of numbered_of numbered_at operands.operand_of coded_of front_of decode_of bytes_of row_at label_row node_in node_value narrow_of value_of evaluations stepped recognised narrower agreeing lawful sound becomes_direct extended_form register_form form_of strays lacks needs_value forced_wide leaves_direct stays_direct directly_of anew_as anew_of address_of is_pair own_stack listed_of registers_of choose_of number_bytes operand_bytes code_size behind_code laid_at laid_of no_values instruction_of made_as make_of operand_refusal early_of dirties_of accepted_of tried_of fresh_of byte_in is_flag flag_in flagged_in registers_in fields_in told_in operand_of place_of earlier number_at statement_of statement_at operand_row entry_in entry_at overfull_at asked_of own_label entry_refusal labelled made_of setdp_effect effect_at counted_of values_at first_bearer bearer_of ill_of begun_state begun_rows begun_table marks_of marked_labels marked_state effect_in sized_state judged advanced_state advanced_starts mark_of resize_of advance_of done_of step_of walk_of walk_to answer_of after_of settle_of passed_of overfull_in too_many ended_of address_at page_at gather end_of
cases = (refl, refl)
