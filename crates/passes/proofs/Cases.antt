-- Small programs of our own choosing, of the definitions: what `settle` answers, and the label table that it leaves.
-- Assumes nothing.
use mathlib.Core.Path.{◌≡◌, refl}
use mathlib.Core.List.{List, [], ◌∷◌, ◌++◌, map}
use Prim.Native.Nat.{ℕ}
use lib.ListN.{take, replicate}
use Rattle.std.proofs.Common.{Ok, Err}
use Rattle.ground.specs.Choice.{pick}
use Rattle.ground.specs.declared.refusals.Refusal.{Refusal}
use Rattle.ground.specs.declared.refusals.Refusal.TheVariants.{Unknown, NoRoom, BadLabel, SegmentRepeated, NotSettled, Beyond}
use Rattle.values.specs.Widths.{bits_of, valid_of}
use Rattle.rows.specs.Sheet.{page0, page10, page11, table_of}
use Rattle.rows.specs.Lookup.{merged_of, placed, has_form_of, known_of, code_of}
use Rattle.rows.specs.Sizes.{is_wide, is_long, number_size_of, long_from, long_of}
use Rattle.rows.specs.Sizes as sizes
use Rattle.postbytes.specs.Registers.{A, DP}
use Rattle.postbytes.specs.Lists.{any_unknown, strange_list, among, size_of}
use Rattle.postbytes.specs.ListsWritten.{paired_of}
use Rattle.postbytes.specs.ListsWritten as written
use Rattle.segments.specs.Segments.{holds_of, inserted, added_to, table_after}
use Rattle.segments.specs.Segments as segments
use Rattle.expressions.specs.Finding.{row_at, label_row, node_in, label_in, node_value, label_value}
use Rattle.expressions.specs.Answers.{narrow_of, value_of, evaluation, evaluations}
use Rattle.instruction.specs.Names.{mode_register, mode_extended, tfr}
use Rattle.instruction.specs.Records.{stepped, recognised, narrower, agreeing, lawful, sound}
use Rattle.instruction.specs.Forms.{becomes_direct, extended_form, register_form, form_of, strays, lacks, needs_value}
use Rattle.instruction.specs.Choosing.{anew_as, anew_of, address_of, long_branch, branch_of, is_pair, own_stack, listed_of, registers_of, choose_of}
use Rattle.instruction.specs.Bytes.{number_bytes, operand_bytes, code_size, behind_code, laid_at, laid_of}
use Rattle.instruction.specs.Building.{no_values, instruction_of, made_as, make_of, operand_refusal, early_of, dirties_of, accepted_of, tried_of, fresh_of}
use Rattle.statements.specs.Order.{place_of, earlier}
use Rattle.entries.specs.Entries.{byte_in, is_flag, flag_in, flagged_in, registers_in, fields_in, told_in, operand_of}
use Rattle.statements.specs.Listing.{none, rows_of, number_at, statement_of, statement_at, operand_row, entry_in, entry_at, overfull_at}
use Rattle.statements.specs.Asking.{asked_of, wanted_of}
use Rattle.statements.specs.Effects.{own_label, entry_refusal, setdp_effect, effect_at, counted_of, labelled, made_of}
use Rattle.passes.specs.declared.Settled.{Settled}
use Rattle.passes.specs.Labels.{first_bearer, bearer_of, ill_of, begun_state, begun_rows, begun_table, laid_over, label_fits, labels_fit}
use Rattle.passes.specs.Walks.{source, marks_of, marked_labels, marked_state, effect_in, sized_state, judged, origin_from, advanced_state, advanced_starts, mark_of, resize_of, advance_of, done_of, step_of, walk_of, walk_to}
use Rattle.passes.specs.Passes.{end_of, after_of, settle_of, passed_of, overfull_in, too_many, ended_of, settled_end, settled_of, labels_after}
use Rattle.passes.specs.Passes as passes

-- node 0 is 200, 1 label 0, 2 one, 3 one less label 0, 4 hexadecimal 1000, 5 FFFF, 6 label 1, 7 label 2, 8 hexadecimal 100, 9 hexadecimal 2005, 10 five
abbrev nodes : List ℕ
nodes =
    0 ∷ 200 ∷ 0 ∷ 1 ∷ 0 ∷ 0 ∷ 0 ∷ 1 ∷ 0 ∷ 5 ∷ 2 ∷ 1 ∷ 0 ∷ 0x1000 ∷ 0 ∷ 0 ∷ 0xFFFF ∷ 0 ∷ 1 ∷ 1 ∷ 0 ∷ 1 ∷ 2 ∷ 0 ∷ 0 ∷ 0x100 ∷ 0
    ∷ 0 ∷ 0x2005 ∷ 0 ∷ 0 ∷ 5 ∷ 0 ∷ []

-- label 0 stands at a statement or nowhere, whatever address it had; label 1 is label 2, which is node 0
abbrev labels : List ℕ
labels = 1 ∷ 0x1234 ∷ 0 ∷ 2 ∷ 0 ∷ 7 ∷ 2 ∷ 0 ∷ 0 ∷ []

-- a kind, a label and an operand; a short branch that may become long
abbrev row : ℕ → ℕ → ℕ → List ℕ
row kind label node = kind ∷ label ∷ node ∷ replicate 17 0

abbrev rmb : ℕ → List ℕ
rmb node = row 2 none node

abbrev org : ℕ → List ℕ
org node = row 6 none node

abbrev bra : ℕ → List ℕ
bra node = 1 ∷ none ∷ node ∷ 0 ∷ 0 ∷ 80 ∷ mode_extended ∷ 0 ∷ 0 ∷ 0 ∷ 1 ∷ replicate 9 0

abbrev setdp : ℕ → List ℕ
setdp number = row 7 none number

abbrev lda : ℕ → List ℕ
lda node = 1 ∷ none ∷ node ∷ 0 ∷ 0 ∷ 54 ∷ mode_extended ∷ replicate 13 0

-- TFR A,DP
abbrev transfer : List ℕ
transfer = 1 ∷ none ∷ none ∷ 0 ∷ 0 ∷ tfr ∷ mode_register ∷ 0 ∷ 0 ∷ 0 ∷ 0 ∷ 2 ∷ A ∷ DP ∷ replicate 6 0

-- label 0, alone
abbrev here : List ℕ
here = row 0 0 none

abbrev ask : List ℕ → Settled
ask list = settled_of (source list [] nodes) labels

abbrev settled : ℕ → ℕ → Settled
settled passes end = record { passes = passes; end = Ok end }

abbrev refused : Refusal → ℕ → Settled
refused why passes = record { passes = passes; end = Err why }

-- nothing; one byte; a forward branch over 200 bytes; a chain of expressions; ORG forwards and back; a byte at 65535; RMB past it; a label twice; a
-- start twice; an unknown kind after a byte; a label that nobody defined, though the lent table had an address for it; one less label 0 bytes before
-- label 0, which is 1 and 0 in turn
abbrev asked : List (List ℕ)
asked =
    []
    ∷ rmb 2
    ∷ (bra 1 ++ rmb 0 ++ here)
    ∷ rmb 6
    ∷ (org 4 ++ rmb 2 ++ org 8 ++ rmb 2)
    ∷ (org 5 ++ rmb 2)
    ∷ (org 5 ++ rmb 0)
    ∷ (here ++ here)
    ∷ (org 8 ++ org 8)
    ∷ (rmb 2 ++ row 9 none none)
    ∷ rmb 1
    ∷ (rmb 3 ++ here)
    ∷ []

abbrev answered : List Settled
answered =
    settled 1 0
    ∷ settled 2 1
    ∷ settled 3 203
    ∷ settled 2 200
    ∷ settled 2 0x101
    ∷ settled 2 65536
    ∷ refused Beyond 1
    ∷ refused BadLabel 1
    ∷ refused SegmentRepeated 1
    ∷ refused Unknown 2
    ∷ refused BadLabel 1
    ∷ refused NotSettled 64
    ∷ []

pub cases : map ask asked ≡ answered
unfolding pick bits_of valid_of table_of page0 page10 page11 merged_of placed has_form_of known_of code_of is_wide is_long sizes.number_at number_size_of long_from long_of any_unknown strange_list holds_of inserted segments.counted_of added_to segments.placed table_after row_at label_row node_in label_in node_value label_value narrow_of value_of evaluation evaluations stepped recognised narrower agreeing lawful sound becomes_direct extended_form form_of strays lacks needs_value long_branch branch_of choose_of number_bytes operand_bytes code_size behind_code laid_at laid_of instruction_of made_as make_of operand_refusal early_of dirties_of accepted_of tried_of fresh_of place_of earlier number_at statement_of statement_at byte_in is_flag flag_in flagged_in registers_in fields_in told_in operand_of operand_row entry_in entry_at overfull_at asked_of wanted_of own_label entry_refusal effect_at counted_of first_bearer bearer_of ill_of begun_state begun_rows begun_table marks_of marked_labels marked_state effect_in sized_state judged origin_from advanced_state advanced_starts mark_of resize_of advance_of done_of step_of walk_of walk_to end_of passes.answer_of after_of settle_of passed_of overfull_in too_many ended_of label_fits labels_fit settled_end settled_of labelled made_of
cases = refl

-- the lent table after the branch, and after a refusal
pub tables :
    map (λ (list : List ℕ). labels_after (source list [] nodes) labels) ((bra 1 ++ rmb 0 ++ here) ∷ (here ++ here) ∷ [])
    ≡ (1 ∷ 203 ∷ 0 ∷ 2 ∷ 0 ∷ 7 ∷ 2 ∷ 0 ∷ 0 ∷ []) ∷ labels ∷ []
unfolding pick bits_of valid_of table_of page0 page10 page11 merged_of placed has_form_of known_of code_of is_wide is_long sizes.number_at number_size_of long_from long_of any_unknown strange_list holds_of inserted segments.counted_of added_to segments.placed table_after row_at label_row node_in label_in node_value label_value narrow_of value_of evaluation evaluations stepped recognised narrower agreeing lawful sound becomes_direct extended_form form_of strays lacks needs_value long_branch branch_of choose_of number_bytes operand_bytes code_size behind_code laid_at laid_of instruction_of made_as make_of operand_refusal early_of dirties_of accepted_of tried_of fresh_of place_of earlier number_at statement_of statement_at byte_in is_flag flag_in flagged_in registers_in fields_in told_in operand_of operand_row entry_in entry_at overfull_at asked_of wanted_of own_label entry_refusal effect_at counted_of first_bearer bearer_of ill_of begun_state begun_rows begun_table marks_of marked_labels marked_state effect_in sized_state judged origin_from advanced_state advanced_starts mark_of resize_of advance_of done_of step_of walk_of walk_to end_of passes.answer_of after_of settle_of passed_of overfull_in too_many ended_of label_fits labels_fit settled_end settled_of laid_over labels_after labelled made_of
tables = refl

-- a lent table of so many numbers, all 0
abbrev room : List ℕ → ℕ → Settled
room list cells = settled_of (source list [] nodes) (replicate cells 0)

-- label 0 with no row, with one that is cut short, with a whole one; and behind a refused statement, where no 9 is looked for
pub rooms :
    room here 0 ∷ room here 2 ∷ room here 3 ∷ room (row 9 none none ++ here) 0 ∷ []
    ≡ refused NoRoom 1 ∷ refused NoRoom 1 ∷ settled 1 0 ∷ refused Unknown 1 ∷ []
unfolding pick label_row row_at place_of earlier number_at statement_of statement_at entry_at entry_in overfull_at own_label effect_at counted_of first_bearer bearer_of ill_of begun_state begun_rows begun_table marks_of marked_labels marked_state effect_in sized_state judged advanced_state advanced_starts mark_of resize_of advance_of done_of step_of walk_of walk_to end_of passes.answer_of after_of settle_of passed_of overfull_in too_many ended_of label_fits labels_fit settled_end settled_of
rooms = refl

-- what the passes answer, and the size of each statement
abbrev sized : List ℕ → Settled × List ℕ
sized list = (ask list, take (rows_of list) (passed_of (source list [] nodes) labels).sizes)

-- the page: set, forgotten and set again; set at the end of a pass, where the next pass begins at page 0 again; not set by SETDP 256
pub pages :
    sized (setdp 0x20 ++ lda 9 ++ transfer ++ lda 9 ++ setdp 0 ++ lda 10)
    ∷ sized (lda 10 ++ setdp 0x20)
    ∷ sized (setdp 256 ++ lda 10)
    ∷ []
    ≡ (settled 2 9, 0 ∷ 2 ∷ 2 ∷ 3 ∷ 0 ∷ 2 ∷ [])
    ∷ (settled 2 2, 2 ∷ 0 ∷ [])
    ∷ (refused Unknown 2, 0 ∷ 2 ∷ [])
    ∷ []
unfolding pick bits_of valid_of table_of page0 page10 page11 merged_of placed has_form_of known_of code_of is_wide is_long sizes.number_at number_size_of any_unknown strange_list among size_of paired_of written.code_of row_at label_row node_in node_value narrow_of value_of evaluations stepped recognised narrower agreeing lawful sound becomes_direct extended_form register_form form_of strays lacks needs_value anew_as anew_of address_of is_pair own_stack listed_of registers_of choose_of number_bytes operand_bytes code_size behind_code laid_at laid_of no_values instruction_of made_as make_of operand_refusal early_of dirties_of accepted_of tried_of fresh_of place_of earlier number_at statement_of statement_at byte_in is_flag flag_in flagged_in registers_in fields_in told_in operand_of operand_row entry_in entry_at overfull_at asked_of own_label entry_refusal setdp_effect effect_at counted_of first_bearer bearer_of ill_of begun_state begun_rows begun_table marks_of marked_labels marked_state effect_in sized_state judged advanced_state advanced_starts mark_of resize_of advance_of done_of step_of walk_of walk_to end_of passes.answer_of after_of settle_of passed_of overfull_in too_many ended_of label_fits labels_fit settled_end settled_of labelled made_of
pages = refl
