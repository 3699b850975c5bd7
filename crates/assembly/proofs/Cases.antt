-- A small program of our own choosing, of the definitions: ORG $100, and FCC "AB" with label 0.
-- Assumes nothing.
use mathlib.Core.Path.{◌≡◌, refl}
use mathlib.Core.List.{List, [], ◌∷◌, ◌++◌, map}
use Prim.Native.Nat.{ℕ}
use lib.ListN.{replicate}
use mathlib.Core.Bool.{true}
use Rattle.std.proofs.Common.{Ok, Err}
use Rattle.ground.specs.Choice.{pick}
use Rattle.ground.specs.declared.refusals.Refusal.TheVariants.{NoRoom}
use Rattle.segments.specs.Segments.{holds_of, inserted, added_to, table_after}
use Rattle.segments.specs.Segments as segments
use Rattle.expressions.specs.Finding.{row_at, label_row, node_in, label_in, node_value, label_value}
use Rattle.expressions.specs.Answers.{narrow_of, value_of, evaluation}
use Rattle.records.specs.Hex.{hex_of}
use Rattle.records.specs.Line.{check_of, body, line}
use Rattle.records.specs.Objects.{bytes_of, count_of, object_of}
use Rattle.records.specs.Text.{recs, text_of}
use Rattle.statements.specs.Order.{place_of, earlier}
use Rattle.statements.specs.Listing.{none, number_at, item_at, statement_of, statement_at, entry_at, overfull_at}
use Rattle.statements.specs.Asking.{wanted_of, character_of, answers_from}
use Rattle.statements.specs.Effects as effects
use Rattle.statements.specs.Effects.{own_label, data_refusal, effect_at, counted_of}
use Rattle.statements.specs.Objects.{values_at}
use Rattle.passes.specs.Labels.{first_bearer, bearer_of, ill_of, begun_state, begun_rows, begun_table, laid_over, label_fits, labels_fit}
use Rattle.passes.specs.Walks.{Source, source, marks_of, marked_labels, marked_state, effect_in, sized_state, judged, origin_from, advanced_state, advanced_starts, mark_of, resize_of, advance_of, done_of, step_of, walk_of, walk_to}
use Rattle.passes.specs.Passes.{after_of, settle_of, passed_of, overfull_in, too_many, ended_of}
use Rattle.passes.specs.Passes as passes
use Rattle.assembly.specs.declared.Hexed.{Hexed}
use Rattle.assembly.specs.Objects.{object_row, values_built, stands_at, object_built, address_at, page_at, object_in, values_in, gather, objects_of, values_of}
use Rattle.assembly.specs.Answers.{fitting, accepted_of, labelled}
use Rattle.assembly.specs.Text.{settled_text, hex_length, hexed_of}

abbrev org : ℕ → List ℕ
org node = 6 ∷ none ∷ node ∷ replicate 17 0

abbrev program : Source
program =
    source (org 0 ++ (5 ∷ 0 ∷ none ∷ 0 ∷ 2 ∷ replicate 15 0)) (65 ∷ 66 ∷ []) (0 ∷ 0x100 ∷ 0 ∷ [])

-- one label, as yet undefined
abbrev labels : List ℕ
labels = 0 ∷ 0 ∷ 0 ∷ []

abbrev written_in : ℕ → Hexed
written_in length = record { passes = 2; length = Ok length }

abbrev no_room : Hexed
no_room = record { passes = 2; length = Err NoRoom }

-- room for everything; and with one number, or one character, less in one of the lent tables
abbrev ask : List ℕ → Hexed
ask [] = written_in 0
ask (l ∷ []) = written_in 0
ask (l ∷ o ∷ []) = written_in 0
ask (l ∷ o ∷ v ∷ []) = written_in 0
ask (l ∷ o ∷ v ∷ t ∷ more) = hexed_of program (replicate l 0) o v t

abbrev asked : List (List ℕ)
asked =
    (3 ∷ 6 ∷ 4 ∷ 28 ∷ []) ∷ (2 ∷ 6 ∷ 4 ∷ 28 ∷ []) ∷ (3 ∷ 5 ∷ 4 ∷ 28 ∷ []) ∷ (3 ∷ 6 ∷ 3 ∷ 28 ∷ []) ∷ (3 ∷ 6 ∷ 4 ∷ 27 ∷ []) ∷ []

abbrev answered : List Hexed
answered =
    written_in 28 ∷ no_room ∷ no_room ∷ no_room ∷ no_room ∷ []

-- 9 for each want of room, with the passes made
pub rooms : map ask asked ≡ answered
unfolding pick holds_of inserted segments.counted_of segments.placed added_to table_after row_at label_row node_in label_in node_value label_value narrow_of value_of evaluation hex_of check_of body line bytes_of count_of object_of recs text_of place_of earlier number_at item_at statement_of statement_at entry_at overfull_at wanted_of character_of answers_from own_label effects.labelled data_refusal effect_at counted_of values_at first_bearer bearer_of ill_of begun_state begun_rows begun_table laid_over marks_of marked_labels marked_state effect_in sized_state judged origin_from advanced_state advanced_starts mark_of resize_of advance_of done_of step_of walk_of walk_to passes.end_of passes.answer_of after_of settle_of passed_of overfull_in too_many ended_of object_row values_built stands_at object_built address_at page_at object_in values_in gather objects_of values_of label_fits labels_fit fitting accepted_of labelled settled_text hex_length hexed_of
rooms = refl

-- `:0201000041427A` and the end record; an object without data for the ORG where it moves to and one for the FCC; the label's address
pub written :
    (settled_text program labels
    ≡ 58 ∷ 48 ∷ 50 ∷ 48 ∷ 49 ∷ 48 ∷ 48 ∷ 48 ∷ 48 ∷ 52 ∷ 49 ∷ 52 ∷ 50 ∷ 55 ∷ 65 ∷ 10 ∷ 58 ∷ 48 ∷ 48 ∷ 48 ∷ 48 ∷ 48 ∷ 48 ∷ 48 ∷ 49 ∷ 70 ∷ 70 ∷ 10 ∷ [])
    × (objects_of program labels ≡ 0 ∷ 0x100 ∷ 0 ∷ 1 ∷ 0x100 ∷ 2 ∷ [])
    × (values_of program labels ≡ 65 ∷ 8 ∷ 66 ∷ 8 ∷ [])
    × (labelled true program labels ≡ 1 ∷ 0x100 ∷ 0 ∷ [])
unfolding pick holds_of inserted segments.counted_of segments.placed added_to table_after row_at label_row node_in label_in node_value label_value narrow_of value_of evaluation hex_of check_of body line bytes_of count_of object_of recs text_of place_of earlier number_at item_at statement_of statement_at entry_at overfull_at wanted_of character_of answers_from own_label effects.labelled data_refusal effect_at counted_of values_at first_bearer bearer_of ill_of begun_state begun_rows begun_table laid_over marks_of marked_labels marked_state effect_in sized_state judged origin_from advanced_state advanced_starts mark_of resize_of advance_of done_of step_of walk_of walk_to passes.end_of passes.answer_of after_of settle_of passed_of overfull_in too_many ended_of object_row values_built stands_at object_built address_at page_at object_in values_in gather objects_of values_of label_fits labels_fit fitting accepted_of labelled settled_text hex_length hexed_of
written = (refl, refl, refl, refl)

-- ORG $100 and ORG *+$10: the location counts as 0 in an ORG's operand, so the second moves to 0010, and its object stands there
pub origins :
    objects_of (source (org 0 ++ org 3) [] (0 ∷ 0x100 ∷ 0 ∷ 2 ∷ 0 ∷ 0 ∷ 0 ∷ 0x10 ∷ 0 ∷ 4 ∷ 1 ∷ 2 ∷ [])) [] ≡ 0 ∷ 0x100 ∷ 0 ∷ 0 ∷ 0x10 ∷ 0 ∷ []
unfolding pick holds_of inserted segments.counted_of segments.placed added_to table_after row_at label_row node_in label_in node_value label_value narrow_of value_of evaluation place_of earlier number_at statement_of statement_at entry_at overfull_at wanted_of own_label effects.labelled effect_at counted_of values_at first_bearer bearer_of ill_of begun_state begun_rows begun_table marks_of marked_labels marked_state effect_in sized_state judged origin_from advanced_state advanced_starts mark_of resize_of advance_of done_of step_of walk_of walk_to passes.end_of passes.answer_of after_of settle_of passed_of overfull_in too_many ended_of object_row values_built stands_at object_built address_at page_at object_in gather objects_of
origins = refl
