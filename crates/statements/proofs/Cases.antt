-- Statements of our own choosing, under one statement, of the definitions; then what they do to the page, under another.
-- Assumes nothing.
use mathlib.Core.Path.{◌≡◌, refl}
use mathlib.Core.Bool.{Bool, true, false}
use mathlib.Core.List.{List, [], ◌∷◌, map}
use Prim.Native.Nat.{ℕ}
use lib.Dec.{eqb}
use lib.ListN.{length, replicate}
use Rattle.std.specs.Prelude.{Option, None, Some}
use Rattle.ground.specs.Choice.{pick}
use Rattle.ground.specs.declared.refusals.Refusal.{Refusal}
use Rattle.ground.specs.Refusals.{number_of}
use Rattle.values.specs.declared.pages.Page.{Page}
use Rattle.values.specs.declared.pages.Page.TheVariants.{Unknown, Known}
use Rattle.values.specs.Widths.{bits_of, valid_of, widened_of}
use Rattle.rows.specs.Sheet.{page0, page10, page11, table_of}
use Rattle.rows.specs.Lookup.{merged_of, placed, has_form_of, known_of, code_of}
use Rattle.rows.specs.Sizes.{is_wide, is_long, number_size_of, least_at, smallest_size_of}
use Rattle.rows.specs.Sizes as sizes
use Rattle.postbytes.specs.Registers.{A, DP}
use Rattle.postbytes.specs.Lists.{any_unknown, strange_list, among, size_of}
use Rattle.postbytes.specs.ListsWritten.{paired_of}
use Rattle.postbytes.specs.ListsWritten as written
use Rattle.records.specs.Objects.{bytes_of}
use Rattle.expressions.specs.Finding.{row_at, label_row, node_in, label_in, node_value, label_value}
use Rattle.expressions.specs.Answers.{narrow_of, value_of, evaluation, evaluations}
use Rattle.instruction.specs.Names.{mode_register, mode_extended, mode_immediate, tfr}
use Rattle.instruction.specs.Records.{stepped, recognised, narrower, agreeing, lawful, sound}
use Rattle.instruction.specs.Forms.{becomes_direct, extended_form, register_form, form_of, strays, lacks, needs_value}
use Rattle.instruction.specs.Choosing.{immediate_of, anew_as, anew_of, address_of, is_pair, own_stack, listed_of, registers_of, choose_of}
use Rattle.instruction.specs.Bytes.{number_bytes, operand_bytes, code_size, behind_code, laid_at, laid_of}
use Rattle.instruction.specs.Building.{no_values, instruction_of, made_as, make_of, operand_refusal, early_of, dirties_of, accepted_of, tried_of, fresh_of}
use Rattle.statements.specs.declared.Effect.{Effect}
use Rattle.statements.specs.Order.{place_of, earlier}
use Rattle.entries.specs.Entries.{byte_in, is_flag, flag_in, flagged_in, registers_in, fields_in, told_in, operand_of}
use Rattle.statements.specs.Listing.{none, number_at, item_at, statement_of, statement_at, operand_row, entry_in, entry_at, object_of}
use Rattle.statements.specs.Asking.{asked_of, wanted_of, character_of, answers_from}
use Rattle.statements.specs.Turns.{turned}
use Rattle.statements.specs.Effects.{own_label, labelled, entry_refusal, made_of, setdp_effect, data_refusal, effect_at, counted_of}
use Rattle.statements.specs.Objects.{values_at, bytes_at}

-- what is said of a statement: its bytes, or what it counts without bytes, or where it moves to, or its refusal with what it counts all the same
pub data Said : Type 0 where
  bytes : List ℕ → Said
  space : ℕ → Said
  moves : ℕ → Said
  refused : ℕ → ℕ → Said

abbrev said_as : Option Refusal → Option ℕ → ℕ → ℕ → List ℕ → Said
said_as None None size object data_bytes = pick (eqb object 1) (bytes data_bytes) (space size)
said_as None (Some to) size object data_bytes = moves to
said_as (Some why) to size object data_bytes = refused (number_of why) size

abbrev said : Effect → ℕ → List ℕ → Said
said e object data_bytes =
    said_as e.refusal e.to e.size object data_bytes

-- a row, its items, whether its own label is ill, and the running address
pub record Question : Type 0 where
  pub row : List ℕ
  pub items : List ℕ
  pub ill : Bool
  pub at : ℕ

-- node 0 is 12 (hexadecimal), 1 is 1234, 2 is the location, 3 is -1 as the negation of 4, 5 is a label that nobody defined, 6 is 2005, 7 is no node at all
abbrev nodes : List ℕ
nodes =
    0 ∷ 0x12 ∷ 0 ∷ 0 ∷ 0x1234 ∷ 0 ∷ 2 ∷ 0 ∷ 0 ∷ 3 ∷ 4 ∷ 0 ∷ 0 ∷ 1 ∷ 0 ∷ 1 ∷ 7 ∷ 0 ∷ 0 ∷ 0x2005 ∷ 0 ∷ []

abbrev effect_under : Page → Question → Effect
effect_under page q = counted_of q.at (effect_at q.row q.items nodes [] 0 q.at page q.ill)

abbrev said_under : Page → Question → Said
said_under page q =
    said (effect_under page q) (object_of (statement_at q.row 0)) (bytes_at q.row q.items nodes [] 0 q.at page)

-- under page 0, which a pass begins with
abbrev ask : Question → Said
ask q = said_under (Known 0) q

-- a statement of a kind with an operand
abbrev on : ℕ → ℕ → Question
on kind node = record { row = kind ∷ none ∷ node ∷ 0 ∷ 0 ∷ replicate 15 0; items = []; ill = false; at = 0x0100 }

-- a statement of a kind with items
abbrev of : ℕ → List ℕ → Question
of kind items = record { row = kind ∷ none ∷ none ∷ 0 ∷ length items ∷ replicate 15 0; items = items; ill = false; at = 0x0100 }

-- LDA in a mode, with an operand; the mode is a number that may be none
abbrev load : ℕ → ℕ → Question
load mode node = record {
  row = 1 ∷ none ∷ node ∷ 0 ∷ 0 ∷ 54 ∷ mode ∷ replicate 13 0;
  items = [];
  ill = false;
  at = 0x0100;
}

-- TFR A,DP
abbrev transfer : Question
transfer = record {
  row = 1 ∷ none ∷ none ∷ 0 ∷ 0 ∷ tfr ∷ mode_register ∷ 0 ∷ 0 ∷ 0 ∷ 0 ∷ 2 ∷ A ∷ DP ∷ replicate 6 0;
  items = [];
  ill = false;
  at = 0x0100;
}

abbrev ill : Question → Question
ill q = record { row = q.row; items = q.items; ill = true; at = q.at }

abbrev far : Question → Question
far q = record { row = q.row; items = q.items; ill = q.ill; at = 0xFFFF }

abbrev asked : List Question
asked =
    -- FCB, FDB, FCC: bytes, words with a zero high byte where there were 8 bits, characters
    of 3 (0 ∷ 0 ∷ [])
    ∷ of 4 (0 ∷ 1 ∷ [])
    ∷ of 5 (0x41 ∷ 0x42 ∷ [])
    ∷ of 3 []
    -- 16 bits in FCB are 6, the location and -1 among them, and count their full length
    ∷ of 3 (0 ∷ 1 ∷ [])
    ∷ of 3 (2 ∷ [])
    ∷ of 3 (3 ∷ [])
    -- a hole beside a wide value is 3, an undefined label beside both 10, an unknown node beside all 11; the own label is 10
    ∷ of 3 (1 ∷ none ∷ [])
    ∷ of 3 (1 ∷ none ∷ 5 ∷ [])
    ∷ of 3 (1 ∷ none ∷ 5 ∷ 7 ∷ [])
    ∷ ill (of 3 (1 ∷ none ∷ []))
    ∷ ill (of 4 (7 ∷ []))
    -- what is no character is 1
    ∷ ill (of 5 (0x41 ∷ 0x100 ∷ []))
    -- RMB and ORG: a number; without one 3, after the label's 10; the location is the statement's address in RMB and 0 in ORG
    ∷ on 2 0
    ∷ on 2 2
    ∷ on 2 none
    ∷ ill (on 2 none)
    ∷ on 6 1
    ∷ on 6 2
    ∷ on 6 none
    -- a label alone, and an unknown kind
    ∷ on 0 none
    ∷ ill (on 0 none)
    ∷ ill (on 8 none)
    -- an instruction: refused it counts its row's smallest size; 1 comes before any value is asked
    ∷ load mode_immediate 0
    ∷ load mode_immediate 1
    ∷ load mode_immediate none
    ∷ load mode_immediate 5
    ∷ load 8 7
    -- beyond 65535 what is accepted is 18, and none counts; up to 65536 all is well
    ∷ far (of 3 (0 ∷ []))
    ∷ far (of 4 (0 ∷ []))
    ∷ far (of 3 (1 ∷ 1 ∷ []))
    ∷ far (on 2 0)
    ∷ far (on 6 1)
    ∷ []

abbrev answered : List Said
answered =
    bytes (0x12 ∷ 0x12 ∷ [])
    ∷ bytes (0x00 ∷ 0x12 ∷ 0x12 ∷ 0x34 ∷ [])
    ∷ bytes (0x41 ∷ 0x42 ∷ [])
    ∷ bytes []
    ∷ refused 6 2
    ∷ refused 6 1
    ∷ refused 6 1
    ∷ refused 3 2
    ∷ refused 10 3
    ∷ refused 11 4
    ∷ refused 10 2
    ∷ refused 11 2
    ∷ refused 1 2
    ∷ space 0x12
    ∷ space 0x0100
    ∷ refused 3 0
    ∷ refused 10 0
    ∷ moves 0x1234
    ∷ moves 0
    ∷ refused 3 0
    ∷ space 0
    ∷ refused 10 0
    ∷ refused 1 0
    ∷ bytes (0x86 ∷ 0x12 ∷ [])
    ∷ refused 6 2
    ∷ refused 3 2
    ∷ refused 10 2
    ∷ refused 1 2
    ∷ bytes (0x12 ∷ [])
    ∷ refused 18 0
    ∷ refused 6 0
    ∷ refused 18 0
    ∷ moves 0x1234
    ∷ []

pub cases : map ask asked ≡ answered
unfolding pick bits_of valid_of widened_of page0 page10 page11 table_of merged_of placed has_form_of known_of code_of is_wide is_long sizes.number_at number_size_of least_at smallest_size_of any_unknown strange_list bytes_of row_at label_row node_in label_in node_value label_value narrow_of value_of evaluation evaluations stepped recognised narrower agreeing lawful sound form_of strays lacks needs_value immediate_of choose_of number_bytes operand_bytes code_size behind_code laid_at laid_of no_values instruction_of made_as make_of operand_refusal early_of dirties_of accepted_of tried_of fresh_of place_of earlier number_at item_at statement_of statement_at byte_in is_flag flag_in flagged_in registers_in fields_in told_in operand_of operand_row entry_in entry_at asked_of wanted_of character_of answers_from own_label entry_refusal labelled made_of data_refusal effect_at counted_of values_at
cases = refl

-- ---- under a page: what is said of the statement, and the page after it
abbrev ask_under : Page × Question → Said × Page
ask_under (page, q) = (said_under page q, turned (effect_under page q).turn page)

abbrev asked_under : List (Page × Question)
asked_under =
    -- SETDP sets the page; 256 is 1 and 5 with an ill label 10, and keep it
    (Known 0, on 7 0x20)
    ∷ (Known 0x20, on 7 256)
    ∷ (Known 0x20, ill (on 7 5))
    ∷ (Unknown, far (on 7 0))
    -- TFR A,DP leaves it unknown; refused, or beyond 65535, it keeps the page
    ∷ (Known 0x20, transfer)
    ∷ (Known 0x20, ill transfer)
    ∷ (Known 0x20, far transfer)
    -- an address is Direct on its own page alone
    ∷ (Known 0x20, load mode_extended 6)
    ∷ (Known 0, load mode_extended 6)
    ∷ (Unknown, load mode_extended 0)
    ∷ []

abbrev answered_under : List (Said × Page)
answered_under =
    (space 0, Known 0x20)
    ∷ (refused 1 0, Known 0x20)
    ∷ (refused 10 0, Known 0x20)
    ∷ (space 0, Known 0)
    ∷ (bytes (0x1F ∷ 0x8B ∷ []), Unknown)
    ∷ (refused 10 2, Known 0x20)
    ∷ (refused 18 0, Known 0x20)
    ∷ (bytes (0x96 ∷ 0x05 ∷ []), Known 0x20)
    ∷ (bytes (0xB6 ∷ 0x20 ∷ 0x05 ∷ []), Known 0)
    ∷ (bytes (0xB6 ∷ 0x00 ∷ 0x12 ∷ []), Unknown)
    ∷ []

pub page_cases : map ask_under asked_under ≡ answered_under
unfolding pick bits_of valid_of page0 page10 page11 table_of merged_of placed has_form_of known_of code_of is_wide is_long sizes.number_at number_size_of least_at smallest_size_of any_unknown strange_list among size_of paired_of written.code_of bytes_of row_at node_in node_value narrow_of value_of evaluations stepped recognised narrower agreeing lawful sound becomes_direct extended_form register_form form_of strays lacks needs_value anew_as anew_of address_of is_pair own_stack listed_of registers_of choose_of number_bytes operand_bytes code_size behind_code laid_at laid_of no_values instruction_of made_as make_of operand_refusal early_of dirties_of accepted_of tried_of fresh_of place_of earlier number_at statement_of statement_at byte_in is_flag flag_in flagged_in registers_in fields_in told_in operand_of operand_row entry_in entry_at asked_of own_label entry_refusal labelled made_of setdp_effect effect_at counted_of values_at
page_cases = refl
