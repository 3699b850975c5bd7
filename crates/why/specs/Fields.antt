-- 02 a: "for a refusal, the field that caused it under 01's order". The fields stand in the order of a record's row (docs/ROWS.md).
use Rattle.std.specs.Prelude.{ℕ, Bool, ◌&&◌, not, List, eqb, ltb}
use Rattle.ground.specs.Choice.{pick}
use Rattle.ground.specs.Refusals.{unknown, no_such_mode, bad_register, single_step_indirect, direct_not_allowed, branch_too_far}
use Rattle.values.specs.Pages.{is_unknown}
use Rattle.rows.specs.Lookup.{known_of}
use Rattle.postbytes.specs.Lists.{strange_list}
use Rattle.instruction.specs.Records.{stepped, lawful}
use Rattle.entries.specs.Entries.{byte_in, is_flag, is_page_in, page_in, registers_in, fields_in, values_in}
use Rattle.why.specs.declared.Field.{Field}
use Rattle.why.specs.declared.Field.TheVariants.{Operation, Mode, Indirect, Forced, Step, Widening, Registers, Page, Values}

-- ---- refusal 1
-- "operation or field number unknown, over 8 registers, IncDec without a step, or the two values disagree or exceed their width": what it asks of each field
abbrev pub is_right : Field → List ℕ → Bool
is_right Operation row = known_of (byte_in row 0)
is_right Mode row = ltb (byte_in row 1) 8
is_right Indirect row = is_flag row 2
is_right Forced row = is_flag row 3
is_right Step row = stepped (fields_in row)
is_right Widening row = is_flag row 5
is_right Registers row = not (strange_list (registers_in row) (byte_in row 6))
is_right Page row = is_page_in row 15
is_right Values row = is_flag row 16 && lawful (values_in row)

-- the field itself if it is wrong, else what the fields after it say
unfoldable pub if_wrong : Bool → Field → Field → Field
if_wrong right field later = pick right later field

-- the first that is wrong, and the last of them where no other is
unfoldable pub first_wrong : List ℕ → Field
first_wrong row =
    if_wrong (is_right Operation row) Operation
    (if_wrong (is_right Mode row) Mode
    (if_wrong (is_right Indirect row) Indirect
    (if_wrong (is_right Forced row) Forced
    (if_wrong (is_right Step row) Step
    (if_wrong (is_right Widening row) Widening
    (if_wrong (is_right Registers row) Registers
    (if_wrong (is_right Page row) Page Values)))))))

-- ---- every refusal of a build
-- 7: "whose page is unknown or not its high byte"
unfoldable pub page_or_values : List ℕ → Field
page_or_values row = pick (is_unknown (page_in row 15)) Page Values

-- 2 is the mode's; 3 and 6 are the values'; 4 is the registers'; 5 "single step made indirect"; 8 "widening off"
unfoldable pub field_of : List ℕ → ℕ → Field
field_of row n =
    pick (eqb n unknown) (first_wrong row)
    (pick (eqb n no_such_mode) Mode
    (pick (eqb n bad_register) Registers
    (pick (eqb n single_step_indirect) Indirect
    (pick (eqb n direct_not_allowed) (page_or_values row)
    (pick (eqb n branch_too_far) Widening Values)))))
