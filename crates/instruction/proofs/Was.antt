-- 01's choice by the flag "page dirty", as it was before 02 e made a page of the flag: kept word for word, for AsBefore.antt to compare with.
-- Assumes nothing.
use Prim.Native.Nat.{ℕ}
use mathlib.Core.Bool.{Bool, false, ◌&&◌, ◌||◌, not}
use lib.Dec.{eqb, ltb}
use Rattle.ground.specs.Choice.{pick}
use Rattle.std.specs.Prelude.{Result, Ok, Err, Option, Some, None}
use Rattle.ground.specs.declared.refusals.Refusal.{Refusal}
use Rattle.ground.specs.declared.refusals.Refusal.TheVariants.{NoSuchMode, BadWidth, Unknown}
use Rattle.rows.specs.Forms.{inherent, immediate, direct, indexed, extended, relative}
use Rattle.rows.specs.Lookup.{has_form_of}
use Rattle.instruction.specs.declared.Operand.{Operand}
use Rattle.instruction.specs.declared.Values.{Values}
use Rattle.instruction.specs.declared.Instruction.{Instruction}
use Rattle.instruction.specs.declared.Chosen.{Chosen}
use Rattle.instruction.specs.declared.Argument.TheVariants.{Number}
use Rattle.instruction.specs.declared.Built.{Built}
use Rattle.instruction.specs.declared.Refused.{Refused}
use Rattle.instruction.specs.Names.{mode_register, mode_extended, mode_direct, mode_immediate, mode_inherent}
use Rattle.instruction.specs.Records.{recognised, lawful}
use Rattle.instruction.specs.Forms.{register_form, lacks}
use Rattle.instruction.specs.Choosing.{settled, inherent_of, immediate_of, leaves_direct, anew_as, index_of, branch_of, registers_of}
use Rattle.instruction.specs.Building.{no_values, made_as, early_of, finished_of, after, handing}

-- the page test: an address that one byte reaches
unfoldable pub on_page : Bool → ℕ → Bool
on_page dirty n = not dirty && ltb n 256

-- "clean, unforced and below 256 is Direct", when it is made; "clean, unforced, below 256, Extended or Direct: becomes Direct", at each build
unfoldable pub becomes_direct : Operand → Values → Bool → Bool
becomes_direct o v dirty = v.given && (not o.forced && on_page dirty v.unsigned.number)

-- "Extended mode: indirect is Indexed; a row without Extended but with Relative is Relative; clean, unforced and below 256 is Direct"
unfoldable pub extended_form : Operand → Values → Bool → ℕ
extended_form o v dirty =
    pick o.indirect indexed
    (pick (not (has_form_of o.operation extended) && has_form_of o.operation relative) relative
    (pick (becomes_direct o v dirty) direct extended))

unfoldable pub form_of : Operand → Values → Bool → ℕ
form_of o v dirty =
    pick (eqb o.mode mode_register) (register_form o)
    (pick (eqb o.mode mode_extended) (extended_form o v dirty)
    (pick (eqb o.mode mode_direct) direct
    (pick (eqb o.mode mode_immediate) immediate
    (pick (eqb o.mode mode_inherent) inherent indexed))))

-- "Forced Direct with a 16-bit-wide value is refused 6."
unfoldable pub forced_wide : Instruction → Values → Bool
forced_wide i v = i.operand.forced && eqb v.unsigned.width 16

-- "Else, Direct with page dirty or value above 255"
unfoldable pub stays_direct : Instruction → Values → Bool → Result Chosen Refusal
stays_direct i v dirty =
    pick (dirty || ltb 255 v.unsigned.number) (leaves_direct i v)
    (pick (forced_wide i v) (Err BadWidth) (Ok (settled i direct (Number v.unsigned.number))))

unfoldable pub directly_of : Instruction → Values → Bool → Result Chosen Refusal
directly_of i v dirty =
    pick (becomes_direct i.operand v dirty) (Ok (settled i direct (Number v.unsigned.number)))
    (pick (eqb i.form direct) (stays_direct i v dirty)
    (Ok (settled i extended (Number v.unsigned.number))))

unfoldable pub anew_of : Instruction → Values → Bool → Chosen
anew_of i v dirty = anew_as i v (pick (becomes_direct i.operand v dirty) direct extended)

unfoldable pub address_of : Instruction → Values → Bool → Result Chosen Refusal
address_of i v dirty = pick (eqb i.operand.mode mode_direct) (directly_of i v dirty) (Ok (anew_of i v dirty))

unfoldable pub choose_of : Instruction → Values → Bool → ℕ → Result Chosen Refusal
choose_of i v dirty address =
    pick (eqb i.form inherent) (inherent_of i v)
    (pick (eqb i.form immediate) (immediate_of i v)
    (pick (eqb i.form direct || eqb i.form extended) (address_of i v dirty)
    (pick (eqb i.form indexed) (index_of i v)
    (pick (eqb i.form relative) (branch_of i v address) (registers_of i)))))

-- an operand record was the operand, the flag and the values
unfoldable pub make_of : Operand → Bool → Values → Result Instruction Refusal
make_of o dirty v = pick (recognised o && lawful v) (made_as o (form_of o v dirty)) (Err Unknown)

unfoldable pub operand_refusal : Operand → Option Refusal
operand_refusal o = pick (recognised o) (pick (lacks o (form_of o no_values false)) (Some NoSuchMode) None) (Some Unknown)

unfoldable pub tried_of : Instruction → Values → Bool → ℕ → Result Built Refusal
tried_of i v dirty address = after (early_of i v) (finished_of i (choose_of i v dirty address) address)

unfoldable pub build_of : Instruction → Values → Bool → ℕ → Result Built Refused
build_of i v dirty address = handing i (tried_of i v dirty address)

abbrev pub fresh_from : Result Instruction Refusal → Bool → Values → ℕ → Result Built Refusal
fresh_from (Ok i) dirty v address = tried_of i v dirty address
fresh_from (Err n) dirty v address = Err n

unfoldable pub fresh_of : Operand → Bool → Values → ℕ → Result Built Refusal
fresh_of o dirty v address = fresh_from (make_of o dirty v) dirty v address
