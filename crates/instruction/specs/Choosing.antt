-- 01, "Choosing the form", under a page (02 e), and "Index postbytes": what one build of an instruction settles on, or the refusal.
use Rattle.std.specs.Prelude.{ℕ, Bool, true, false, ◌&&◌, ◌||◌, not, eqb, ltb, get_or, Result, Ok, Err}
use Rattle.ground.specs.Choice.{pick}
use Rattle.ground.specs.Words.{plus, minus}
use Rattle.ground.specs.declared.refusals.Refusal.{Refusal}
use Rattle.ground.specs.declared.refusals.Refusal.TheVariants.{BadRegister, SingleStepIndirect, BadWidth, DirectNotAllowed, BranchTooFar}
use Rattle.values.specs.declared.Value.{Value}
use Rattle.values.specs.declared.pages.Page.{Page}
use Rattle.values.specs.Pages.{reaches, is_zero}
use Rattle.rows.specs.Forms.{inherent, immediate, direct, indexed, extended, relative, register}
use Rattle.rows.specs.Sizes.{number_size_of, long_of}
use Rattle.postbytes.specs.declared.Index.TheVariants.{Offset, Counter, Accumulator, Step, Address}
use Rattle.postbytes.specs.Registers.{S, U, PC, not_indexing, not_accumulator}
use Rattle.postbytes.specs.Writing.{near_of}
use Rattle.postbytes.specs.ListsWritten.{push_of, paired_of}
use Rattle.instruction.specs.declared.Operand.{Operand}
use Rattle.instruction.specs.declared.Values.{Values}
use Rattle.instruction.specs.declared.Instruction.{Instruction}
use Rattle.instruction.specs.declared.Chosen.{Chosen}
use Rattle.instruction.specs.declared.Argument.{Argument}
use Rattle.instruction.specs.declared.Argument.TheVariants.{Nothing, Number, Target, Indexed, Relative, Registers}
use Rattle.instruction.specs.Names.{mode_register, mode_offset, mode_pc_relative, mode_inc_dec, mode_extended, mode_direct, exg, tfr, pshs, puls}
use Rattle.instruction.specs.Forms.{becomes_direct}

-- a form with its argument, the marks as they were
abbrev pub settled : Instruction → ℕ → Argument → Chosen
settled i form a =
    record { operation = i.operand.operation; form = form; trial = i.trial; widened = i.widened; argument = a }

-- ---- Inherent
-- "a value on an inherent form"
unfoldable pub inherent_of : Instruction → Values → Result Chosen Refusal
inherent_of i v = pick v.given (Err BadWidth) (Ok (settled i inherent Nothing))

-- ---- Immediate
-- "an 8-bit value widens for a 16-bit row; a 16-bit one below 256 narrows for an 8-bit row"
unfoldable pub immediate_of : Instruction → Values → Result Chosen Refusal
immediate_of i v =
    pick (eqb (number_size_of i.operand.operation immediate) 1 && ltb 255 v.unsigned.number)
    (Err BadWidth)
    (Ok (settled i immediate (Number v.unsigned.number)))

-- ---- Direct and Extended
-- "Forced Direct with a 16-bit-wide value is refused 6.", "under known page 0 only": under any other page every right value is wide
unfoldable pub forced_wide : Instruction → Values → Page → Bool
forced_wide i v page = i.operand.forced && (eqb v.unsigned.width 16 && is_zero page)

-- "on trial it becomes Extended and the mark goes; otherwise refusal 7"
unfoldable pub leaves_direct : Instruction → Values → Result Chosen Refusal
leaves_direct i v =
    pick i.trial
    (Ok (record {
      operation = i.operand.operation;
      form = extended;
      trial = false;
      widened = i.widened;
      argument = Number v.unsigned.number;
    }))
    (Err DirectNotAllowed)

-- what is Direct leaves it where its "page is unknown or not its high byte"
unfoldable pub stays_direct : Instruction → Values → Page → Result Chosen Refusal
stays_direct i v page =
    pick (reaches page v.unsigned.number)
    (pick (forced_wide i v page) (Err BadWidth) (Ok (settled i direct (Number v.unsigned.number))))
    (leaves_direct i v)

-- parser mode Direct. "At each build: .. unforced, .. Direct: becomes Direct", on its page.
unfoldable pub directly_of : Instruction → Values → Page → Result Chosen Refusal
directly_of i v page =
    pick (becomes_direct i.operand v page) (Ok (settled i direct (Number v.unsigned.number)))
    (pick (eqb i.form direct) (stays_direct i v page)
    (Ok (settled i extended (Number v.unsigned.number))))

-- any other mode. 02 n: "an unforced one in Extended mode, on a row with Extended, becomes Extended each time": the form is chosen anew, as a fresh
-- instruction's is, and the mark says that Direct was chosen
unfoldable pub anew_as : Instruction → Values → ℕ → Chosen
anew_as i v form = record {
  operation = i.operand.operation;
  form = form;
  trial = eqb i.operand.mode mode_extended && eqb form direct;
  widened = i.widened;
  argument = Number v.unsigned.number;
}

unfoldable pub anew_of : Instruction → Values → Page → Chosen
anew_of i v page = anew_as i v (pick (becomes_direct i.operand v page) direct extended)

-- "7 only where the parser mode is Direct"
unfoldable pub address_of : Instruction → Values → Page → Result Chosen Refusal
address_of i v page = pick (eqb i.operand.mode mode_direct) (directly_of i v page) (Ok (anew_of i v page))

-- ---- Relative
-- a short branch that was made long, now or in an earlier build
unfoldable pub long_branch : Instruction → Values → Chosen
long_branch i v = record {
  operation = long_of i.operand.operation;
  form = relative;
  trial = i.trial;
  widened = true;
  argument = Target v.unsigned.number;
}

-- "Short branch outside -128..127 becomes the long branch if allowed." It has two bytes, and its distance counts from its end.
unfoldable pub branch_of : Instruction → Values → ℕ → Result Chosen Refusal
branch_of i v address =
    pick (eqb (number_size_of i.operand.operation relative) 2) (Ok (settled i relative (Target v.unsigned.number)))
    (pick i.widened (Ok (long_branch i v))
    (pick (near_of (minus v.unsigned.number (plus address 2))) (Ok (settled i relative (Target v.unsigned.number)))
    (pick i.operand.widening (Ok (long_branch i v)) (Err BranchTooFar))))

-- ---- Indexed
abbrev pub register_at : Operand → ℕ → ℕ
register_at o k = get_or o.registers k 0

-- the width rule: an offset has the number and the width of its signed evaluation. "A missing value is an 8-bit zero, on PC too."
unfoldable pub offset_value : Values → Value
offset_value v = pick v.given v.signed (record { number = 0; width = 8 })

-- Register mode: an accumulator and then the register that it is added to
unfoldable pub accumulator_index : Instruction → Result Chosen Refusal
accumulator_index i =
    pick (not (eqb i.operand.count 2) || (not_accumulator (register_at i.operand 0) || not_indexing (register_at i.operand 1)))
    (Err BadRegister)
    (Ok (settled i indexed (Indexed (Accumulator (register_at i.operand 1) i.operand.indirect (register_at i.operand 0)))))

-- "Constant offset on X, Y, U, S, from the signed value"; "Offset from PC"
unfoldable pub offset_index : Instruction → Values → Result Chosen Refusal
offset_index i v =
    pick (not (eqb i.operand.count 1)) (Err BadRegister)
    (pick (eqb (register_at i.operand 0) PC)
    (Ok (settled i indexed (Indexed (Counter i.operand.indirect (offset_value v)))))
    (pick (not_indexing (register_at i.operand 0)) (Err BadRegister)
    (Ok (settled i indexed (Indexed (Offset (register_at i.operand 0) i.operand.indirect (offset_value v)))))))

-- PCRelative names the one register PC; its target is "the unsigned value (D9)"
unfoldable pub target_index : Instruction → Values → Result Chosen Refusal
target_index i v =
    pick (eqb i.operand.count 1 && eqb (register_at i.operand 0) PC)
    (Ok (settled i indexed (Relative v.unsigned.number i.operand.indirect)))
    (Err BadRegister)

-- "single step made indirect" comes before "register not allowed here"
unfoldable pub step_index : Instruction → Result Chosen Refusal
step_index i =
    pick (i.operand.indirect && (eqb i.operand.step 1 || eqb i.operand.step 3)) (Err SingleStepIndirect)
    (pick (not (eqb i.operand.count 1) || not_indexing (register_at i.operand 0)) (Err BadRegister)
    (Ok (settled i indexed (Indexed (Step (register_at i.operand 0) i.operand.indirect i.operand.step)))))

-- "Extended indirect: 9F and the address. This address .. [is] the unsigned value (D9)."
unfoldable pub address_index : Instruction → Values → Chosen
address_index i v = settled i indexed (Indexed (Address v.unsigned.number))

-- by the parser's mode; Extended is the last that has a postbyte
unfoldable pub index_of : Instruction → Values → Result Chosen Refusal
index_of i v =
    pick (eqb i.operand.mode mode_register) (accumulator_index i)
    (pick (eqb i.operand.mode mode_offset) (offset_index i v)
    (pick (eqb i.operand.mode mode_pc_relative) (target_index i v)
    (pick (eqb i.operand.mode mode_inc_dec) (step_index i) (Ok (address_index i v)))))

-- ---- Register lists
-- EXG and TFR name a pair; PSHS and PULS are on S, PSHU and PULU on U
unfoldable pub is_pair : ℕ → Bool
is_pair o = eqb o exg || eqb o tfr

unfoldable pub own_stack : ℕ → ℕ
own_stack o = pick (eqb o pshs || eqb o puls) S U

unfoldable pub listed_of : Operand → Result ℕ Refusal
listed_of o =
    pick (is_pair o.operation) (paired_of o.registers o.count) (push_of (own_stack o.operation) o.registers o.count)

abbrev pub list_settled : Instruction → Result ℕ Refusal → Result Chosen Refusal
list_settled i (Ok byte) = Ok (settled i register (Registers byte))
list_settled i (Err refusal) = Err refusal

unfoldable pub registers_of : Instruction → Result Chosen Refusal
registers_of i = list_settled i (listed_of i.operand)

-- ---- every form
unfoldable pub choose_of : Instruction → Values → Page → ℕ → Result Chosen Refusal
choose_of i v page address =
    pick (eqb i.form inherent) (inherent_of i v)
    (pick (eqb i.form immediate) (immediate_of i v)
    (pick (eqb i.form direct || eqb i.form extended) (address_of i v page)
    (pick (eqb i.form indexed) (index_of i v)
    (pick (eqb i.form relative) (branch_of i v address) (registers_of i)))))
