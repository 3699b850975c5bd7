-- 01, "Operand record": which numbers are known, and which pairs of values are lawful. What is not is refusal 1, decided first and once.
use Rattle.std.specs.Prelude.{ℕ, ◌%◌, Bool, ◌&&◌, ◌||◌, not, eqb, ltb, leb}
use Rattle.ground.specs.Choice.{pick}
use Rattle.values.specs.Widths.{valid_of}
use Rattle.rows.specs.Lookup.{known_of}
use Rattle.postbytes.specs.Lists.{strange_list}
use Rattle.instruction.specs.declared.Operand.{Operand}
use Rattle.instruction.specs.declared.Values.{Values}
use Rattle.instruction.specs.declared.Instruction.{Instruction}
use Rattle.instruction.specs.Names.{mode_inc_dec}

-- the operand with another operation
abbrev pub with_operation : ℕ → Operand → Operand
with_operation operation o = record {
  operation = operation;
  mode = o.mode;
  indirect = o.indirect;
  forced = o.forced;
  registers = o.registers;
  count = o.count;
  step = o.step;
  widening = o.widening;
}

-- "IncDec without a step", whatever the row; steps are numbered 0, which is none, to 4
unfoldable pub stepped : Operand → Bool
stepped o = leb o.step 4 && (not (eqb o.mode mode_inc_dec) || ltb 0 o.step)

-- "operation or field number unknown, over 8 registers, IncDec without a step"
unfoldable pub recognised : Operand → Bool
recognised o = known_of o.operation && (ltb o.mode 8 && (not (strange_list o.registers o.count) && stepped o))

-- "equal modulo 256 or 65536 as the narrower width says"
unfoldable pub narrower : Values → ℕ
narrower v = pick (eqb v.unsigned.width 16 && eqb v.signed.width 16) 65536 256

unfoldable pub agreeing : Values → Bool
agreeing v = eqb (v.unsigned.number % narrower v) (v.signed.number % narrower v)

-- "the two values disagree or exceed their width", if there are values
unfoldable pub lawful : Values → Bool
lawful v = not v.given || (valid_of v.unsigned && (valid_of v.signed && agreeing v))

-- a kept instruction has a form besides
unfoldable pub sound : Instruction → Values → Bool
sound i v = recognised i.operand && (ltb i.form 7 && lawful v)
