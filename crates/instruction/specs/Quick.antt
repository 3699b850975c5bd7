-- The quick ways of a build: what it asks first, so that it looks a row up once, and what it comes to without its operand. Nothing here has to be believed: proofs/Quick.antt
-- shows that it comes to what Building.antt defines.
use Rattle.std.specs.Prelude.{◌≡◌, Bool, true, ◌&&◌, not, Result, ltb, Ok, Err}
use Rattle.ground.specs.Choice.{pick}
use Rattle.values.specs.Widths.{valid_of}
use Rattle.ground.specs.declared.refusals.Refusal.{Refusal}
use Rattle.rows.specs.Lookup.{has_form_of}
use Rattle.postbytes.specs.Lists.{strange_list}
use Rattle.instruction.specs.declared.Operand.{Operand}
use Rattle.instruction.specs.declared.Values.{Values}
use Rattle.instruction.specs.declared.Instruction.{Instruction}
use Rattle.instruction.specs.declared.Built.{Built}
use Rattle.instruction.specs.declared.Outcome.{Outcome}
use Rattle.instruction.specs.Records.{stepped, agreeing}
use Rattle.instruction.specs.Forms.{strays, needs_value}

-- what 1 asks of an operand beside its operation
unfoldable pub regular : Operand → Bool
regular o = ltb o.mode 8 && (not (strange_list o.registers o.count) && stepped o)

-- "required value missing"
unfoldable pub misses : Instruction → Values → Bool
misses i v = needs_value i.operand.mode i.form && not v.given

-- what 1 asks of two evaluations
unfoldable pub matched : Values → Bool
matched v = valid_of v.unsigned && (valid_of v.signed && agreeing v)

-- what 1 asks of the values where there are some, and 3 where there are none
unfoldable pub valued : Instruction → Values → Bool
valued i v = pick v.given (matched v) (not (needs_value i.operand.mode i.form))

-- all that 1, 2 and 3 ask but for what a row tells, that the operation is known and has the form
unfoldable pub fit : Instruction → Values → Bool
fit i v = regular i.operand && (ltb i.form 7 && (valued i v && not (strays i.operand.mode i.form)))

-- a code that was found, of what was chosen, tells that the instruction's row has its form
abbrev pub CodeTells : Instruction → Values → Bool → Type 0
CodeTells i v found = fit i v ≡ true → found ≡ true → has_form_of i.operand.operation i.form ≡ true

-- an accepted build but for the operand, which it never changes
abbrev pub without_operand : Built → Outcome
without_operand b = record {
  form = b.instruction.form;
  trial = b.instruction.trial;
  widened = b.instruction.widened;
  bytes = b.bytes;
  length = b.length;
  dirties = b.dirties;
}

abbrev pub outcome_of : Result Built Refusal → Result Outcome Refusal
outcome_of (Ok b) = Ok (without_operand b)
outcome_of (Err n) = Err n

-- an instruction that took on what a build came to
abbrev pub with_outcome : Instruction → Outcome → Built
with_outcome i out = record {
  instruction = record { operand = i.operand; form = out.form; trial = out.trial; widened = out.widened };
  bytes = out.bytes;
  length = out.length;
  dirties = out.dirties;
}
