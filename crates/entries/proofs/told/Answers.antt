-- `entries::told` meets its contract.
-- Assumes nothing.
use mathlib.Core.Path.{◌≡◌, refl, ◌∙◌}
use mathlib.Core.Bool.{Bool, true, false}
use mathlib.Core.List.{List}
use Prim.Native.Nat.{ℕ}
use Rattle.ground.specs.Choice.{pick}
use Rattle.instruction.specs.declared.Operand.{Operand}
use Rattle.entries.specs.Entries.{nowhere, byte_in, flag_in, registers_in, fields_in, told_in}
use Rattle.entries.proofs.told.Goals as goal

-- only the operation hangs on the flags
abbrev fields : ℕ → List ℕ → Operand
fields operation row = record {
  operation = operation;
  mode = byte_in row 1;
  indirect = flag_in row 2;
  forced = flag_in row 3;
  registers = registers_in row;
  count = byte_in row 6;
  step = byte_in row 4;
  widening = flag_in row 5;
}

told_is : (flags : Bool) (row : List ℕ) → fields (pick flags (byte_in row 0) nowhere) row ≡ told_in flags row
unfolding told_in fields_in pick
told_is true row = refl
told_is false row = refl

pub returns : goal.returns
unfolding flag_in byte_in
returns c =
    let a = c.args in
    (cc) ∙ told_is a.flags _
