-- `instruction::Instruction::outcome` meets its contract.
-- Assumes nothing.
use native.Mathlib.Omega.{arith}
use Rattle.instruction.proofs.Quick.{code_tells}
use Rattle.instruction.proofs.Instruction.outcome.Goals as goal

pub early-requires : goal.early-requires
early-requires c =
    let a = c.args in
    code_tells a.self a.v a.page a.address c.in-Ok.c (omega arith) c.choose-chosen.ensures c.in-Ok.is c.code_of-coded.ensures c.is_ok.ensures.value
