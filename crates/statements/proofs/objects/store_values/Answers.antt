-- `statements::objects::store_values` meets its contract: each kind of statement has its own values.
-- Assumes nothing.
use mathlib.Core.Path.{refl}
use Rattle.statements.specs.Objects.{values_at}
use Rattle.statements.proofs.Lengths.{data_count, put_within}
use Rattle.statements.proofs.objects.store_values.Goals as goal

pub returns-in-Label : goal.returns-in-Label
unfolding values_at
returns-in-Label c = rw (← c.statement_at-statement.ensures, c.in-Label.is) (record { value = refl; values_after = refl })

pub returns-in-Instruction : goal.returns-in-Instruction
unfolding values_at
returns-in-Instruction c =
    let a = c.args in
    rw (← c.statement_at-statement.ensures, c.in-Instruction.is, ← c.operand_at-entry.ensures, ← put_within a.values.now a.place, ← c.within-at.ensures)
    (record { value = c.store_instruction.ensures.value; values_after = c.store_instruction.ensures.values_after })

pub returns-in-Rmb : goal.returns-in-Rmb
unfolding values_at
returns-in-Rmb c = rw (← c.statement_at-statement.ensures, c.in-Rmb.is) (record { value = refl; values_after = refl })

pub returns-in-Fcb : goal.returns-in-Fcb
unfolding values_at
returns-in-Fcb c =
    let a = c.args in
    rw (← c.statement_at-statement.ensures, c.in-Fcb.is, ← put_within a.values.now a.place, ← c.within-at.ensures)
    (record { value = data_count _ _ _ _ _ _ _; values_after = c.store_data.ensures })

pub returns-in-Fdb : goal.returns-in-Fdb
unfolding values_at
returns-in-Fdb c =
    let a = c.args in
    rw (← c.statement_at-statement.ensures, c.in-Fdb.is, ← put_within a.values.now a.place, ← c.within-at.ensures)
    (record { value = data_count _ _ _ _ _ _ _; values_after = c.store_data-in-Fdb.ensures })

pub returns-in-Fcc : goal.returns-in-Fcc
unfolding values_at
returns-in-Fcc c =
    let a = c.args in
    rw (← c.statement_at-statement.ensures, c.in-Fcc.is, ← put_within a.values.now a.place, ← c.within-at.ensures)
    (record { value = data_count _ _ _ _ _ _ _; values_after = c.store_data-in-Fcc.ensures })

pub returns-in-Org : goal.returns-in-Org
unfolding values_at
returns-in-Org c = rw (← c.statement_at-statement.ensures, c.in-Org.is) (record { value = refl; values_after = refl })

pub returns-in-Setdp : goal.returns-in-Setdp
unfolding values_at
returns-in-Setdp c = rw (← c.statement_at-statement.ensures, c.in-Setdp.is) (record { value = refl; values_after = refl })

pub returns-in-Unknown : goal.returns-in-Unknown
unfolding values_at
returns-in-Unknown c = rw (← c.statement_at-statement.ensures, c.in-Unknown.is) (record { value = refl; values_after = refl })
