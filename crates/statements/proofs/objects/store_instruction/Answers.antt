-- `statements::objects::store_instruction` meets its contract.
-- Assumes nothing.
use mathlib.Core.Path.{sym, ◌∙◌}
use Rattle.instruction.specs.Building.{bytes_in}
use Rattle.statements.proofs.Built.{built_told}
use Rattle.statements.proofs.Lengths.{byte_count}
use Rattle.statements.proofs.objects.store_instruction.Goals as goal

pub store_bytes-requires : goal.store_bytes-requires
store_bytes-requires c =
    let a = c.args in
    let told = rw (sym c.built.ensures ∙ c.in-Ok.is) at (built_told a.entry a.page a.here c.ask-asked.result) in
    (told.most, c.requires)

pub returns-in-Ok-clause-value : goal.returns-in-Ok-clause-value
returns-in-Ok-clause-value c =
    let a = c.args in
    let built = sym c.built.ensures ∙ c.in-Ok.is in
    let told = rw built at (built_told a.entry a.page a.here c.ask-asked.result) in
    rw (← c.ask-asked.ensures, built) (sym told.size ∙ byte_count (bytes_in c.in-Ok.built))

pub returns-in-Ok-clause-values_after : goal.returns-in-Ok-clause-values_after
returns-in-Ok-clause-values_after c = rw (← c.ask-asked.ensures, sym c.built.ensures ∙ c.in-Ok.is) c.store_bytes.ensures
