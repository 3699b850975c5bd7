-- `postbytes::lists::set_of` meets its contract. The loop's invariant: the set is that of the registers before its place.
-- Assumes nothing.
use mathlib.Core.Path.{refl, sym, ap, ap₂, ◌∙◌}
use native.Mathlib.Omega.{arith}
use lib.Bits.{bit_or}
use lib.ListN.{take}
use lib.Seq.{take_all}
use Rattle.ground.specs.Choice.{pick}
use Rattle.postbytes.specs.Lists.{among}
use Rattle.postbytes.specs.Meanings.{set_of}
use Rattle.postbytes.proofs.Sets.{set_more}
use Rattle.postbytes.proofs.Named.{eight}
use Rattle.postbytes.proofs.lists.set_of.Goals as goal

pub loop-register-init : goal.loop-register-init
unfolding set_of among pick
loop-register-init c = refl

pub loop-register-preserved : goal.loop-register-preserved
loop-register-preserved c = ap₂ bit_or c.loop-register.invariant c.named-set.ensures ∙ sym (set_more _ c.loop-register.register-index (omega arith))

pub returns : goal.returns
returns c =
    let a = c.args in
    let rs = take c.min.result a.registers in
    c.loop-register.invariant
    ∙ ap set_of (take_all c.loop-register.register-index rs c.loop-register-test.false ∙ eight c.min.result a.count a.registers (omega arith) c.min.ensures)
