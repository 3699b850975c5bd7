-- `postbytes::lists::push` meets its contract.
-- Assumes nothing.
use mathlib.Core.Path.{◌≡◌, ap, ◌∙◌}
use mathlib.Core.Bool.{Bool, false}
use mathlib.Core.List.{List}
use Prim.Native.Nat.{ℕ, ◌/◌, ◌%◌, ◌^◌}
use lib.Dec.{eqb}
use lib.ListN.{take}
use Rattle.std.specs.Prelude.{Ok}
use Rattle.ground.specs.Choice.{pick}
use Rattle.ground.proofs.Tests.{neither_left}
use Rattle.postbytes.specs.Lists.{among, not_stack, boxes}
use Rattle.postbytes.specs.ListsWritten.{ticks_of_set, push_byte_of, push_of}
use Rattle.postbytes.specs.Meanings.{set_of}
use Rattle.postbytes.proofs.Sets.{stack_in_set, push_byte_of_set}
use Rattle.postbytes.proofs.lists.push.Goals as goal

-- the test of the own pointer in the list's set is that of the list
own_in_set :
    {set : ℕ} {there : Bool} (own : ℕ) (list : List ℕ) →
    not_stack own ≡ false →
    set ≡ set_of list →
    there ≡ eqb (set / 2 ^ own % 2) 1 →
    there ≡ among own list
own_in_set own list n s e = e ∙ ap (λ (k : ℕ). eqb (k / 2 ^ own % 2) 1) s ∙ stack_in_set own list n

pub returns-then-barred : goal.returns-then-barred
unfolding push_of pick
returns-then-barred c =
    let a = c.args in
    let e : c.has.result ≡ among a.own (take a.count a.registers) =
    own_in_set a.own (take a.count a.registers) (neither_left _ _ c.if-bad.false) c.set_of-set.ensures c.has.ensures
    in
    rw (← c.strange.ensures, c.if-bad.false, ← e, c.if-barred.true)

pub returns : goal.returns
unfolding push_of pick
returns c =
    let a = c.args in
    let list = take a.count a.registers in
    let e : c.has.result ≡ among a.own list =
    own_in_set a.own list (neither_left _ _ c.if-bad.false) c.set_of-set.ensures c.has.ensures
    in
    let b : c.push_byte.result ≡ push_byte_of a.own list =
    c.push_byte.ensures ∙ ap (ticks_of_set (boxes a.own)) c.set_of-set.ensures ∙ push_byte_of_set a.own list
    in
    rw (← c.strange.ensures, c.if-bad.false, ← e, c.if-barred.false) (ap Ok b)
