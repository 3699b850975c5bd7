-- `postbytes::lists::registers_of` meets its contract. The loop's invariant: the registers read, and those that are left of the row, are the whole row's.
-- Assumes nothing.
use mathlib.Core.Path.{◌≡◌, refl}
use mathlib.Core.List.{List}
use Prim.Native.Nat.{ℕ, ◌+◌, ◌-◌, ◌<◌, ◌≤◌}
use native.Mathlib.Nat.{zero-add}
use native.Mathlib.Omega.{arith}
use lib.ListN.{drop, get_or}
use Rattle.postbytes.specs.Lists.{boxes}
use Rattle.postbytes.specs.ListsRead.{ticked, registers_of}
use Rattle.postbytes.proofs.Boxes.{box_small, ticked_small, moved_bit, boxes_ended, box_added}
use Rattle.postbytes.proofs.lists.registers_of.Goals as goal

-- a turn of the loop
turn :
    (own byte i set m : ℕ) {row : List ℕ} →
    row ≡ boxes own →
    set + ticked (drop i row) byte ≡ ticked row byte →
    i < 8 →
    m ≡ moved_bit byte (7 - i) (get_or row i 0) →
    (set + m ≤ ticked (boxes own) byte) × (set + m + ticked (drop (i + 1) row) byte ≡ ticked row byte)
turn own byte i set m same inv h e = box_added (λ rs. ticked rs byte) own i set same inv (λ r n. moved_bit byte n r) (λ r rs. refl) m h e

pub loop-i-init : goal.loop-i-init
loop-i-init c = zero-add _

pub moved-set-requires : goal.moved-set-requires
moved-set-requires c =
    let small = box_small _ c.loop-i.i c.boxes-row.ensures (omega arith) in
    (omega arith, small)

pub overflow_add-set : goal.overflow_add-set
overflow_add-set c =
    let a = c.args in
    let t = turn a.own a.byte c.loop-i.i c.loop-i.set c.moved-set.result c.boxes-row.ensures c.loop-i.invariant (omega arith) c.moved-set.ensures in
    omega (arith, t.0, ticked_small a.own a.byte)

pub loop-i-preserved : goal.loop-i-preserved
loop-i-preserved c =
    let a = c.args in
    let t = turn a.own a.byte c.loop-i.i c.loop-i.set c.moved-set.result c.boxes-row.ensures c.loop-i.invariant (omega arith) c.moved-set.ensures in
    t.1

pub returns : goal.returns
unfolding registers_of
returns c =
    let a = c.args in
    boxes_ended (λ rs. ticked rs a.byte) a.own c.loop-i.i c.loop-i.set c.boxes-row.ensures c.loop-i.invariant refl (omega arith)
