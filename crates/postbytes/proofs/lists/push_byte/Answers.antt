-- `postbytes::lists::push_byte` meets its contract. The loop's invariant: the boxes ticked, and those that are left of the row, are the whole row's.
-- Assumes nothing.
use mathlib.Core.Path.{◌≡◌, refl}
use mathlib.Core.List.{List}
use Prim.Native.Nat.{ℕ, ◌+◌, ◌-◌, ◌<◌, ◌≤◌}
use native.Mathlib.Nat.{zero-add}
use native.Mathlib.Omega.{arith}
use lib.ListN.{drop, get_or}
use Rattle.postbytes.specs.Lists.{boxes}
use Rattle.postbytes.specs.ListsWritten.{ticks_of_set}
use Rattle.postbytes.proofs.Boxes.{box_small, set_ticks_small, moved_bit, boxes_ended, box_added}
use Rattle.postbytes.proofs.lists.push_byte.Goals as goal

-- a turn of the loop
turn :
    (own set i byte m : ℕ) {row : List ℕ} →
    row ≡ boxes own →
    byte + ticks_of_set (drop i row) set ≡ ticks_of_set row set →
    i < 8 →
    m ≡ moved_bit set (get_or row i 0) (7 - i) →
    (byte + m ≤ ticks_of_set (boxes own) set) × (byte + m + ticks_of_set (drop (i + 1) row) set ≡ ticks_of_set row set)
turn own set i byte m same inv h e = box_added (λ rs. ticks_of_set rs set) own i byte same inv (moved_bit set) (λ r rs. refl) m h e

pub loop-i-init : goal.loop-i-init
loop-i-init c = zero-add _

pub moved-byte-requires : goal.moved-byte-requires
moved-byte-requires c =
    let small = box_small _ c.loop-i.i c.boxes-row.ensures (omega arith) in
    (small, omega arith)

pub overflow_add-byte : goal.overflow_add-byte
overflow_add-byte c =
    let a = c.args in
    let t = turn a.own a.set c.loop-i.i c.loop-i.byte c.moved-byte.result c.boxes-row.ensures c.loop-i.invariant (omega arith) c.moved-byte.ensures in
    omega (arith, t.0, set_ticks_small a.own a.set)

pub loop-i-preserved : goal.loop-i-preserved
loop-i-preserved c =
    let a = c.args in
    let t = turn a.own a.set c.loop-i.i c.loop-i.byte c.moved-byte.result c.boxes-row.ensures c.loop-i.invariant (omega arith) c.moved-byte.ensures in
    t.1

pub overflow_cast-result : goal.overflow_cast-result
overflow_cast-result c =
    let a = c.args in
    let e : c.loop-i.byte ≡ ticks_of_set (boxes a.own) a.set =
    boxes_ended (λ rs. ticks_of_set rs a.set) a.own c.loop-i.i c.loop-i.byte c.boxes-row.ensures c.loop-i.invariant refl (omega arith)
    in
    omega (arith, e, set_ticks_small a.own a.set)

pub returns : goal.returns
returns c =
    let a = c.args in
    boxes_ended (λ rs. ticks_of_set rs a.set) a.own c.loop-i.i c.loop-i.byte c.boxes-row.ensures c.loop-i.invariant refl (omega arith)
