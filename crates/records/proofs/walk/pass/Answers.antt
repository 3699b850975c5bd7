-- `records::walk::pass` meets its contract: at the head of each loop the text still ahead completes the whole, and so it does on every way out.
-- Assumes nothing.
use mathlib.Core.Path.{refl}
use native.Mathlib.Omega.{arith}
use lib.ListN.{get_or}
use Rattle.records.proofs.Tables.{count_with, values_there}
use Rattle.records.proofs.Rounds.{along_then, value_way, inner_again, outer_begun, outer_without, outer_with, begin_way, passed_over}
use Rattle.records.proofs.walk.pass.Goals as goal

pub objects-preserved-then-kind-ne1 : goal.objects-preserved-then-kind-ne1
objects-preserved-then-kind-ne1 c =
    outer_without c.objects.objects.now c.objects.values.now c.objects.invariant (omega arith) c.if-kind-ne1.true

pub split_at-requires : goal.split_at-requires
split_at-requires c =
    rw (count_with (get_or c.objects.objects.now 0 0) (get_or c.objects.objects.now 2 0) c.if-kind-ne1.false) (values_there c.objects.objects.now c.objects.values.now (omega arith) c.objects.invariant.good)

pub values-init : goal.values-init
values-init c =
    outer_begun c.objects.objects.now c.objects.values.now c.objects.invariant (omega arith) (omega arith) c.if-kind-ne1.false
    c.split_at.ensures.front c.split_at.ensures.back c.begin-present.ensures c.begin-present.auto.out (omega arith)

pub objects-preserved : goal.objects-preserved
objects-preserved c =
    outer_with c.objects.objects.now c.objects.values.now c.objects.invariant (omega arith) (omega arith) c.if-kind-ne1.false
    c.split_at.ensures.front c.split_at.ensures.back c.begin-present.ensures c.begin-present.auto.out c.values.invariant c.in_default-own.len_below

pub values-preserved : goal.values-preserved
values-preserved c =
    inner_again c.values.own.now c.values.invariant (omega arith) c.value-present.ensures c.value-present.auto.out (omega arith)

-- the ways out past the room
pub returns-then-room-present : goal.returns-then-room-present
returns-then-room-present c =
    passed_over
    (begin_way c.objects.objects.now c.objects.values.now c.objects.invariant (omega arith) (omega arith) c.if-kind-ne1.false
    refl refl c.begin-present.ensures c.begin-present.auto.out)
    c.if-room-present.true

pub returns-then-room-present-2 : goal.returns-then-room-present-2
returns-then-room-present-2 c =
    let begun =
    begin_way c.objects.objects.now c.objects.values.now c.objects.invariant (omega arith) (omega arith) c.if-kind-ne1.false
    c.split_at.ensures.front c.split_at.ensures.back c.begin-present.ensures c.begin-present.auto.out in
    let valued = value_way c.values.own.now c.values.invariant (omega arith) c.value-present.ensures c.value-present.auto.out in
    passed_over (along_then begun valued) c.if-room-present-2.true
