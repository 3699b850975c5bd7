-- `ground::buffers::store_all` meets its contract. What is left of the values, stored after those that are, is the whole.
-- Assumes nothing.
use mathlib.Core.Path.{sym, ◌∙◌, ap}
use Prim.Native.Nat.{◌+◌}
use mathlib.Core.List.{List}
use native.Mathlib.Omega.{arith}
use lib.ListN.{drop}
use Rattle.ground.specs.Stores.{put}
use Rattle.ground.proofs.Stores.{drop_here, put_here, put_skip, put_past}
use Rattle.ground.proofs.buffers.store_all.Goals as goal
use Rattle.ground.proofs.buffers.store_all.Goals.{then-i-room, else-i-room}

pub loop-i-preserved : goal.loop-i-preserved
loop-i-preserved g c =
    let at = c.args.at in
    let vs = c.args.values.now in
    let l = c.loop-i in
    elim c.if-i-room.branch [
      | then-i-room w ↦
          let x = w.index-values-i.result in
          ap (λ (d : List g.row.T.Denot). put d (at + (l.i + 1)) (drop (l.i + 1) vs)) w.out-is
          ∙ put_here l.out vs at l.i x (drop_here vs l.i x c.loop-i-test.true w.index-values-i.is)
          ∙ l.invariant
      | else-i-room w ↦
          ap (λ (d : List g.row.T.Denot). put d (at + (l.i + 1)) (drop (l.i + 1) vs)) w.out-is
          ∙ put_skip l.out vs at l.i (omega (arith, w.if-i-room.false, l.auto.out))
          ∙ l.invariant
    ]

pub returns-else-at-out : goal.returns-else-at-out
returns-else-at-out g c = sym (put_past c.args.out.now c.args.at c.args.values.now (omega arith))
