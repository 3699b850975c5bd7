-- `records::walk::Open::finish` meets its contract: the last record's line, and the end record's.
-- Assumes nothing.
use mathlib.Core.List.{[]}
use Prim.Native.Nat.{◌+◌, ◌≤◌}
use native.Mathlib.Omega.{arith}
use Rattle.records.specs.Steps.{Present, holding, pending}
use Rattle.ground.proofs.Stores.{and_then}
use Rattle.records.proofs.Steps.{close_text, closing_short, pending_length}
use Rattle.records.proofs.walk.Open.finish.Goals as goal
use Rattle.records.proofs.walk.Open.finish.Goals.{After-restart-last, Start}

abbrev held : Start → Present
held c = holding c.args.self c.args.bytes.now

near : (c : After-restart-last) → c.restart-last.result.at ≤ c.args.self.at + 76
near c =
    let s = holding c.args.self c.args.bytes.now in
    let n = pending_length s c.requires.0 (omega arith) in
    omega (arith, c.restart-last.ensures.wrote.next, closing_short s.start (pending s) (omega (arith, n)))

pub put_line-requires : goal.put_line-requires
put_line-requires c = omega (arith, near (goal.at.put_line-requires c).After-restart-last)

pub returns : goal.returns
returns c =
    let s = held (goal.at.returns c).Start in
    rw (close_text s.start (pending s) []) (and_then c.restart-last.ensures.wrote c.put_line.ensures)
