-- `roundtrip::comparing::meant_at` meets its contract: the row begins at its place and goes on to the list's end.
-- Assumes nothing.
use mathlib.Core.Path.{ap, ◌∙◌}
use Prim.Native.Nat.{◌-◌, ◌%◌}
use native.Mathlib.Omega.{arith}
use lib.ListN.{length, drop, length-drop}
use lib.Seq.{take_all}
use Rattle.instruction.specs.declared.Record.{Record}
use Rattle.instruction.specs.Building.{fresh_of}
use Rattle.meanings.specs.ReadBack.{read_told}
use Rattle.entries.specs.Entries.{entry_of}
use Rattle.laying.specs.Entries.{entry_at}
use Rattle.laying.specs.Laying.{built_at}
use Rattle.roundtrip.proofs.comparing.meant_at.Goals as goal

pub returns : goal.returns
unfolding entry_at built_at
returns c =
    let a = c.args in
    let l = a.list.now in
    c.meant.ensures
    ∙ ap (λ (x : Record). read_told x.values (a.at % 65536) (fresh_of x (a.at % 65536)))
    (c.entry_of-entry.ensures ∙ ap entry_of (take_all (length l - a.row) (drop a.row l) (omega (arith, length-drop a.row l))))
