-- `replay::tables::used` meets its contract.
-- Assumes nothing.
use mathlib.Core.Path.{sym}
use native.Mathlib.Omega.{arith}
use lib.Seq.{length-take-le}
use Rattle.replay.proofs.tables.used.Goals as goal

pub returns : goal.returns
returns c = (omega arith, sym (length-take-le _ _ (omega arith)))
