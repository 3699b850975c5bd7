-- `reader::sound_line` meets its contract: the bytes of a sound line stand at their places.
-- Assumes nothing.
use mathlib.Core.Path.{sym, subst}
use native.Mathlib.Omega.{arith}
use Rattle.reader.specs.Steps.{LineIs}
use Rattle.reader.proofs.Lines.{part_known, sound_right}
use Rattle.reader.proofs.sound_line.Goals as goal

pub byte_at-high-requires : goal.byte_at-high-requires
byte_at-high-requires c = part_known _ _ _ _ c.requires 1 _ (omega arith) (omega arith)

pub byte_at-low-requires : goal.byte_at-low-requires
byte_at-low-requires c = part_known _ _ _ _ c.requires 2 _ (omega arith) (omega arith)

pub byte_at-kind-requires : goal.byte_at-kind-requires
byte_at-kind-requires c = part_known _ _ _ _ c.requires 3 _ (omega arith) (omega arith)

pub returns : goal.returns
returns c =
    subst (LineIs _ _) (sym c.line_by.ensures)
    (sound_right _ _ _ _ c.requires (omega arith) _ _ _ c.byte_at-high.ensures c.byte_at-low.ensures c.byte_at-kind.ensures)
