-- `reader::known_line_at` meets its contract: where a line stands, its count tells where it ends.
-- Assumes nothing.
use native.Mathlib.Omega.{arith}
use Rattle.reader.proofs.Lines.{known_there, known_count, known_end, known_ends, known_sound, known_right}
use Rattle.reader.proofs.known_line_at.Goals as goal

pub overflow_add-at : goal.overflow_add-at
overflow_add-at c = let a = c.args in omega (arith, known_there a.text.now a.at c.requires)

pub byte_at-count-requires : goal.byte_at-count-requires
byte_at-count-requires c = known_count _ _ c.requires

pub overflow_add-end : goal.overflow_add-end
overflow_add-end c = omega (arith, known_end _ _ c.requires _ c.byte_at-count.ensures)

pub overflow_add-end-2 : goal.overflow_add-end-2
overflow_add-end-2 c = omega (arith, known_end _ _ c.requires _ c.byte_at-count.ensures)

pub after_end-requires : goal.after_end-requires
after_end-requires c = known_end _ _ c.requires _ c.byte_at-count.ensures

pub unwrap-next-requires : goal.unwrap-next-requires
unwrap-next-requires c = known_ends _ _ c.requires _ c.byte_at-count.ensures _ c.after_end.ensures

pub sound_line-requires : goal.sound_line-requires
sound_line-requires c =
    known_sound _ _ c.requires _ c.byte_at-count.ensures _ (rw c.unwrap-next.ensures at c.after_end.ensures)

pub unwrap-requires : goal.unwrap-requires
unwrap-requires c = known_right _ _ c.requires _ c.sound_line.ensures

pub returns : goal.returns
returns c = rw c.unwrap.ensures at c.sound_line.ensures
