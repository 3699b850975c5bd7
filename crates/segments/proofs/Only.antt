-- Each contract leaves one answer, and one content of what is lent.
-- Assumes nothing.
use mathlib.Core.Path.{◌∙◌, sym}
use Rattle.ground.proofs.Single.{Single, SingleLeaving}
use Rattle.segments.proofs.add.Kinds as add_kinds
use Rattle.segments.proofs.add.Reads as add
use Rattle.segments.proofs.segment_of.Kinds as segment_of_kinds
use Rattle.segments.proofs.segment_of.Reads as segment_of

pub add_single : SingleLeaving 1 add_kinds.ps add_kinds.r (λ κs s. s.0.now) add.Post
add_single κs a x y s t p q = (p.0 ∙ sym q.0, p.1 ∙ sym q.1)

pub segment_of_single : Single 1 segment_of_kinds.ps segment_of_kinds.r segment_of.Post
segment_of_single κs a x y s t p q = p ∙ sym q
