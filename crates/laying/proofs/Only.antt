-- Each contract leaves one answer, and one content of what is lent.
-- Assumes nothing.
use mathlib.Core.Path.{sym, ◌∙◌}
use Rattle.ground.proofs.Single.{Single, SingleLeaving}
use Rattle.laying.proofs.measure.Kinds as measure_kinds
use Rattle.laying.proofs.measure.Reads as measure
use Rattle.laying.proofs.lay.Kinds as lay_kinds
use Rattle.laying.proofs.lay.Reads as lay

pub measure_single : Single 1 measure_kinds.ps measure_kinds.r measure.Post
measure_single κs a x y s t p q = p ∙ sym q

pub lay_single : SingleLeaving 2 lay_kinds.ps lay_kinds.r (λ κs s. s.1.1.0.now) lay.Post
lay_single κs a x y s t p q = (p.0 ∙ sym q.0, p.1 ∙ sym q.1)
