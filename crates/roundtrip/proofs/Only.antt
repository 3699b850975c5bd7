-- Each contract leaves one answer, and one content of what is lent.
-- Assumes nothing.
use mathlib.Core.Path.{sym, ◌∙◌}
use Rattle.ground.proofs.Single.{Single, SingleLeaving}
use Rattle.roundtrip.proofs.compare.Kinds as compare_kinds
use Rattle.roundtrip.proofs.compare.Reads as compare
use Rattle.roundtrip.proofs.lay_text.Kinds as lay_text_kinds
use Rattle.roundtrip.proofs.lay_text.Reads as lay_text

pub compare_single : Single 2 compare_kinds.ps compare_kinds.r compare.Post
compare_single κs a x y s t p q = p ∙ sym q

pub lay_text_single : SingleLeaving 2 lay_text_kinds.ps lay_text_kinds.r (λ κs s. s.1.1.0.now) lay_text.Post
lay_text_single κs a x y s t p q = (p.0 ∙ sym q.0, p.1 ∙ sym q.1)
