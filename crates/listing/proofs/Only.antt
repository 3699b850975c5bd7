-- The contract leaves one answer, and one content of what is lent.
-- Assumes nothing.
use mathlib.Core.Path.{sym, ◌∙◌}
use Rattle.ground.proofs.Single.{SingleLeaving}
use Rattle.listing.proofs.list_text.Kinds as list_text_kinds
use Rattle.listing.proofs.list_text.Reads as list_text

pub list_text_single : SingleLeaving 2 list_text_kinds.ps list_text_kinds.r (λ κs s. s.1.0.now) list_text.Post
list_text_single κs a x y s t p q = (p.0 ∙ sym q.0, p.1.0 ∙ sym q.1.0)
