-- Each contract leaves one answer, and one content of what is lent.
-- Assumes nothing.
use mathlib.Core.Path.{sym, ◌∙◌}
use Rattle.ground.proofs.Single.{Single, SingleLeaving}
use Rattle.answers.proofs.hand.Kinds as hand_kinds
use Rattle.answers.proofs.hand.Reads as hand
use Rattle.answers.proofs.hand_both.Kinds as hand_both_kinds
use Rattle.answers.proofs.hand_both.Reads as hand_both
use Rattle.answers.proofs.late.Kinds as late_kinds
use Rattle.answers.proofs.late.Reads as late
use Rattle.answers.proofs.beside.Kinds as beside_kinds
use Rattle.answers.proofs.beside.Reads as beside
use Rattle.answers.proofs.size.Kinds as size_kinds
use Rattle.answers.proofs.size.Reads as size
use Rattle.answers.proofs.flag.Kinds as flag_kinds
use Rattle.answers.proofs.flag.Reads as flag
use Rattle.answers.proofs.wide.Kinds as wide_kinds
use Rattle.answers.proofs.wide.Reads as wide

pub hand_single : SingleLeaving 2 hand_kinds.ps hand_kinds.r (λ κs s. s.1.1.0.now) hand.Post
hand_single κs a x y s t p q = (p.0 ∙ sym q.0, p.1 ∙ sym q.1)

pub hand_both_single : SingleLeaving 3 hand_both_kinds.ps hand_both_kinds.r (λ κs s. s.1.1.1.0.now) hand_both.Post
hand_both_single κs a x y s t p q = (p.0 ∙ sym q.0, p.1 ∙ sym q.1)

pub late_single : Single 0 late_kinds.ps late_kinds.r late.Post
late_single κs a x y s t p q = p ∙ sym q

pub beside_single : Single 0 beside_kinds.ps beside_kinds.r beside.Post
beside_single κs a x y s t p q = p ∙ sym q

pub size_single : Single 0 size_kinds.ps size_kinds.r size.Post
size_single κs a x y s t p q = p ∙ sym q

pub flag_single : Single 0 flag_kinds.ps flag_kinds.r flag.Post
flag_single κs a x y s t p q = p ∙ sym q

pub wide_single : Single 0 wide_kinds.ps wide_kinds.r wide.Post
wide_single κs a x y s t p q = p ∙ sym q
