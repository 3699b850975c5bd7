-- Each contract leaves one answer, and one content of what is lent.
-- Assumes nothing.
use mathlib.Core.Path.{sym, refl, ◌∙◌}
use mathlib.Core.List.{List}
use Prim.Native.Nat.{ℕ}
use Rattle.ground.proofs.Single.{Single, SingleLeaving, same_both}
use Rattle.passes.proofs.settle.Kinds as settle_kinds
use Rattle.passes.proofs.settle.Reads as settle
use Rattle.passes.proofs.settle_in.Kinds as settle_in_kinds
use Rattle.passes.proofs.settle_in.Reads as settle_in
use Rattle.passes.proofs.too_many.Kinds as too_many_kinds
use Rattle.passes.proofs.too_many.Reads as too_many
use Rattle.passes.proofs.labels.store_labels.Kinds as store_labels_kinds
use Rattle.passes.proofs.labels.store_labels.Reads as store_labels
use Rattle.passes.proofs.labels.labels_fit.Kinds as labels_fit_kinds
use Rattle.passes.proofs.labels.labels_fit.Reads as labels_fit

pub settle_single : SingleLeaving 4 settle_kinds.ps settle_kinds.r (λ κs s. s.1.1.1.0.now) settle.Post
settle_single κs a x y s t p q = (p.0 ∙ sym q.0, p.1 ∙ sym q.1)

pub settle_in_single :
    SingleLeaving {B = List ℕ × List ℕ} 6 settle_in_kinds.ps settle_in_kinds.r (λ κs s. (s.1.1.1.1.0.now, s.1.1.1.1.1.0.now)) settle_in.Post
settle_in_single κs a x y s t p q = (p.0 ∙ sym q.0, same_both (p.1.0 ∙ sym q.1.0) (p.1.1 ∙ sym q.1.1))

pub too_many_single : Single 2 too_many_kinds.ps too_many_kinds.r too_many.Post
too_many_single κs a x y s t p q = p ∙ sym q

pub store_labels_single : SingleLeaving 2 store_labels_kinds.ps store_labels_kinds.r (λ κs s. s.1.0.now) store_labels.Post
store_labels_single κs a x y s t p q = (refl, p ∙ sym q)

pub labels_fit_single : Single 1 labels_fit_kinds.ps labels_fit_kinds.r labels_fit.Post
labels_fit_single κs a x y s t p q = p ∙ sym q
