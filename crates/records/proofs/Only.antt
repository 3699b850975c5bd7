-- Each contract leaves one answer, and one content of what is lent.
-- Assumes nothing.
use mathlib.Core.Path.{refl, sym, ◌∙◌}
use Rattle.ground.proofs.Single.{Single, SingleLeaving}
use Rattle.records.proofs.hex.store_digits.Kinds as store_digits_kinds
use Rattle.records.proofs.hex.store_digits.Reads as store_digits
use Rattle.records.proofs.text_size.Kinds as text_size_kinds
use Rattle.records.proofs.text_size.Reads as text_size
use Rattle.records.proofs.write_text.Kinds as write_text_kinds
use Rattle.records.proofs.write_text.Reads as write_text

pub store_digits_single : SingleLeaving 1 store_digits_kinds.ps store_digits_kinds.r (λ κs s. s.0.now) store_digits.Post
store_digits_single κs a x y s t p q = (refl, p ∙ sym q)

pub text_size_single : Single 2 text_size_kinds.ps text_size_kinds.r text_size.Post
text_size_single κs a x y s t p q = p ∙ sym q

pub write_text_single : SingleLeaving 3 write_text_kinds.ps write_text_kinds.r (λ κs s. s.1.1.0.now) write_text.Post
write_text_single κs a x y s t p q = (p.0 ∙ sym q.0, p.1 ∙ sym q.1)
