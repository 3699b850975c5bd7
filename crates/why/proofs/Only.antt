-- Each contract leaves one answer.
-- Assumes nothing.
use mathlib.Core.Path.{sym, ◌∙◌}
use Rattle.ground.proofs.Single.{Single}
use Rattle.why.proofs.Field.number.Kinds as number_kinds
use Rattle.why.proofs.Field.number.Reads as number
use Rattle.why.proofs.Reason.in_parts.Kinds as in_parts_kinds
use Rattle.why.proofs.Reason.in_parts.Reads as in_parts
use Rattle.why.proofs.explain.Kinds as explain_kinds
use Rattle.why.proofs.explain.Reads as explain

pub number_single : Single 0 number_kinds.ps number_kinds.r number.Post
number_single κs a x y s t p q = p ∙ sym q

pub in_parts_single : Single 0 in_parts_kinds.ps in_parts_kinds.r in_parts.Post
in_parts_single κs a x y s t p q = p ∙ sym q

pub explain_single : Single 1 explain_kinds.ps explain_kinds.r explain.Post
explain_single κs a x y s t p q = p ∙ sym q
