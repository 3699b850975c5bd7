-- Each contract leaves one answer.
-- Assumes nothing.
use mathlib.Core.Path.{sym, ◌∙◌}
use Rattle.ground.proofs.Single.{Single}
use Rattle.meanings.proofs.meaning.Kinds as meaning_kinds
use Rattle.meanings.proofs.meaning.Reads as meaning

pub meaning_single : Single 0 meaning_kinds.ps meaning_kinds.r meaning.Post
meaning_single κs a x y s t p q = p ∙ sym q
