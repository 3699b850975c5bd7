-- Each contract leaves one answer.
-- Assumes nothing.
use mathlib.Core.Path.{sym, ◌∙◌}
use Rattle.ground.proofs.Single.{Single}
use Rattle.decoder.proofs.decode.Kinds as decode_kinds
use Rattle.decoder.proofs.decode.Reads as decode
use Rattle.decoder.proofs.next_of_run.Kinds as next_of_run_kinds
use Rattle.decoder.proofs.next_of_run.Reads as next_of_run
use Rattle.decoder.proofs.count_run.Kinds as count_run_kinds
use Rattle.decoder.proofs.count_run.Reads as count_run
use Rattle.decoder.proofs.Kind.in_parts.Kinds as in_parts_kinds
use Rattle.decoder.proofs.Kind.in_parts.Reads as in_parts
use Rattle.decoder.proofs.front.shift.Kinds as shift_kinds
use Rattle.decoder.proofs.front.shift.Reads as shift
use Rattle.decoder.proofs.front.front.Kinds as front_kinds
use Rattle.decoder.proofs.front.front.Reads as front
use Rattle.decoder.proofs.operands.operand.Kinds as operand_kinds
use Rattle.decoder.proofs.operands.operand.Reads as operand

pub decode_single : Single 1 decode_kinds.ps decode_kinds.r decode.Post
decode_single κs a x y s t p q = p ∙ sym q

pub next_of_run_single : Single 1 next_of_run_kinds.ps next_of_run_kinds.r next_of_run.Post
next_of_run_single κs a x y s t p q = p ∙ sym q

pub count_run_single : Single 1 count_run_kinds.ps count_run_kinds.r count_run.Post
count_run_single κs a x y s t p q = p ∙ sym q

pub in_parts_single : Single 0 in_parts_kinds.ps in_parts_kinds.r in_parts.Post
in_parts_single κs a x y s t p q = p ∙ sym q

-- what the crate's own files share
pub shift_single : Single 0 shift_kinds.ps shift_kinds.r shift.Post
shift_single κs a x y s t p q = p ∙ sym q

pub front_single : Single 1 front_kinds.ps front_kinds.r front.Post
front_single κs a x y s t p q = p ∙ sym q

pub operand_single : Single 0 operand_kinds.ps operand_kinds.r operand.Post
operand_single κs a x y s t p q = p ∙ sym q
