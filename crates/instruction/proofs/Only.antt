-- Each contract leaves one answer, and one content of what is lent.
-- Assumes nothing.
use mathlib.Core.Path.{sym, ◌∙◌}
use Rattle.ground.proofs.Single.{Single, SingleLeaving}
use Rattle.instruction.proofs.Operand.refusal.Kinds as refusal_kinds
use Rattle.instruction.proofs.Operand.refusal.Reads as refusal
use Rattle.instruction.proofs.Instruction.make.Kinds as make_kinds
use Rattle.instruction.proofs.Instruction.make.Reads as make
use Rattle.instruction.proofs.Instruction.build.Kinds as build_kinds
use Rattle.instruction.proofs.Instruction.build.Reads as build
use Rattle.instruction.proofs.build_into.Kinds as build_into_kinds
use Rattle.instruction.proofs.build_into.Reads as build_into
use Rattle.instruction.proofs.assemble.Kinds as assemble_kinds
use Rattle.instruction.proofs.assemble.Reads as assemble
use Rattle.instruction.proofs.validity.is_stepped.Kinds as is_stepped_kinds
use Rattle.instruction.proofs.validity.is_stepped.Reads as is_stepped
use Rattle.instruction.proofs.choosing.offset_value.Kinds as offset_value_kinds
use Rattle.instruction.proofs.choosing.offset_value.Reads as offset_value

pub refusal_single : Single 0 refusal_kinds.ps refusal_kinds.r refusal.Post
refusal_single κs a x y s t p q = p ∙ sym q

pub make_single : Single 0 make_kinds.ps make_kinds.r make.Post
make_single κs a x y s t p q = p ∙ sym q

pub build_single : Single 0 build_kinds.ps build_kinds.r build.Post
build_single κs a x y s t p q = p ∙ sym q

pub build_into_single : SingleLeaving 1 build_into_kinds.ps build_into_kinds.r (λ κs s. s.1.1.1.1.0.now) build_into.Post
build_into_single κs a x y s t p q = (p.0 ∙ sym q.0, p.1 ∙ sym q.1)

pub assemble_single : Single 0 assemble_kinds.ps assemble_kinds.r assemble.Post
assemble_single κs a x y s t p q = p ∙ sym q

pub is_stepped_single : Single 0 is_stepped_kinds.ps is_stepped_kinds.r is_stepped.Post
is_stepped_single κs a x y s t p q = p ∙ sym q

pub offset_value_single : Single 0 offset_value_kinds.ps offset_value_kinds.r offset_value.Post
offset_value_single κs a x y s t p q = p ∙ sym q
