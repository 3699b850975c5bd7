-- Each contract leaves one answer, and one content of what is lent.
-- Assumes nothing.
use mathlib.Core.Path.{sym, ◌∙◌}
use Rattle.ground.proofs.Single.{Single, SingleLeaving}
use Rattle.statements.proofs.listing.rows_of.Kinds as rows_of_kinds
use Rattle.statements.proofs.listing.rows_of.Reads as rows_of_lem
use Rattle.statements.proofs.listing.statement_at.Kinds as statement_at_kinds
use Rattle.statements.proofs.listing.statement_at.Reads as statement_at
use Rattle.statements.proofs.listing.label_at.Kinds as label_at_kinds
use Rattle.statements.proofs.listing.label_at.Reads as label_at
use Rattle.statements.proofs.listing.operand_at.Kinds as operand_at_kinds
use Rattle.statements.proofs.listing.operand_at.Reads as Operand-at
use Rattle.statements.proofs.listing.overfull.Kinds as overfull_kinds
use Rattle.statements.proofs.listing.overfull.Reads as overfull
use Rattle.statements.proofs.listing.object_kind.Kinds as object_kind_kinds
use Rattle.statements.proofs.listing.object_kind.Reads as object_kind
use Rattle.statements.proofs.Turn.turns.Kinds as turns_kinds
use Rattle.statements.proofs.Turn.turns.Reads as turns
use Rattle.statements.proofs.effects.effect.Kinds as effect_kinds
use Rattle.statements.proofs.effects.effect.Reads as effect
use Rattle.statements.proofs.effects.counted.Kinds as counted_kinds
use Rattle.statements.proofs.effects.counted.Reads as counted
use Rattle.statements.proofs.objects.store_values.Kinds as store_values_kinds
use Rattle.statements.proofs.objects.store_values.Reads as store_values
use Rattle.statements.proofs.lone.build.Kinds as build_kinds
use Rattle.statements.proofs.lone.build.Reads as build

pub rows_of_single : Single 1 rows_of_kinds.ps rows_of_kinds.r rows_of_lem.Post
rows_of_single κs a x y s t p q = p ∙ sym q

pub statement_at_single : Single 1 statement_at_kinds.ps statement_at_kinds.r statement_at.Post
statement_at_single κs a x y s t p q = p ∙ sym q

pub label_at_single : Single 1 label_at_kinds.ps label_at_kinds.r label_at.Post
label_at_single κs a x y s t p q = p ∙ sym q

pub operand_at_single : Single 1 operand_at_kinds.ps operand_at_kinds.r Operand-at.Post
operand_at_single κs a x y s t p q = p ∙ sym q

pub overfull_single : Single 1 overfull_kinds.ps overfull_kinds.r overfull.Post
overfull_single κs a x y s t p q = p ∙ sym q

pub object_kind_single : Single 0 object_kind_kinds.ps object_kind_kinds.r object_kind.Post
object_kind_single κs a x y s t p q = p ∙ sym q

pub turns_single : Single 0 turns_kinds.ps turns_kinds.r turns.Post
turns_single κs a x y s t p q = p ∙ sym q

pub effect_single : Single 4 effect_kinds.ps effect_kinds.r effect.Post
effect_single κs a x y s t p q = p ∙ sym q

pub counted_single : Single 0 counted_kinds.ps counted_kinds.r counted.Post
counted_single κs a x y s t p q = p ∙ sym q

pub store_values_single :
    SingleLeaving 5 store_values_kinds.ps store_values_kinds.r (λ κs s. s.1.1.1.1.1.1.1.0.now) store_values.Post
store_values_single κs a x y s t p q = (p.0 ∙ sym q.0, p.1 ∙ sym q.1)

pub build_single : SingleLeaving 5 build_kinds.ps build_kinds.r (λ κs s. s.1.1.1.1.1.1.1.1.0.now) build.Post
build_single κs a x y s t p q = (p.0 ∙ sym q.0, p.1 ∙ sym q.1)
