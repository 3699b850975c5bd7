-- Each contract leaves one answer.
-- Assumes nothing.
use mathlib.Core.Path.{sym, ◌∙◌}
use Rattle.ground.proofs.Single.{Single}
use Rattle.rows.proofs.merged.Kinds as merged_kinds
use Rattle.rows.proofs.merged.Reads as merged
use Rattle.rows.proofs.known.Kinds as known_kinds
use Rattle.rows.proofs.known.Reads as known
use Rattle.rows.proofs.code_of.Kinds as code_of_kinds
use Rattle.rows.proofs.code_of.Reads as code_of_lem
use Rattle.rows.proofs.has_form.Kinds as has_form_kinds
use Rattle.rows.proofs.has_form.Reads as has_form
use Rattle.rows.proofs.row_of.Kinds as row_of_kinds
use Rattle.rows.proofs.row_of.Reads as row_of
use Rattle.rows.proofs.sizes.number_size.Kinds as number_size_kinds
use Rattle.rows.proofs.sizes.number_size.Reads as number_size
use Rattle.rows.proofs.sizes.immediate_width.Kinds as immediate_width_kinds
use Rattle.rows.proofs.sizes.immediate_width.Reads as immediate_width
use Rattle.rows.proofs.sizes.smallest_size.Kinds as smallest_size_kinds
use Rattle.rows.proofs.sizes.smallest_size.Reads as smallest_size
use Rattle.rows.proofs.sizes.long_of.Kinds as long_of_kinds
use Rattle.rows.proofs.sizes.long_of.Reads as Long-of

pub merged_single : Single 0 merged_kinds.ps merged_kinds.r merged.Post
merged_single κs a x y s t p q = p ∙ sym q

pub known_single : Single 0 known_kinds.ps known_kinds.r known.Post
known_single κs a x y s t p q = p ∙ sym q

pub code_of_single : Single 0 code_of_kinds.ps code_of_kinds.r code_of_lem.Post
code_of_single κs a x y s t p q = p ∙ sym q

pub has_form_single : Single 0 has_form_kinds.ps has_form_kinds.r has_form.Post
has_form_single κs a x y s t p q = p ∙ sym q

pub row_of_single : Single 0 row_of_kinds.ps row_of_kinds.r row_of.Post
row_of_single κs a x y s t p q = p ∙ sym q

pub number_size_single : Single 0 number_size_kinds.ps number_size_kinds.r number_size.Post
number_size_single κs a x y s t p q = p ∙ sym q

pub immediate_width_single : Single 0 immediate_width_kinds.ps immediate_width_kinds.r immediate_width.Post
immediate_width_single κs a x y s t p q = p ∙ sym q

pub smallest_size_single : Single 0 smallest_size_kinds.ps smallest_size_kinds.r smallest_size.Post
smallest_size_single κs a x y s t p q = p ∙ sym q

pub long_of_single : Single 0 long_of_kinds.ps long_of_kinds.r Long-of.Post
long_of_single κs a x y s t p q = p ∙ sym q
