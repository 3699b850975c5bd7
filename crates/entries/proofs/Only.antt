-- Each contract leaves one answer.
-- Assumes nothing.
use mathlib.Core.Path.{sym, ◌∙◌}
use Rattle.ground.proofs.Single.{Single}
use Rattle.entries.proofs.byte_in.Kinds as byte_in_kinds
use Rattle.entries.proofs.byte_in.Reads as byte_in
use Rattle.entries.proofs.is_flag.Kinds as is_flag_kinds
use Rattle.entries.proofs.is_flag.Reads as is_flag
use Rattle.entries.proofs.flag_in.Kinds as flag_in_kinds
use Rattle.entries.proofs.flag_in.Reads as flag_in
use Rattle.entries.proofs.is_page_in.Kinds as is_page_in_kinds
use Rattle.entries.proofs.is_page_in.Reads as is_page_in
use Rattle.entries.proofs.page_in.Kinds as page_in_kinds
use Rattle.entries.proofs.page_in.Reads as page_in
use Rattle.entries.proofs.operand_of.Kinds as operand_of_kinds
use Rattle.entries.proofs.operand_of.Reads as operand_of
use Rattle.entries.proofs.kept_of.Kinds as kept_of_kinds
use Rattle.entries.proofs.kept_of.Reads as kept_of
use Rattle.entries.proofs.entry_of.Kinds as entry_of_kinds
use Rattle.entries.proofs.entry_of.Reads as entry_of

pub byte_in_single : Single 1 byte_in_kinds.ps byte_in_kinds.r byte_in.Post
byte_in_single κs a x y s t p q = p ∙ sym q

pub is_flag_single : Single 1 is_flag_kinds.ps is_flag_kinds.r is_flag.Post
is_flag_single κs a x y s t p q = p ∙ sym q

pub flag_in_single : Single 1 flag_in_kinds.ps flag_in_kinds.r flag_in.Post
flag_in_single κs a x y s t p q = p ∙ sym q

pub is_page_in_single : Single 1 is_page_in_kinds.ps is_page_in_kinds.r is_page_in.Post
is_page_in_single κs a x y s t p q = p ∙ sym q

pub page_in_single : Single 1 page_in_kinds.ps page_in_kinds.r page_in.Post
page_in_single κs a x y s t p q = p ∙ sym q

pub operand_of_single : Single 1 operand_of_kinds.ps operand_of_kinds.r operand_of.Post
operand_of_single κs a x y s t p q = p ∙ sym q

pub kept_of_single : Single 1 kept_of_kinds.ps kept_of_kinds.r kept_of.Post
kept_of_single κs a x y s t p q = p ∙ sym q

pub entry_of_single : Single 1 entry_of_kinds.ps entry_of_kinds.r entry_of.Post
entry_of_single κs a x y s t p q = p ∙ sym q
