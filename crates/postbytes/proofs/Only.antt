-- Each contract leaves one answer.
-- Assumes nothing.
use mathlib.Core.Path.{sym, ◌∙◌}
use Rattle.ground.proofs.Single.{Single}
use Rattle.postbytes.proofs.encoding.encode.Kinds as encode_kinds
use Rattle.postbytes.proofs.encoding.encode.Reads as encode
use Rattle.postbytes.proofs.encoding.relative.Kinds as relative_kinds
use Rattle.postbytes.proofs.encoding.relative.Reads as relative
use Rattle.postbytes.proofs.encoding.near.Kinds as near_kinds
use Rattle.postbytes.proofs.encoding.near.Reads as near
use Rattle.postbytes.proofs.encoding.five_bits.Kinds as five_bits_kinds
use Rattle.postbytes.proofs.encoding.five_bits.Reads as five_bits
use Rattle.postbytes.proofs.shapes.shape_of.Kinds as shape_of_kinds
use Rattle.postbytes.proofs.shapes.shape_of.Reads as shape_of
use Rattle.postbytes.proofs.shapes.extra_of.Kinds as extra_of_kinds
use Rattle.postbytes.proofs.shapes.extra_of.Reads as extra_of
use Rattle.postbytes.proofs.shapes.fill.Kinds as fill_kinds
use Rattle.postbytes.proofs.shapes.fill.Reads as fill
use Rattle.postbytes.proofs.lists.strange.Kinds as strange_kinds
use Rattle.postbytes.proofs.lists.strange.Reads as strange
use Rattle.postbytes.proofs.lists.among.Kinds as among_kinds
use Rattle.postbytes.proofs.lists.among.Reads as among
use Rattle.postbytes.proofs.lists.set_of.Kinds as set_of_kinds
use Rattle.postbytes.proofs.lists.set_of.Reads as set_of
use Rattle.postbytes.proofs.lists.push.Kinds as push_kinds
use Rattle.postbytes.proofs.lists.push.Reads as push
use Rattle.postbytes.proofs.lists.registers_of.Kinds as registers_of_kinds
use Rattle.postbytes.proofs.lists.registers_of.Reads as registers_of
use Rattle.postbytes.proofs.lists.pair.Kinds as pair_kinds
use Rattle.postbytes.proofs.lists.pair.Reads as pair
use Rattle.postbytes.proofs.lists.pair_of.Kinds as pair_of_kinds
use Rattle.postbytes.proofs.lists.pair_of.Reads as pair_of

pub encode_single : Single 0 encode_kinds.ps encode_kinds.r encode.Post
encode_single κs a x y s t p q = p ∙ sym q

pub relative_single : Single 0 relative_kinds.ps relative_kinds.r relative.Post
relative_single κs a x y s t p q = p ∙ sym q

pub near_single : Single 0 near_kinds.ps near_kinds.r near.Post
near_single κs a x y s t p q = p ∙ sym q

pub five_bits_single : Single 0 five_bits_kinds.ps five_bits_kinds.r five_bits.Post
five_bits_single κs a x y s t p q = p ∙ sym q

pub shape_of_single : Single 0 shape_of_kinds.ps shape_of_kinds.r shape_of.Post
shape_of_single κs a x y s t p q = p ∙ sym q

pub extra_of_single : Single 0 extra_of_kinds.ps extra_of_kinds.r extra_of.Post
extra_of_single κs a x y s t p q = p ∙ sym q

pub fill_single : Single 0 fill_kinds.ps fill_kinds.r fill.Post
fill_single κs a x y s t p q = p ∙ sym q

pub strange_single : Single 0 strange_kinds.ps strange_kinds.r strange.Post
strange_single κs a x y s t p q = p ∙ sym q

pub among_single : Single 0 among_kinds.ps among_kinds.r among.Post
among_single κs a x y s t p q = p ∙ sym q

pub set_of_single : Single 0 set_of_kinds.ps set_of_kinds.r set_of.Post
set_of_single κs a x y s t p q = p ∙ sym q

pub push_single : Single 0 push_kinds.ps push_kinds.r push.Post
push_single κs a x y s t p q = p ∙ sym q

pub registers_of_single : Single 0 registers_of_kinds.ps registers_of_kinds.r registers_of.Post
registers_of_single κs a x y s t p q = p ∙ sym q

pub pair_single : Single 0 pair_kinds.ps pair_kinds.r pair.Post
pair_single κs a x y s t p q = p ∙ sym q

pub pair_of_single : Single 0 pair_of_kinds.ps pair_of_kinds.r pair_of.Post
pair_of_single κs a x y s t p q = p ∙ sym q
