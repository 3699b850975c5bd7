-- Each contract leaves one return, and one content of what is lent.
-- Assumes nothing.
use mathlib.Core.Path.{refl, sym, ◌∙◌}
use mathlib.Core.List.{List}
use Prim.Native.Nat.{ℕ}
use Rattle.ground.proofs.Single.{SingleLeaving, same_both}
use Rattle.joltwagon.proofs.instructing.jw_make.Kinds as jw_make_kinds
use Rattle.joltwagon.proofs.instructing.jw_make.Reads as jw_make
use Rattle.joltwagon.proofs.instructing.jw_assemble.Kinds as jw_assemble_kinds
use Rattle.joltwagon.proofs.instructing.jw_assemble.Reads as jw_assemble
use Rattle.joltwagon.proofs.instructing.jw_build.Kinds as jw_build_kinds
use Rattle.joltwagon.proofs.instructing.jw_build.Reads as jw_build
use Rattle.joltwagon.proofs.explaining.jw_why.Kinds as jw_why_kinds
use Rattle.joltwagon.proofs.explaining.jw_why.Reads as jw_why
use Rattle.joltwagon.proofs.decoding.jw_decode.Kinds as jw_decode_kinds
use Rattle.joltwagon.proofs.decoding.jw_decode.Reads as jw_decode
use Rattle.joltwagon.proofs.decoding.jw_next.Kinds as jw_next_kinds
use Rattle.joltwagon.proofs.decoding.jw_next.Reads as jw_next
use Rattle.joltwagon.proofs.decoding.jw_count.Kinds as jw_count_kinds
use Rattle.joltwagon.proofs.decoding.jw_count.Reads as jw_count
use Rattle.joltwagon.proofs.evaluating.jw_node.Kinds as jw_node_kinds
use Rattle.joltwagon.proofs.evaluating.jw_node.Reads as jw_node
use Rattle.joltwagon.proofs.evaluating.jw_label.Kinds as jw_label_kinds
use Rattle.joltwagon.proofs.evaluating.jw_label.Reads as jw_label
use Rattle.joltwagon.proofs.evaluating.jw_move_labels.Kinds as jw_move_labels_kinds
use Rattle.joltwagon.proofs.evaluating.jw_move_labels.Reads as jw_move_labels
use Rattle.joltwagon.proofs.placing.jw_add_segment.Kinds as jw_add_segment_kinds
use Rattle.joltwagon.proofs.placing.jw_add_segment.Reads as jw_add_segment
use Rattle.joltwagon.proofs.placing.jw_segment_of.Kinds as jw_segment_of_kinds
use Rattle.joltwagon.proofs.placing.jw_segment_of.Reads as jw_segment_of
use Rattle.joltwagon.proofs.lists.jw_lay.Kinds as jw_lay_kinds
use Rattle.joltwagon.proofs.lists.jw_lay.Reads as jw_lay
use Rattle.joltwagon.proofs.settling.jw_settle.Kinds as jw_settle_kinds
use Rattle.joltwagon.proofs.settling.jw_settle.Reads as jw_settle
use Rattle.joltwagon.proofs.settling.jw_hex.Kinds as jw_hex_kinds
use Rattle.joltwagon.proofs.settling.jw_hex.Reads as jw_hex
use Rattle.joltwagon.proofs.texts.jw_text_size.Kinds as jw_text_size_kinds
use Rattle.joltwagon.proofs.texts.jw_text_size.Reads as jw_text_size
use Rattle.joltwagon.proofs.texts.jw_write_text.Kinds as jw_write_text_kinds
use Rattle.joltwagon.proofs.texts.jw_write_text.Reads as jw_write_text
use Rattle.joltwagon.proofs.texts.jw_read_text.Kinds as jw_read_text_kinds
use Rattle.joltwagon.proofs.texts.jw_read_text.Reads as jw_read_text

pub jw_make_single : SingleLeaving 2 jw_make_kinds.ps jw_make_kinds.r (λ κs s. s.1.0.now) jw_make.Post
jw_make_single κs a x y s t p q = (p.0 ∙ sym q.0, p.1 ∙ sym q.1)

pub jw_assemble_single : SingleLeaving 2 jw_assemble_kinds.ps jw_assemble_kinds.r (λ κs s. s.1.1.0.now) jw_assemble.Post
jw_assemble_single κs a x y s t p q = (p.0 ∙ sym q.0, p.1 ∙ sym q.1)

pub jw_build_single : SingleLeaving 3 jw_build_kinds.ps jw_build_kinds.r (λ κs s. s.1.1.1.0.now) jw_build.Post
jw_build_single κs a x y s t p q = (p.0 ∙ sym q.0, p.1 ∙ sym q.1)

pub jw_why_single : SingleLeaving 2 jw_why_kinds.ps jw_why_kinds.r (λ κs s. s.1.1.0.now) jw_why.Post
jw_why_single κs a x y s t p q = (p.0 ∙ sym q.0, p.1 ∙ sym q.1)

pub jw_decode_single : SingleLeaving 2 jw_decode_kinds.ps jw_decode_kinds.r (λ κs s. s.1.1.1.0.now) jw_decode.Post
jw_decode_single κs a x y s t p q = (p.0 ∙ sym q.0, p.1 ∙ sym q.1)

pub jw_next_single : SingleLeaving 2 jw_next_kinds.ps jw_next_kinds.r (λ κs s. s.1.1.1.1.0.now) jw_next.Post
jw_next_single κs a x y s t p q = (p.0 ∙ sym q.0, p.1 ∙ sym q.1)

pub jw_count_single : SingleLeaving 2 jw_count_kinds.ps jw_count_kinds.r (λ κs s. s.1.1.1.0.now) jw_count.Post
jw_count_single κs a x y s t p q = (p.0 ∙ sym q.0, p.1 ∙ sym q.1)

pub jw_node_single : SingleLeaving 3 jw_node_kinds.ps jw_node_kinds.r (λ κs s. s.1.1.1.1.0.now) jw_node.Post
jw_node_single κs a x y s t p q = (p.0 ∙ sym q.0, p.1 ∙ sym q.1)

pub jw_label_single : SingleLeaving 3 jw_label_kinds.ps jw_label_kinds.r (λ κs s. s.1.1.1.0.now) jw_label.Post
jw_label_single κs a x y s t p q = (p.0 ∙ sym q.0, p.1 ∙ sym q.1)

pub jw_move_labels_single : SingleLeaving 1 jw_move_labels_kinds.ps jw_move_labels_kinds.r (λ κs s. s.0.now) jw_move_labels.Post
jw_move_labels_single κs a x y s t p q = (refl, p ∙ sym q)

pub jw_add_segment_single : SingleLeaving 1 jw_add_segment_kinds.ps jw_add_segment_kinds.r (λ κs s. s.0.now) jw_add_segment.Post
jw_add_segment_single κs a x y s t p q = (p.0 ∙ sym q.0, p.1 ∙ sym q.1)

pub jw_segment_of_single : SingleLeaving 2 jw_segment_of_kinds.ps jw_segment_of_kinds.r (λ κs s. s.1.1.0.now) jw_segment_of.Post
jw_segment_of_single κs a x y s t p q = (p.0 ∙ sym q.0, p.1 ∙ sym q.1)

pub jw_lay_single : SingleLeaving {B = List ℕ × List ℕ} 3 jw_lay_kinds.ps jw_lay_kinds.r (λ κs s. (s.1.1.0.now, s.1.1.1.0.now)) jw_lay.Post
jw_lay_single κs a x y s t p q = (p.refusal ∙ sym q.refusal, same_both (p.bytes ∙ sym q.bytes) (p.cells ∙ sym q.cells))

pub jw_settle_single : SingleLeaving 4 jw_settle_kinds.ps jw_settle_kinds.r (λ κs s. s.1.1.1.0.now) jw_settle.Post
jw_settle_single κs a x y s t p q = (p.0 ∙ sym q.0, p.1 ∙ sym q.1)

pub jw_text_size_single : SingleLeaving 3 jw_text_size_kinds.ps jw_text_size_kinds.r (λ κs s. s.1.1.0.now) jw_text_size.Post
jw_text_size_single κs a x y s t p q = (p.0 ∙ sym q.0, p.1 ∙ sym q.1)

pub jw_write_text_single : SingleLeaving {B = List ℕ × List ℕ} 4 jw_write_text_kinds.ps jw_write_text_kinds.r (λ κs s. (s.1.1.0.now, s.1.1.1.0.now)) jw_write_text.Post
jw_write_text_single κs a x y s t p q = (p.refusal ∙ sym q.refusal, same_both (p.text ∙ sym q.text) (p.cells ∙ sym q.cells))

pub jw_read_text_single : SingleLeaving {B = List ℕ × (List ℕ × List ℕ)} 4 jw_read_text_kinds.ps jw_read_text_kinds.r (λ κs s. (s.1.0.now, (s.1.1.0.now, s.1.1.1.0.now))) jw_read_text.Post
jw_read_text_single κs a x y s t p q =
    (p.refusal ∙ sym q.refusal, same_both (p.bytes ∙ sym q.bytes) (same_both (p.rows ∙ sym q.rows) (p.cells ∙ sym q.cells)))

pub jw_hex_single :
    SingleLeaving {B = List ℕ × (List ℕ × (List ℕ × (List ℕ × List ℕ)))} 8 jw_hex_kinds.ps jw_hex_kinds.r
    (λ κs s. (s.1.1.1.0.now, (s.1.1.1.1.0.now, (s.1.1.1.1.1.0.now, (s.1.1.1.1.1.1.0.now, s.1.1.1.1.1.1.1.0.now)))))
    jw_hex.Post
jw_hex_single κs a x y s t p q = (
  p.returned ∙ sym q.returned,
  same_both
      (p.labels ∙ sym q.labels)
      (same_both
      (p.objects ∙ sym q.objects)
      (same_both (p.values ∙ sym q.values) (same_both (p.text ∙ sym q.text) (p.cells ∙ sym q.cells)))),
)
