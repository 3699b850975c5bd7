-- Each contract leaves one answer, and one content of everything lent.
-- Assumes nothing.
use mathlib.Core.Path.{◌≡◌, sym, ◌∙◌}
use mathlib.Core.List.{List}
use Prim.Native.Nat.{ℕ}
use Rattle.ground.proofs.Single.{SingleLeaving, same_both}
use Rattle.assembly.proofs.assemble.Kinds as assemble_kinds
use Rattle.assembly.proofs.assemble.Reads as assemble
use Rattle.assembly.proofs.hex.Kinds as hex_kinds
use Rattle.assembly.proofs.hex.Reads as hex

-- the label table, the objects and the values
abbrev Three : Type 0
Three = List ℕ × (List ℕ × List ℕ)

same_three : {a b c d e f : List ℕ} → a ≡ b → c ≡ d → e ≡ f → ◌≡◌ {A = Three} (a, (c, e)) (b, (d, f))
same_three p q r = same_both p (same_both q r)

pub assemble_single :
    SingleLeaving {B = Three} 6 assemble_kinds.ps assemble_kinds.r
    (λ κs s. (s.1.1.1.0.now, (s.1.1.1.1.0.now, s.1.1.1.1.1.0.now))) assemble.Post
assemble_single κs a x y s t p q =
    (p.0 ∙ sym q.0, same_three (p.1.0 ∙ sym q.1.0) (p.1.1.0 ∙ sym q.1.1.0) (p.1.1.1 ∙ sym q.1.1.1))

-- and the text
abbrev Four : Type 0
Four = Three × List ℕ

pub hex_single :
    SingleLeaving {B = Four} 7 hex_kinds.ps hex_kinds.r
    (λ κs s. ((s.1.1.1.0.now, (s.1.1.1.1.0.now, s.1.1.1.1.1.0.now)), s.1.1.1.1.1.1.0.now)) hex.Post
hex_single κs a x y s t p q = (
  p.0 ∙ sym q.0,
  same_both
      (same_three (p.1.0 ∙ sym q.1.0) (p.1.1.0 ∙ sym q.1.1.0) (p.1.1.1.0 ∙ sym q.1.1.1.0))
      (p.1.1.1.1 ∙ sym q.1.1.1.1),
)
