-- `records::walk::Open::byte` meets its contract: the record grows by the byte, and is closed where it then has 32.
-- Assumes nothing.
use mathlib.Core.Path.{◌≡◌, refl, sym, ap, ◌∙◌}
use mathlib.Core.List.{List, [], ◌∷◌, ◌++◌}
use Prim.Native.Nat.{ℕ, ◌+◌}
use native.Mathlib.Omega.{arith}
use lib.ListN.{length, set, length-set, length-append}
use Rattle.records.specs.Text.{Event, Byte, recs_from, text}
use Rattle.records.specs.Steps.{Present, holding, pending, closing, ahead}
use Rattle.records.proofs.Steps.{ahead_closes, ahead_grows, closing_short, goes_stay, goes_restart, pending_length, pending_grown}
use Rattle.records.proofs.walk.Open.byte.Goals as goal
use Rattle.records.proofs.walk.Open.byte.Goals.{Start}

abbrev held : Start → Present
held c = holding c.args.self c.args.bytes.now

-- the record with the byte
abbrev grown : Start → Present
grown c =
    let s = held c in
    record { start = s.start; n = s.n + 1; at = s.at; bytes = set s.bytes s.n c.args.b }

counted : (c : Start) → length (pending (held c)) ≡ c.args.self.n
counted c = pending_length (held c) c.requires.0 (omega arith)

whole : (c : Start) → length (grown c).bytes ≡ 32
whole c = length-set (held c).bytes (held c).n c.args.b ∙ c.requires.0

more : (c : Start) → pending (grown c) ≡ pending (held c) ++ (c.args.b ∷ [])
more c = pending_grown (held c).bytes (held c).n c.args.b (omega (arith, c.requires.0))

one_more : (c : Start) → length (pending (grown c)) ≡ c.args.self.n + 1
one_more c = ap length (more c) ∙ length-append (pending (held c)) (c.args.b ∷ []) ∙ ap (λ (n : ℕ). n + 1) (counted c)

closes :
    (c : Start) → c.args.self.n + 1 ≡ 32 → (es : List Event) →
    ahead (held c) (Byte c.args.b ∷ es)
    ≡ closing c.args.self.start (pending (grown c)) ++ text (recs_from (c.args.self.start + 32) [] es)
closes c h es =
    let s = held c in
    rw (more c) (ahead_closes s.start (pending s) c.args.b es (ap (λ (n : ℕ). n + 1) (counted c) ∙ h))

grows :
    (c : Start) → (c.args.self.n + 1 ≡ 32 → ⊥) → (es : List Event) →
    ahead (grown c) es ≡ ahead (held c) (Byte c.args.b ∷ es)
grows c h es =
    let s = held c in
    rw (more c)
    (sym (ahead_grows s.start (pending s) c.args.b es (λ e. h (sym (ap (λ (n : ℕ). n + 1) (counted c)) ∙ e))))

pub returns-then-n-eq32 : goal.returns-then-n-eq32
returns-then-n-eq32 c =
    let full : c.args.self.n + 1 ≡ 32 = omega arith in
    let a = c.args in
    let s = held (goal.at.returns-then-n-eq32 c).Start in
    let next : s.start + 32 ≡ s.start + s.n + 1 = omega arith in record { goes = rw next at (goes_restart s (λ es. Byte a.b ∷ es) c.restart.ensures refl (closes (goal.at.returns-then-n-eq32 c).Start full)); at_bound = omega (arith, c.restart.ensures.wrote.next, closing_short s.start (pending (grown (goal.at.returns-then-n-eq32 c).Start)) (omega (arith, one_more (goal.at.returns-then-n-eq32 c).Start))) }

pub returns-else-n-eq32 : goal.returns-else-n-eq32
returns-else-n-eq32 c =
    let a = c.args in
    let s = held (goal.at.returns-else-n-eq32 c).Start in record {
      goes = goes_stay
          a.out.now
          s
          (grown (goal.at.returns-else-n-eq32 c).Start)
          (s.start + s.n + 1)
          (λ es. Byte a.b ∷ es)
          (grows (goal.at.returns-else-n-eq32 c).Start (λ (h : c.args.self.n + 1 ≡ 32). c.if-n-eq32.false (omega (arith, h))))
          refl
          (omega arith)
          (whole (goal.at.returns-else-n-eq32 c).Start)
          (omega arith);
      at_bound = omega arith;
    }
