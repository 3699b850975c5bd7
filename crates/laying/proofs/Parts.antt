-- Laying one list after another is laying the first, and then the second from where the first ended with what room is left.
-- Assumes nothing.
use Rattle.std.specs.Prelude.{Result}
use Rattle.ground.specs.declared.refusals.Refusal.{Refusal}
use mathlib.Core.Path.{◌≡◌, refl, sym, ap, ◌∙◌}
use mathlib.Core.List.{List, [], ◌∷◌, ◌++◌}
use Prim.Native.Nat.{ℕ, ◌+◌, ◌-◌}
use native.Mathlib.Nat.{add-zero, sub-zero}
use native.Mathlib.Omega.{arith}
use lib.ListN.{length, length-append}
use Rattle.std.specs.Prelude.{Result, Ok, Err}
use Rattle.ground.specs.declared.refusals.Refusal.{Refusal}
use Rattle.instruction.specs.declared.Record.{Record}
use Rattle.instruction.specs.declared.Built.{Built}
use Rattle.instruction.specs.Building.{size_told, bytes_told}
use Rattle.laying.specs.Laying.{built_at, size_at, before, after, lay_from}
use Rattle.laying.specs.Exactly.{continued}
use Rattle.laying.proofs.Builds.{built_bytes}
use Rattle.laying.proofs.Outcomes.{before_none, before_before}

behind :
    (xs : List ℕ) (n : ℕ) (ys : List Record) (at room : ℕ) →
    length xs ≡ n →
    (o : Result (List ℕ) Refusal) →
    before xs (continued o (λ bytes. lay_from ys (at + n + length bytes) (room - n - length bytes)))
    ≡ continued (before xs o) (λ bytes. lay_from ys (at + length bytes) (room - length bytes))
behind xs n ys at room s (Err refusal) = refl
behind xs n ys at room s (Ok rest) =
    let l = length-append xs rest in
    before_before xs rest (lay_from ys (at + n + length rest) (room - n - length rest))
    ∙ ap (λ (k : ℕ). before (xs ++ rest) (lay_from ys k (room - n - length rest))) (omega arith)
    ∙ ap (λ (k : ℕ). before (xs ++ rest) (lay_from ys (at + length (xs ++ rest)) k)) (omega arith)

pub laid_parts :
    (xs ys : List Record) (at room : ℕ) →
    lay_from (xs ++ ys) at room
    ≡ continued (lay_from xs at room) (λ bytes. lay_from ys (at + length bytes) (room - length bytes))
unfolding lay_from
laid_parts [] ys at room = rw (add-zero, sub-zero) (sym (before_none (lay_from ys at room)))
laid_parts (entry ∷ xs) ys at room =
    go (size_at b at room) (laid_parts xs ys (at + size_told b) (room - size_told b))
  where
    b : Result Built Refusal
    b = built_at entry at

    go :
        (r : Result ℕ Refusal) →
        lay_from (xs ++ ys) (at + size_told b) (room - size_told b)
        ≡ continued (lay_from xs (at + size_told b) (room - size_told b))
        (λ bytes. lay_from ys (at + size_told b + length bytes) (room - size_told b - length bytes)) →
        after r (before (bytes_told b) (lay_from (xs ++ ys) (at + size_told b) (room - size_told b)))
        ≡ continued (after r (before (bytes_told b) (lay_from xs (at + size_told b) (room - size_told b))))
        (λ bytes. lay_from ys (at + length bytes) (room - length bytes))
    go (Ok size) later =
        ap (before (bytes_told b)) later
        ∙ behind (bytes_told b) (size_told b) ys at room (built_bytes entry at) (lay_from xs (at + size_told b) (room - size_told b))
    go (Err refusal) later = refl
