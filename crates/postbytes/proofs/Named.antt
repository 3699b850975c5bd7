-- There are no more than eight registers to be named.
-- Assumes nothing.
use mathlib.Core.Path.{◌≡◌, sym, ap, ◌∙◌}
use mathlib.Core.List.{List}
use Prim.Native.Nat.{ℕ, min}
use lib.ListN.{length, take}
use Rattle.std.proofs.lemmas.List.{take_min}

pub eight : (n count : ℕ) (rs : List ℕ) → length rs ≡ 8 → n ≡ min count 8 → take n rs ≡ take count rs
eight n count rs l e = ap (λ (k : ℕ). take k rs) (e ∙ ap (min count) (sym l)) ∙ take_min count rs
