-- The records of a text are those that its first line says, and those of the text after it: `records_in` is what it should be, whatever its bound on the lines.
-- Assumes nothing.
use mathlib.Core.Path.{◌≡◌, refl, ap, ◌∙◌}
use mathlib.Core.List.{List, [], ◌∷◌}
use Prim.Native.Nat.{ℕ, zero, suc, ◌≤◌, ◌<◌}
use native.Mathlib.Nat.{not-suc-le-zero}
use native.Mathlib.Omega.{arith}
use lib.ListN.{length, length-drop}
use Rattle.ground.proofs.Choices.{by_pick}
use Rattle.reader.specs.Digits.{behind}
use Rattle.reader.specs.Lines.{after_end, Front, Record, EndRecord, NoRecord, record_of, line_in, Found, more, found, records_from, records_in}

-- what stands after a record is shorter than n
abbrev pub Shorter : ℕ → Front → Type 0
Shorter n (Record r after) = length after < n
Shorter n EndRecord = Unit
Shorter n NoRecord = Unit

pub after_short : (s : List ℕ) → length (after_end (behind s)) ≤ length s
unfolding after_end behind
after_short s = simp (length-drop) (omega arith)

pub line_short : (s : List ℕ) → Shorter (length s) (line_in s)
unfolding line_in record_of
line_short [] = tt
line_short (c ∷ s) =
    by_pick (Shorter (suc (length s))) _
    (by_pick (Shorter (suc (length s))) _ (omega (arith, after_short s)) (by_pick (Shorter (suc (length s))) _ tt tt))
    tt

same_rest : (n : ℕ) (f : Front) (x y : List ℕ → Found) → Shorter n f → ((t : List ℕ) → length t < n → x t ≡ y t) → found f x ≡ found f y
same_rest n (Record r after) x y h e = ap (more r) (e after h)
same_rest n EndRecord x y h e = refl
same_rest n NoRecord x y h e = refl

-- with enough lines it does not matter how many
same_lines : (n m : ℕ) (s : List ℕ) → length s ≤ n → length s ≤ m → records_from n s ≡ records_from m s
unfolding line_in
same_lines zero zero s h k = refl
same_lines zero (suc m) [] h k = refl
same_lines zero (suc m) (c ∷ s) h k = absurd (not-suc-le-zero h)
same_lines (suc n) zero [] h k = refl
same_lines (suc n) zero (c ∷ s) h k = absurd (not-suc-le-zero k)
same_lines (suc n) (suc m) s h k =
    same_rest (length s) (line_in s) (records_from n) (records_from m) (line_short s) (λ t l. same_lines n m t (omega arith) (omega arith))

pub records_on : (s : List ℕ) → records_in s ≡ found (line_in s) records_in
unfolding records_in
records_on s =
    same_lines (length s) (suc (length s)) s (omega arith) (omega arith)
    ∙ same_rest (length s) (line_in s) (records_from (length s)) records_in (line_short s) (λ t l. same_lines (length s) (length t) t (omega arith) (omega arith))
