-- The sheet has 268 codes, all others are refused 14, and it has 277 rows of name and mode: counted over all codes of the three pages, and over all
-- operations in all forms.
-- Assumes nothing.
use mathlib.Core.Path.{◌≡◌, refl}
use Prim.Native.Nat.{ℕ, zero, suc, ◌+◌}
use lib.Dec.{eqb}
use Rattle.ground.specs.Choice.{pick}
use Rattle.ground.specs.Refusals.{undefined}
use Rattle.rows.specs.Sheet.{table_of, page0, page10, page11}
use Rattle.rows.specs.Lookup.{merged_of, placed, has_form_of, row_of, refusal_of}

-- the sum of a function over the numbers below n
abbrev total : (ℕ → ℕ) → ℕ → ℕ
total f zero = 0
total f (suc n) = f n + total f n

-- how many codes of the three pages have that number of 01 as their refusal
abbrev refused_with : ℕ → ℕ
refused_with n = total (λ (c : ℕ). on_page 0x00 c + on_page 0x10 c + on_page 0x11 c) 256
  where
    on_page : ℕ → ℕ → ℕ
    on_page page c = pick (eqb (refusal_of (row_of page c)) n) 1 0

pub codes_counted : (refused_with 0 ≡ 268) × (refused_with undefined ≡ 500)
unfolding row_of table_of page0 page10 page11 pick
codes_counted = (refl, refl)

pub names_counted : total (λ (o : ℕ). total (λ (form : ℕ). pick (has_form_of o form) 1 0) 7) 256 ≡ 277
unfolding has_form_of placed merged_of table_of page0 page10 page11 pick
names_counted = refl

-- "A second prefix is undefined", and a prefix is no code of page 0
pub prefixes_undefined :
    (refusal_of (row_of 0x00 0x10) ≡ undefined)
    × ((refusal_of (row_of 0x00 0x11) ≡ undefined)
    × ((refusal_of (row_of 0x10 0x10) ≡ undefined)
    × ((refusal_of (row_of 0x10 0x11) ≡ undefined)
    × ((refusal_of (row_of 0x11 0x10) ≡ undefined) × (refusal_of (row_of 0x11 0x11) ≡ undefined)))))
unfolding row_of table_of page0 page10 page11 pick
prefixes_undefined = (refl, (refl, (refl, (refl, (refl, refl)))))
