-- Two sources of one fact: the bytes of number that the sheet's codes have (Sizes.antt) are those that its registers want (Registers.antt), on every row.
-- A test over all operations in all forms, which antt computes. Encoder and decoder share the first, so that reading back alone would not tell.
-- Assumes nothing.
use mathlib.Core.Path.{◌≡◌, ◌∙◌, refl, sym, ap}
use mathlib.Core.Bool.{Bool, true, false}
use Prim.Native.Nat.{ℕ, ◌<◌, ◌≤◌}
use native.Mathlib.Omega.{arith}
use lib.Dec.{T, eqb, ltb, eqb→eq}
use borrow.Author.Tests.{ne_eqb, ltb-true, ltb-false}
use Rattle.ground.specs.Choice.{pick}
use Rattle.ground.proofs.Ranges.{upto, below}
use Rattle.rows.specs.Sheet.{table_of, page0, page10, page11}
use Rattle.rows.specs.Lookup.{merged_of, code_of}
use Rattle.rows.specs.Sizes.{is_wide, is_long, number_at, of_code, number_size_of}
use Rattle.rows.specs.Registers.{reaches_memory, is_short_branch, is_long_branch, number_for}
use Rattle.rows.specs.Quick.{digit_of, place_on_page0, sixteen_line, regular_code, other_line, place_of_operation, page_of, quick_on}
use Rattle.rows.proofs.Codes.{placed_none, alike}
use Rattle.rows.proofs.Quick.{code_agrees_lem}

sources_agree : ℕ → ℕ → Bool
sources_agree o form = eqb (of_code (number_at form) (quick_on (merged_of o) form)) (number_for (merged_of o) form)

sources_agree_lem : T (upto (λ (o : ℕ). upto (sources_agree o) 7) 256)
unfolding sources_agree number_for reaches_memory is_short_branch is_long_branch number_at is_wide is_long quick_on merged_of digit_of page_of sixteen_line regular_code other_line place_of_operation place_on_page0 table_of page0 page10 page11 pick
sources_agree_lem = tt

-- a function of page and code, asked where the code looks, and by definition
pub of_code_lem : (f : ℕ → ℕ → ℕ) (o form : ℕ) → o < 256 → of_code f (quick_on (merged_of o) form) ≡ of_code f (code_of o form)
of_code_lem f o form h = ap (of_code f) (code_agrees_lem o form h) ∙ sym (alike (of_code f) refl o form)

pub no_number_for : (o form : ℕ) → 7 ≤ form → number_for o form ≡ 0
unfolding number_for pick
no_number_for o form h =
    rw (ne_eqb form 1 (omega arith), ne_eqb form 2 (omega arith), ne_eqb form 4 (omega arith), ne_eqb form 5 (omega arith))

-- by its code and by its registers, an operation has the same bytes of number in each form, and none where it has no row
pub two_sources : (o form : ℕ) → o < 256 → number_size_of o form ≡ number_for (merged_of o) form
unfolding sources_agree number_size_of
two_sources o form h = known (ltb form 7) refl
  where
    known : (t : Bool) → ltb form 7 ≡ t → of_code (number_at form) (code_of o form) ≡ number_for (merged_of o) form
    known true e =
        sym (of_code_lem (number_at form) o form h)
        ∙ eqb→eq (of_code (number_at form) (quick_on (merged_of o) form)) (number_for (merged_of o) form)
        (below (sources_agree o) 7 (below (λ (n : ℕ). upto (sources_agree n) 7) 256 sources_agree_lem o h) form (ltb-true form 7 e))
    known false e =
        alike (of_code (number_at form)) refl o form
        ∙ ap (of_code (number_at form)) (placed_none o form (ltb-false form 7 e))
        ∙ sym (no_number_for (merged_of o) form (ltb-false form 7 e))
