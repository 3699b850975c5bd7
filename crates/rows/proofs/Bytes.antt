-- The sizes and the forms that the code takes from an operation's number are those that the sheet's codes have: tests over all operations, which
-- antt computes.
-- Assumes nothing.
use mathlib.Core.Path.{◌≡◌, ◌∙◌, refl, sym, ap}
use mathlib.Core.Bool.{Bool, true, false, ◌&&◌, not, and-false}
use mathlib.Core.List.{List, [], ◌∷◌}
use Prim.Native.Nat.{ℕ, ◌<◌, ◌≤◌}
use native.Mathlib.Omega.{arith}
use lib.Dec.{T, eqb, ltb, eqb→eq}
use borrow.Author.Tests.{ne_eqb, ltb-true, ltb-false}
use Rattle.std.specs.Prelude.{Result, Ok, Err, is_ok}
use Rattle.ground.specs.Choice.{pick}
use Rattle.ground.proofs.Choices.{by_pick}
use Rattle.ground.proofs.Ranges.{upto, below}
use Rattle.ground.specs.declared.refusals.Refusal.{Refusal}
use Rattle.rows.specs.declared.Code.{Code}
use Rattle.rows.specs.Sheet.{table_of, page0, page10, page11}
use Rattle.rows.specs.Lookup.{merged_of, placed, has_form_of, known_of, code_of, forms}
use Rattle.rows.specs.Sizes.{is_wide, is_long, number_at, of_code, number_size_of, least_at, lesser, least_among, smallest_size_of}
use Rattle.rows.specs.Registers.{reaches_memory, is_short_branch, is_long_branch, number_for}
use Rattle.rows.specs.Quick.{digit_of, place_on_page0, sixteen_line, regular_code, other_line, place_of_operation, page_of, quick_on, number_line, number_digit, number_bytes, operand_bytes, formed_of, row_bytes}
use Rattle.rows.proofs.Codes.{placed_none}
use Rattle.rows.proofs.Quick.{quick_known, same_bool, known_quick, code_agrees_lem}
use Rattle.rows.proofs.Sources.{of_code_lem, no_number_for, two_sources}

number_agrees : ℕ → ℕ → Bool
number_agrees o form = eqb (number_bytes (number_digit o) form) (number_for (merged_of o) form)

numbers_agree : T (upto (λ (o : ℕ). upto (number_agrees o) 7) 256)
unfolding number_agrees number_bytes number_digit number_line digit_of number_for reaches_memory is_short_branch is_long_branch merged_of pick
numbers_agree = tt

no_bytes : (told form : ℕ) → 7 ≤ form → number_bytes told form ≡ 0
unfolding number_bytes pick
no_bytes told form h =
    rw (ne_eqb form 1 (omega arith), ne_eqb form 2 (omega arith), ne_eqb form 4 (omega arith), ne_eqb form 5 (omega arith))

pub number_quick : (o form : ℕ) → o < 256 → number_bytes (number_digit o) form ≡ number_size_of o form
unfolding number_agrees
number_quick o form h = formed (ltb form 7) refl ∙ sym (two_sources o form h)
  where
    formed : (t : Bool) → ltb form 7 ≡ t → number_bytes (number_digit o) form ≡ number_for (merged_of o) form
    formed true e =
        eqb→eq (number_bytes (number_digit o) form) (number_for (merged_of o) form)
        (below (number_agrees o) 7 (below (λ (n : ℕ). upto (number_agrees n) 7) 256 numbers_agree o h) form (ltb-true form 7 e))
    formed false e = no_bytes (number_digit o) form (ltb-false form 7 e) ∙ sym (no_number_for (merged_of o) form (ltb-false form 7 e))

abbrev least_quick : ℕ → List ℕ → ℕ
least_quick o [] = 0
least_quick o (form ∷ fs) = lesser (of_code (least_at form) (quick_on o form)) (least_quick o fs)

size_agrees : ℕ → Bool
size_agrees o = eqb (pick (quick_known o) (row_bytes (merged_of o)) 0) (least_quick (merged_of o) forms)

sizes_agree : T (upto size_agrees 256)
unfolding size_agrees row_bytes operand_bytes least_at number_at is_wide is_long quick_on merged_of digit_of page_of sixteen_line regular_code other_line place_of_operation place_on_page0 table_of page0 page10 page11 pick
sizes_agree = tt

least_quick_lem : (o : ℕ) → o < 256 → (fs : List ℕ) → least_quick (merged_of o) fs ≡ least_among o fs
least_quick_lem o h [] = refl
least_quick_lem o h (form ∷ fs) = rw (of_code_lem (least_at form) o form h, least_quick_lem o h fs)

pub size_quick : (o : ℕ) → o < 256 → smallest_size_of o ≡ pick (known_of o) (row_bytes (merged_of o)) 0
unfolding size_agrees smallest_size_of
size_quick o h =
    rw (← known_quick o h)
    (sym (least_quick_lem o h forms)
    ∙ sym (eqb→eq (pick (quick_known o) (row_bytes (merged_of o)) 0) (least_quick (merged_of o) forms) (below size_agrees 256 sizes_agree o h)))

form_agrees : ℕ → ℕ → Bool
form_agrees o form =
    pick (is_ok (quick_on (merged_of o) form)) (quick_known o && formed_of (merged_of o) form) (not (quick_known o && formed_of (merged_of o) form))

forms_agree : T (upto (λ (o : ℕ). upto (form_agrees o) 7) 256)
unfolding form_agrees formed_of number_bytes number_digit number_line operand_bytes quick_on merged_of digit_of page_of sixteen_line regular_code other_line place_of_operation place_on_page0 table_of page0 page10 page11 pick
forms_agree = tt

no_form_formed : (o form : ℕ) → 7 ≤ form → formed_of o form ≡ false
unfolding formed_of pick
no_form_formed o form h =
    rw (ne_eqb form 0 (omega arith), ne_eqb form 3 (omega arith), ne_eqb form 6 (omega arith), no_bytes (number_digit o) form h)

pub form_quick : (o form : ℕ) → o < 256 → (known_of o && formed_of (merged_of o) form) ≡ has_form_of o form
unfolding form_agrees has_form_of
form_quick o form h = rw (← known_quick o h) (known (ltb form 7) refl)
  where
    known : (t : Bool) → ltb form 7 ≡ t → (quick_known o && formed_of (merged_of o) form) ≡ is_ok (placed o form)
    known true e =
        same_bool (is_ok (quick_on (merged_of o) form)) (quick_known o && formed_of (merged_of o) form)
        (below (form_agrees o) 7 (below (λ (n : ℕ). upto (form_agrees n) 7) 256 forms_agree o h) form (ltb-true form 7 e))
        ∙ ap is_ok (code_agrees_lem o form h)
    known false e =
        rw (no_form_formed (merged_of o) form (ltb-false form 7 e), placed_none o form (ltb-false form 7 e)) (and-false (quick_known o))

pub operand_small : (o : ℕ) → operand_bytes o ≤ 2
unfolding operand_bytes
operand_small o = by_pick (λ (n : ℕ). n ≤ 2) _ (omega arith) (by_pick (λ (n : ℕ). n ≤ 2) _ (omega arith) (omega arith))

-- at most two bytes of number follow a code
pub number_size_small : (o form : ℕ) → number_size_of o form ≤ 2
unfolding number_size_of number_at
number_size_small o form = small (code_of o form)
  where
    small : (a : Result Code Refusal) → of_code (number_at form) a ≤ 2
    small (Ok c) =
        by_pick (λ (n : ℕ). n ≤ 2) (eqb form 1) (by_pick (λ (n : ℕ). n ≤ 2) (is_wide c.page c.code) (omega arith) (omega arith))
        (by_pick (λ (n : ℕ). n ≤ 2) (eqb form 2) (omega arith)
        (by_pick (λ (n : ℕ). n ≤ 2) (eqb form 4) (omega arith)
        (by_pick (λ (n : ℕ). n ≤ 2) (eqb form 5) (by_pick (λ (n : ℕ). n ≤ 2) (is_long c.page c.code) (omega arith) (omega arith)) (omega arith))))
    small (Err r) = omega arith
