-- The quick ways come to the plain ones: tests over all codes of the three pages, and over all operations in all forms, which antt computes.
-- Assumes nothing.
use mathlib.Core.Path.{◌≡◌, refl, sym}
use mathlib.Core.Bool.{Bool, true, false, ◌&&◌, ◌||◌, not}
use mathlib.Core.List.{List, [], ◌∷◌}
use Prim.Native.Nat.{ℕ, ◌%◌, ◌<◌}
use lib.Dec.{T, eqb, ltb}
use borrow.Author.Tests.{ltb-true, ltb-false}
use Rattle.std.specs.Prelude.{Option, Some, None, Err, slice_get}
use Rattle.ground.specs.Choice.{pick}
use Rattle.ground.proofs.Ranges.{upto, below, both_left, both_right}
use Rattle.ground.specs.declared.refusals.Refusal.TheVariants.{Unknown, NoSuchMode, Undefined}
use Rattle.rows.specs.Sheet.{table_of, page0, page10, page11}
use Rattle.rows.specs.Lookup.{merged_of, on_page, placed, has_form_of, forms, known_of, code_of, in_form, row_among, row_of}
use Rattle.rows.specs.Quick.{of_operation, digit_of, form_of, place_on_page0, place_of_code, sixteen_line, regular_code, other_line, place_of_operation, page_of, quick_row, quick_on}
use Rattle.rows.proofs.Codes.{placed_none, code_placed, absent_placed}
use Rattle.rows.proofs.Pages.{no_form, by_page}
use Rattle.rows.proofs.Tests.{same_coded, same_named, same_coded_lem, same_named_lem}

row_agrees : ℕ → ℕ → Bool
row_agrees page code = same_named (quick_row page code) (row_of page code)

rows_agree : T (upto (row_agrees 0x00) 256 && (upto (row_agrees 0x10) 256 && upto (row_agrees 0x11) 256))
unfolding row_agrees quick_row row_of digit_of form_of place_of_code place_on_page0 table_of page0 page10 page11 pick
rows_agree = tt

code_agrees : ℕ → ℕ → Bool
code_agrees o form = same_coded (quick_on (merged_of o) form) (placed o form)

codes_agree : T (upto (λ (o : ℕ). upto (code_agrees o) 7) 256)
unfolding code_agrees quick_on placed merged_of digit_of page_of sixteen_line regular_code other_line place_of_operation place_on_page0 table_of page0 page10 page11 pick
codes_agree = tt

-- the numbers that are no operation stand where the sheet leaves a code of 00 to 0F undefined, and JMP is neither on A nor on B
abbrev pub quick_known : ℕ → Bool
quick_known o =
    (ltb o 153
    && not (ltb o 48 && (((eqb (o % 16) 1 || eqb (o % 16) 2) || eqb (o % 16) 5) || eqb (o % 16) 11)))
    && not (eqb o 30 || eqb o 46)

known_agrees : ℕ → Bool
known_agrees o = pick (known_of o) (quick_known o) (not (quick_known o))

known_agrees_lem : T (upto known_agrees 256)
unfolding known_agrees known_of has_form_of placed merged_of table_of page0 page10 page11 pick
known_agrees_lem = tt

pub same_bool : (a b : Bool) → T (pick a b (not b)) → b ≡ a
unfolding pick
same_bool true true t = refl
same_bool true false t = absurd t
same_bool false true t = absurd t
same_bool false false t = refl

pub known_quick : (o : ℕ) → o < 256 → quick_known o ≡ known_of o
unfolding known_agrees
known_quick o h = same_bool (known_of o) (quick_known o) (below known_agrees 256 known_agrees_lem o h)

-- where there is no table, every code is undefined
none_undefined : (p code : ℕ) → ((form : ℕ) → table_of p form ≡ []) → (fs : List ℕ) → row_among p code fs ≡ Err Undefined
none_undefined p code none [] = refl
none_undefined p code none (f ∷ fs) = rw (none f) (none_undefined p code none fs)

row_agrees_lem : (page code : ℕ) → code < 256 → quick_row page code ≡ row_of page code
unfolding row_agrees quick_row row_of
row_agrees_lem page code h =
    let r0 = both_left (upto (row_agrees 0x00) 256) (upto (row_agrees 0x10) 256 && upto (row_agrees 0x11) 256) rows_agree in
    let rs = both_right (upto (row_agrees 0x00) 256) (upto (row_agrees 0x10) 256 && upto (row_agrees 0x11) 256) rows_agree in
    by_page (λ (p : ℕ). quick_row p code ≡ row_of p code)
    (same_named_lem (quick_row 0x00 code) (row_of 0x00 code) (below (row_agrees 0x00) 256 r0 code h))
    (same_named_lem (quick_row 0x10 code) (row_of 0x10 code)
    (below (row_agrees 0x10) 256 (both_left (upto (row_agrees 0x10) 256) (upto (row_agrees 0x11) 256) rs) code h))
    (same_named_lem (quick_row 0x11 code) (row_of 0x11 code)
    (below (row_agrees 0x11) 256 (both_right (upto (row_agrees 0x10) 256) (upto (row_agrees 0x11) 256) rs) code h))
    (λ p none. rw (none (form_of code)) (sym (none_undefined p code none forms)))
    page

-- what stands in the one table of a form is the row of a code
pub row_found : (page code : ℕ) → code < 256 → row_of page code ≡ in_form (form_of code) (slice_get (table_of page (form_of code)) (place_of_code page code)) (Err Undefined)
unfolding quick_row
row_found page code h = sym (row_agrees_lem page code h)

pub code_agrees_lem : (o form : ℕ) → o < 256 → quick_on (merged_of o) form ≡ placed o form
unfolding code_agrees quick_on
code_agrees_lem o form h = known (ltb form 7) refl
  where
    known : (t : Bool) → ltb form 7 ≡ t → quick_on (merged_of o) form ≡ placed o form
    known true e =
        same_coded_lem (quick_on (merged_of o) form) (placed o form)
        (below (code_agrees o) 7 (below (λ (n : ℕ). upto (code_agrees n) 7) 256 codes_agree o h) form (ltb-true form 7 e))
    known false e =
        rw (no_form (page_of (merged_of o)) form (ltb-false form 7 e)) (sym (placed_none o form (ltb-false form 7 e)))

-- the row in the one table of a page, if it is one of that operation
abbrev pub row_on_page : ℕ → ℕ → Option ℕ
row_on_page o form = of_operation o (slice_get (table_of (page_of o) form) (place_of_operation o form))

-- what stands there is the code of an operation in a form
pub code_found :
    (o form : ℕ) → o < 256 → code_of o form ≡ on_page (page_of (merged_of o)) (row_on_page (merged_of o) form) (pick (known_of o && ltb form 7) (Err NoSuchMode) (Err Unknown))
unfolding quick_on
code_found o form h = from (row_on_page (merged_of o) form) (code_agrees_lem o form h)
  where
    from : (a : Option ℕ) → on_page (page_of (merged_of o)) a (Err NoSuchMode) ≡ placed o form → code_of o form ≡ on_page (page_of (merged_of o)) a (pick (known_of o && ltb form 7) (Err NoSuchMode) (Err Unknown))
    from (Some row) p = code_placed o form (page_of (merged_of o)) _ (sym p)
    from None p = sym (absent_placed o form (sym p))
