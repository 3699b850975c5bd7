-- How long the rows of a statement's values are: two numbers to a value.
-- Assumes nothing.
use mathlib.Core.Path.{◌≡◌, refl, sym, ap, ◌∙◌}
use mathlib.Core.List.{List, [], ◌∷◌}
use Prim.Native.Nat.{ℕ, zero, suc, ◌+◌, ◌*◌, ◌≤◌, min}
use native.Mathlib.Nat.{min-eq_left, min-eq_right}
use native.Mathlib.Omega.{arith}
use lib.Dec.{leb}
use lib.ListN.{length}
use borrow.Author.Tests.{leb-true, leb-false}
use Rattle.std.specs.Prelude.{Result}
use Rattle.ground.specs.declared.refusals.Refusal.{Refusal}
use Rattle.ground.specs.Stores.{put}
use Rattle.ground.proofs.Stores.{put_past}
use Rattle.ground.proofs.Choices.{by_test}
use Rattle.values.specs.declared.pages.Page.{Page}
use Rattle.values.specs.declared.Value.{Value}
use Rattle.instruction.specs.Building.{bytes_told}
use Rattle.statements.specs.declared.Statement.{Statement}
use Rattle.statements.specs.declared.Statement.TheVariants.{Label, Instruction, Rmb, Fcb, Fdb, Fcc, Org, Setdp, Unknown}
use Rattle.statements.specs.declared.Entry.{Entry}
use Rattle.statements.specs.declared.Datum.{Datum}
use Rattle.statements.specs.declared.Datum.TheVariants.{Byte, Word, Character}
use Rattle.statements.specs.Listing.{statement_at, entry_at}
use Rattle.statements.specs.Asking.{asked_of, answers_from, rows_in}
use Rattle.statements.specs.Effects.{built_of}
use Rattle.records.specs.Objects.{byte_rows}
use Rattle.records.proofs.ByteRows.{byte_rows_length}
use Rattle.statements.specs.Objects.{values_of, values_at, count_in}

pub answers_length : (kind : Datum) (items ns ls : List ℕ) (here first n : ℕ) → length (answers_from kind items ns ls here first n) ≡ n
unfolding answers_from
answers_length kind items ns ls here first zero = refl
answers_length kind items ns ls here first (suc n) = ap suc (answers_length kind items ns ls here (first + 1) n)

rows_length : (answers : List (Result Value Refusal)) → length (rows_in answers) ≡ 2 * length answers
rows_length [] = refl
rows_length (a ∷ more) = let e = rows_length more in omega arith

-- as many values as there are items
pub data_count : (kind : Datum) (items ns ls : List ℕ) (here first n : ℕ) → n ≡ count_in (rows_in (answers_from kind items ns ls here first n))
data_count kind items ns ls here first n =
    omega (arith, rows_length (answers_from kind items ns ls here first n), answers_length kind items ns ls here first n)

-- as many as there are bytes
pub byte_count : (bytes : List ℕ) → length bytes ≡ count_in (byte_rows bytes)
byte_count bytes = omega (arith, byte_rows_length bytes)

values_even : (s : Statement) (e : Entry) (items ns ls : List ℕ) (here : ℕ) (page : Page) →
    length (values_of s e items ns ls here page) ≡ 2 * count_in (values_of s e items ns ls here page)
values_even Label e items ns ls here page = refl
values_even (Instruction node) e items ns ls here page =
    omega (arith, byte_rows_length (bytes_told (built_of e (asked_of ns ls node here) page here)))
values_even (Rmb node) e items ns ls here page = refl
values_even (Fcb first n) e items ns ls here page = omega (arith, rows_length (answers_from Byte items ns ls here first n))
values_even (Fdb first n) e items ns ls here page = omega (arith, rows_length (answers_from Word items ns ls here first n))
values_even (Fcc first n) e items ns ls here page = omega (arith, rows_length (answers_from Character items ns ls here first n))
values_even (Org node) e items ns ls here page = refl
values_even (Setdp number) e items ns ls here page = refl
values_even Unknown e items ns ls here page = refl

-- a row of two for each value
pub values_length : (list items ns ls : List ℕ) (i here : ℕ) (page : Page) →
    length (values_at list items ns ls i here page) ≡ 2 * count_in (values_at list items ns ls i here page)
unfolding values_at
values_length list items ns ls i here page = values_even (statement_at list i) (entry_at list i) items ns ls here page

-- ---- storing past the end
-- stores nothing, wherever past the end it is
pub put_within : (d : List ℕ) (at : ℕ) (xs : List ℕ) → put d (min at (length d)) xs ≡ put d at xs
put_within d at xs =
    by_test (λ (_ : ℕ). put d (min at (length d)) xs ≡ put d at xs) (leb at (length d)) {a = at} {b = at}
    (λ e. ap (λ (k : ℕ). put d k xs) (min-eq_left (leb-true at (length d) e)))
    (λ e.
    let h : length d ≤ at = omega (arith, leb-false at (length d) e) in
    ap (λ (k : ℕ). put d k xs) (min-eq_right h) ∙ put_past d (length d) xs (omega arith) ∙ sym (put_past d at xs h))
