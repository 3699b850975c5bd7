-- Which tables there are: those of three pages and seven forms.
-- Assumes nothing.
use mathlib.Core.Path.{◌≡◌, refl, sym, subst}
use mathlib.Core.Bool.{Bool, true, false}
use mathlib.Core.List.{List, []}
use Prim.Native.Nat.{ℕ, ◌≤◌}
use native.Mathlib.Omega.{arith}
use lib.Dec.{eqb}
use borrow.Author.Tests.{eqb-true, ne_eqb}
use Rattle.ground.specs.Choice.{pick}
use Rattle.rows.specs.Sheet.{table_of, page0, page10, page11}

-- no rows either way
pub none_either : (t : Bool) → pick {A = List ℕ} t [] [] ≡ []
unfolding pick
none_either true = refl
none_either false = refl

-- each page has rows in the first forms only
pub none_on_0 : (form : ℕ) → 7 ≤ form → page0 form ≡ []
unfolding page0 pick
none_on_0 form h =
    rw (
      ne_eqb form 0 (omega arith),
      ne_eqb form 1 (omega arith),
      ne_eqb form 2 (omega arith),
      ne_eqb form 3 (omega arith),
      ne_eqb form 4 (omega arith),
      ne_eqb form 5 (omega arith),
      ne_eqb form 6 (omega arith),
    )

pub none_on_10 : (form : ℕ) → 6 ≤ form → page10 form ≡ []
unfolding page10 pick
none_on_10 form h =
    rw (
      ne_eqb form 0 (omega arith),
      ne_eqb form 1 (omega arith),
      ne_eqb form 2 (omega arith),
      ne_eqb form 3 (omega arith),
      ne_eqb form 4 (omega arith),
      ne_eqb form 5 (omega arith),
    ) (none_either (eqb form 6))

pub none_on_11 : (form : ℕ) → 5 ≤ form → page11 form ≡ []
unfolding page11 pick
none_on_11 form h =
    rw (
      ne_eqb form 0 (omega arith),
      ne_eqb form 1 (omega arith),
      ne_eqb form 2 (omega arith),
      ne_eqb form 3 (omega arith),
      ne_eqb form 4 (omega arith),
    ) (simp (none_either))

pub no_form : (p form : ℕ) → 7 ≤ form → table_of p form ≡ []
unfolding table_of
no_form p form h = simp (none_on_0 form h, none_on_10 form (omega arith), none_on_11 form (omega arith), none_either)

no_page : (p : ℕ) → eqb p 0x00 ≡ false → eqb p 0x10 ≡ false → eqb p 0x11 ≡ false → (form : ℕ) → table_of p form ≡ []
unfolding table_of pick
no_page p a b c form = rw (a, b, c)

-- what holds on the three pages, and wherever there is no table, holds on all
pub by_page :
    (P : ℕ → Type 0) → P 0x00 → P 0x10 → P 0x11 → ((p : ℕ) → ((form : ℕ) → table_of p form ≡ []) → P p) → (p : ℕ) → P p
by_page P x y z other p = first (eqb p 0x00) refl
  where
    third : eqb p 0x00 ≡ false → eqb p 0x10 ≡ false → (t : Bool) → eqb p 0x11 ≡ t → P p
    third a b true e = subst P (sym (eqb-true p 0x11 e)) z
    third a b false e = other p (no_page p a b e)

    second : eqb p 0x00 ≡ false → (t : Bool) → eqb p 0x10 ≡ t → P p
    second a true e = subst P (sym (eqb-true p 0x10 e)) y
    second a false e = third a e (eqb p 0x11) refl

    first : (t : Bool) → eqb p 0x00 ≡ t → P p
    first true e = subst P (sym (eqb-true p 0x00 e)) x
    first false e = second e (eqb p 0x10) refl
