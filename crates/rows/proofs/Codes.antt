-- An operation is known if it has a code in some form, and a code is what a known operation has in one of the seven forms.
-- Assumes nothing.
use mathlib.Core.Path.{◌≡◌, ◌∙◌, refl, sym, ap}
use mathlib.Core.Bool.{Bool, true, false, ◌&&◌, ◌||◌}
use mathlib.Core.List.{List, [], ◌∷◌}
use mathlib.Core.Logic.{◌⊎◌, inl, inr}
use Prim.Native.Nat.{ℕ, zero, suc, ◌+◌, ◌<◌, ◌≤◌}
use native.Mathlib.Omega.{arith}
use lib.Dec.{eqb, ltb}
use borrow.Author.Tests.{eqb-true, eqb-false, ltb-true, ltb-false, lt-ltb}
use Rattle.std.specs.Prelude.{Option, Some, None, Result, Err, is_ok}
use Rattle.ground.specs.Choice.{pick}
use Rattle.ground.specs.declared.refusals.Refusal.{Refusal}
use Rattle.ground.specs.declared.refusals.Refusal.TheVariants.{Unknown, NoSuchMode}
use Rattle.rows.specs.declared.Code.{Code}
use Rattle.rows.specs.Sheet.{count, table_of}
use Rattle.rows.specs.Lookup.{find, merged_of, coded, on_page, placed, has_form_of, has_some, forms, known_of, code_of}
use Rattle.rows.proofs.Pages.{no_form}

pub placed_none : (o form : ℕ) → 7 ≤ form → placed o form ≡ Err NoSuchMode
unfolding placed
placed_none o form h = rw (no_form 0x00 form h, no_form 0x10 form h, no_form 0x11 form h)

-- the rows give a code, or nothing
pub placed_or : (o form : ℕ) → (placed o form ≡ Err NoSuchMode) ⊎ ((p : ℕ) × ((c : ℕ) × (placed o form ≡ coded p c)))
unfolding placed
placed_or o form =
    from (find false (merged_of o) (table_of 0x00 form)) (find false (merged_of o) (table_of 0x10 form))
    (find false (merged_of o) (table_of 0x11 form))
  where
    from :
        (a b d : Option ℕ) →
        (on_page 0x00 a (on_page 0x10 b (on_page 0x11 d (Err NoSuchMode))) ≡ Err NoSuchMode)
        ⊎ ((p : ℕ) × ((c : ℕ) × (on_page 0x00 a (on_page 0x10 b (on_page 0x11 d (Err NoSuchMode))) ≡ coded p c)))
    from (Some r) b d = inr (_, (_, refl))
    from None (Some r) d = inr (_, (_, refl))
    from None None (Some r) = inr (_, (_, refl))
    from None None None = inl refl

some_form : (o form a n : ℕ) → has_form_of o form ≡ true → a ≤ form → form < a + n → has_some o (count a n) ≡ true
some_form o form a zero e h k = absurd (omega arith)
some_form o form a (suc n) e h k = at (some_form o form (a + 1) n e) (eqb form a) refl
  where
    either_true : (t : Bool) → (t || true) ≡ true
    either_true true = refl
    either_true false = refl

    at :
        (a + 1 ≤ form → form < a + 1 + n → has_some o (count (a + 1) n) ≡ true) →
        (t : Bool) →
        eqb form a ≡ t →
        (has_form_of o a || has_some o (count (a + 1) n)) ≡ true
    at next true q = rw (sym (eqb-true form a q), e)
    at next false q =
        let ne : form ≡ a → ⊥ = eqb-false form a q in
        rw (next (omega arith) (omega arith)) (either_true (has_form_of o a))

among : (o : ℕ) (fs : List ℕ) → has_some o fs ≡ true → (form : ℕ) × (has_form_of o form ≡ true)
among o [] e = absurd (let z : ◌≡◌ {A = ℕ} 0 1 = cc in omega arith)
among o (f ∷ fs) e = from (among o fs) (has_form_of o f) refl e
  where
    from :
        (has_some o fs ≡ true → (form : ℕ) × (has_form_of o form ≡ true)) →
        (t : Bool) →
        has_form_of o f ≡ t →
        (t || has_some o fs) ≡ true →
        (form : ℕ) × (has_form_of o form ≡ true)
    from next true q d = (f, q)
    from next false q d = next d

-- a form that has a code is one of the seven, and makes its operation known
pub form_small : (o form : ℕ) → has_form_of o form ≡ true → form < 7
unfolding has_form_of
form_small o form e = small (ltb form 7) refl
  where
    small : (t : Bool) → ltb form 7 ≡ t → form < 7
    small true q = ltb-true form 7 q
    small false q =
        let p : placed o form ≡ Err NoSuchMode = placed_none o form (ltb-false form 7 q) in
        let d : false ≡ true = ap is_ok (sym p) ∙ e in
        let z : ◌≡◌ {A = ℕ} 0 1 = cc in
        absurd (omega arith)

pub has_form_known : (o form : ℕ) → has_form_of o form ≡ true → known_of o ≡ true
unfolding known_of
has_form_known o form e = some_form o form 0 7 e (omega arith) (form_small o form e)

-- and a known operation has a code in some form
pub known_has_form : (o : ℕ) → known_of o ≡ true → (form : ℕ) × (has_form_of o form ≡ true)
unfolding known_of
known_has_form o e = among o forms e

has_code : (o form p c : ℕ) → placed o form ≡ coded p c → has_form_of o form ≡ true
unfolding has_form_of
has_code o form p c e = ap is_ok e

pub code_placed : (o form p c : ℕ) → placed o form ≡ coded p c → code_of o form ≡ coded p c
unfolding code_of pick
code_placed o form p c e =
    let h = has_code o form p c e in
    rw (has_form_known o form h, lt-ltb form 7 (form_small o form h)) e

pub absent_placed : (o form : ℕ) → placed o form ≡ Err NoSuchMode → pick (known_of o && ltb form 7) (Err NoSuchMode) (Err Unknown) ≡ code_of o form
unfolding code_of
absent_placed o form e = rw e

pub code_is_placed : (o form p c : ℕ) → code_of o form ≡ coded p c → placed o form ≡ coded p c
unfolding code_of pick
code_is_placed o form p c e = from (known_of o && ltb form 7) e
  where
    from : (t : Bool) → pick t (placed o form) (Err Unknown) ≡ coded p c → placed o form ≡ coded p c
    from true d = d
    from false d = absurd (let z : ◌≡◌ {A = ℕ} 0 1 = cc in omega arith)

either_way : {A : Type 0} (g : Result Code Refusal → A) (t : Bool) (a : Result Code Refusal) → g a ≡ g (Err Unknown) → g (pick t a (Err Unknown)) ≡ g a
unfolding pick
either_way g true a e = refl
either_way g false a e = sym e

-- what makes no difference between the two refusals can be asked of the rows alone
pub alike : {A : Type 0} (g : Result Code Refusal → A) → g (Err NoSuchMode) ≡ g (Err Unknown) → (o form : ℕ) → g (code_of o form) ≡ g (placed o form)
unfolding code_of
alike g d o form = from (placed_or o form)
  where
    from : (placed o form ≡ Err NoSuchMode) ⊎ ((p : ℕ) × ((c : ℕ) × (placed o form ≡ coded p c))) → g (code_of o form) ≡ g (placed o form)
    from (inl e) = rw e (either_way g (known_of o && ltb form 7) (Err NoSuchMode) d)
    from (inr x) = ap g (code_placed o form x.0 x.1.0 x.1.1 ∙ sym x.1.1)

pub has_form_code : (o form : ℕ) → has_form_of o form ≡ is_ok (code_of o form)
unfolding has_form_of
has_form_code o form = sym (alike is_ok refl o form)

-- 01's refusals, each exactly where it belongs: 1 where the operation or the form is unknown, 2 where a known operation lacks the form, else a code
pub code_refused : (o form : ℕ) → code_of o form ≡ pick (known_of o && ltb form 7) (pick (has_form_of o form) (placed o form) (Err NoSuchMode)) (Err Unknown)
unfolding has_form_of code_of pick
code_refused o form = from (known_of o && ltb form 7) (placed o form) (placed_or o form)
  where
    from :
        (t : Bool) (a : Result Code Refusal) →
        (a ≡ Err NoSuchMode) ⊎ ((p : ℕ) × ((c : ℕ) × (a ≡ coded p c))) →
        pick t a (Err Unknown) ≡ pick t (pick (is_ok a) a (Err NoSuchMode)) (Err Unknown)
    from true a (inl m) = rw m
    from true a (inr x) = rw x.1.1
    from false a d = refl
