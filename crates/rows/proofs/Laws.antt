-- Reading the code of a row gives the row, aliases merged, and every code that is read is the code of its row: one test over every row of the
-- sheet, which antt computes, tells both. What layers above need of a code, a row and a size follows.
-- Assumes nothing.
use mathlib.Core.Path.{◌≡◌, ◌∙◌, refl, sym, ap, subst}
use mathlib.Core.Bool.{Bool, true, false, ◌&&◌}
use mathlib.Core.List.{List, [], ◌∷◌}
use mathlib.Core.Logic.{◌⊎◌, inl, inr}
use Prim.Native.Nat.{ℕ, ◌/◌, ◌%◌, ◌<◌, ◌≤◌}
use native.Mathlib.Omega.{arith}
use lib.Dec.{T, eqb, ltb, ltb→lt, eqb→eq}
use borrow.Author.Tests.{eqb-true, ltb-true, ltb-false, lt-ltb, le-ltb}
use Rattle.std.specs.Prelude.{Option, Some, None, Err, is_ok}
use Rattle.ground.specs.Choice.{pick}
use Rattle.ground.proofs.Ranges.{upto, below, both_left, both_right}
use Rattle.ground.specs.declared.refusals.Refusal.{Refusal}
use Rattle.ground.specs.declared.refusals.Refusal.TheVariants.{Unknown, NoSuchMode, Undefined}
use Rattle.rows.specs.Sheet.{table_of, page0, page10, page11}
use Rattle.rows.specs.Lookup.{key_of, find, merged_of, coded, on_page, placed, has_form_of, has_some, known_of, code_of, forms, named, in_form, row_among, row_of}
use Rattle.rows.specs.Sizes.{number_at, of_code, number_size_of}
use Rattle.rows.proofs.Pages.{no_form, by_page}
use Rattle.rows.proofs.Codes.{placed_or, form_small, has_form_code, has_form_known, code_placed, code_is_placed}
use Rattle.rows.proofs.Tests.{every, same_coded, same_named, same_coded_lem, same_named_lem, coded_parts, named_parts}

-- a row is found by its code, and by its operation and form; it has 16 bits, and its operation is no alias
right : ℕ → ℕ → ℕ → Bool
right page form r =
    same_named (row_of page (r / 256)) (named (r % 256) form)
    && (same_coded (placed (r % 256) form) (coded page (r / 256))
    && (ltb r 0x10000 && ltb (r % 256) 146))

on_one : ℕ → Bool
on_one page = upto (λ (form : ℕ). every (right page form) (table_of page form)) 7

whole : T (on_one 0x00 && (on_one 0x10 && on_one 0x11))
unfolding right on_one table_of page0 page10 page11 placed merged_of row_of pick
whole = tt

-- what a find gives is one of the rows, so passes their test, and has the key
passes :
    (f : ℕ → Bool) (by : Bool) (key r : ℕ) (l : List ℕ) → T (every f l) → find by key l ≡ Some r → T (f r) × (key_of by r ≡ key)
unfolding pick
passes f by key r [] t e = absurd (let z : ◌≡◌ {A = ℕ} 0 1 = cc in omega arith)
passes f by key r (x ∷ xs) t e = pass (passes f by key r xs (both_right (f x) (every f xs) t)) (eqb (key_of by x) key) refl e
  where
    pass :
        (find by key xs ≡ Some r → T (f r) × (key_of by r ≡ key)) →
        (b : Bool) →
        eqb (key_of by x) key ≡ b →
        pick b (Some x) (find by key xs) ≡ Some r →
        T (f r) × (key_of by r ≡ key)
    pass next true q e₁ =
        let s : x ≡ r = cc in
        (subst (λ (m : ℕ). T (f m)) s (both_left (f x) (every f xs) t), subst (λ (m : ℕ). key_of by m ≡ key) s (eqb-true _ _ q))
    pass next false q e₁ = next e₁

-- every row that is found is right
found :
    (by : Bool) (key form r p : ℕ) → find by key (table_of p form) ≡ Some r → T (right p form r) × (key_of by r ≡ key)
unfolding on_one
found by key form r p e = known (ltb form 7) refl
  where
    nowhere : find by key [] ≡ Some r → ⊥
    nowhere d = let z : ◌≡◌ {A = ℕ} 0 1 = cc in omega arith

    tested : (q : ℕ) → T (on_one q) → form < 7 → find by key (table_of q form) ≡ Some r → T (right q form r) × (key_of by r ≡ key)
    tested q t h =
        passes (right q form) by key r (table_of q form) (below (λ (g : ℕ). every (right q g) (table_of q g)) 7 t form h)

    rest : T (on_one 0x10 && on_one 0x11)
    rest = both_right (on_one 0x00) (on_one 0x10 && on_one 0x11) whole

    known : (b : Bool) → ltb form 7 ≡ b → T (right p form r) × (key_of by r ≡ key)
    known true q =
        by_page (λ (g : ℕ). find by key (table_of g form) ≡ Some r → T (right g form r) × (key_of by r ≡ key))
        (tested 0x00 (both_left (on_one 0x00) (on_one 0x10 && on_one 0x11) whole) (ltb-true form 7 q))
        (tested 0x10 (both_left (on_one 0x10) (on_one 0x11) rest) (ltb-true form 7 q))
        (tested 0x11 (both_right (on_one 0x10) (on_one 0x11) rest) (ltb-true form 7 q))
        (λ g none d. absurd (nowhere (rw (none form) at d)))
        p e
    known false q = absurd (nowhere (rw (no_form p form (ltb-false form 7 q)) at e))

-- the same, part by part
record Right (p form r : ℕ) : Type 0 where
  reads : row_of p (r / 256) ≡ named (r % 256) form
  writes : placed (r % 256) form ≡ coded p (r / 256)
  small : r < 0x10000
  plain : r % 256 < 146

parts : (p form r : ℕ) → T (right p form r) → Right p form r
unfolding right
parts p form r t =
    let a = same_named (row_of p (r / 256)) (named (r % 256) form) in
    let b = same_coded (placed (r % 256) form) (coded p (r / 256)) in
    let d = ltb r 0x10000 in
    let g = ltb (r % 256) 146 in
    record {
      reads = same_named_lem (row_of p (r / 256)) (named (r % 256) form) (both_left a (b && (d && g)) t);
      writes = same_coded_lem (placed (r % 256) form) (coded p (r / 256)) (both_left b (d && g) (both_right a (b && (d && g)) t));
      small = ltb→lt r 0x10000 (both_left d g (both_right b (d && g) (both_right a (b && (d && g)) t)));
      plain = ltb→lt (r % 256) 146 (both_right d g (both_right b (d && g) (both_right a (b && (d && g)) t)));
    }

-- a code stands in a row of its page and form
record Coding (o form p c : ℕ) : Type 0 where
  row : ℕ
  stands : find false (merged_of o) (table_of p form) ≡ Some row
  code : row / 256 ≡ c
  page : (p ≡ 0x00) ⊎ ((p ≡ 0x10) ⊎ (p ≡ 0x11))

coding : (o form p c : ℕ) → placed o form ≡ coded p c → Coding o form p c
unfolding placed
coding o form p c e =
    from (find false (merged_of o) (table_of 0x00 form)) (find false (merged_of o) (table_of 0x10 form))
    (find false (merged_of o) (table_of 0x11 form)) refl refl refl e
  where
    on : (q r : ℕ) → find false (merged_of o) (table_of q form) ≡ Some r → (q ≡ 0x00) ⊎ ((q ≡ 0x10) ⊎ (q ≡ 0x11)) → coded q (r / 256) ≡ coded p c → Coding o form p c
    on q r s t d =
        let n : q ≡ p = (coded_parts q p (r / 256) c d).0 in
        let m : r / 256 ≡ c = (coded_parts q p (r / 256) c d).1 in
        record {
          row = r;
          stands = subst (λ (g : ℕ). find false (merged_of o) (table_of g form) ≡ Some r) n s;
          code = m;
          page = subst (λ (g : ℕ). (g ≡ 0x00) ⊎ ((g ≡ 0x10) ⊎ (g ≡ 0x11))) n t;
        }

    from :
        (a b d : Option ℕ) →
        find false (merged_of o) (table_of 0x00 form) ≡ a →
        find false (merged_of o) (table_of 0x10 form) ≡ b →
        find false (merged_of o) (table_of 0x11 form) ≡ d →
        on_page 0x00 a (on_page 0x10 b (on_page 0x11 d (Err NoSuchMode))) ≡ coded p c →
        Coding o form p c
    from (Some r) b d ea eb ed e₁ = on 0x00 r ea (inl refl) e₁
    from None (Some r) d ea eb ed e₁ = on 0x10 r eb (inr (inl refl)) e₁
    from None None (Some r) ea eb ed e₁ = on 0x11 r ed (inr (inr refl)) e₁
    from None None None ea eb ed e₁ = let z : ◌≡◌ {A = ℕ} 0 1 = cc in absurd (omega arith)

coding_of : (o form p c : ℕ) → code_of o form ≡ coded p c → Coding o form p c
coding_of o form p c e = coding o form p c (code_is_placed o form p c e)

-- reading the code of a row gives the row, aliases merged
pub decoded : (o form p c : ℕ) → code_of o form ≡ coded p c → row_of p c ≡ named (merged_of o) form
decoded o form p c e =
    let k = coding_of o form p c e in
    let h = found false (merged_of o) form k.row p k.stands in
    ap (row_of p) (sym k.code) ∙ (parts p form k.row h.0).reads ∙ ap (λ (n : ℕ). named n form) h.1

-- the page of a code is one of the three
pub pages : (o form p c : ℕ) → code_of o form ≡ coded p c → (p ≡ 0x00) ⊎ ((p ≡ 0x10) ⊎ (p ≡ 0x11))
pages o form p c e = (coding_of o form p c e).page

-- a code is a byte
pub code_small : (o form p c : ℕ) → code_of o form ≡ coded p c → c < 256
code_small o form p c e =
    let k = coding_of o form p c e in
    let s = (parts p form k.row (found false (merged_of o) form k.row p k.stands).0).small in
    let d = k.code in
    omega arith

-- no code of page 0 is a prefix: what is read as a row is defined, and neither prefix is
pub no_prefix : (o form c : ℕ) → code_of o form ≡ coded 0x00 c → (c ≡ 0x10 → ⊥) × (c ≡ 0x11 → ⊥)
unfolding row_of table_of page0 pick
no_prefix o form c e = (
  λ q. let d : Err Undefined ≡ named (merged_of o) form = decoded o form 0x00 0x10 (e ∙ ap (coded 0x00) q) in
      let z : ◌≡◌ {A = ℕ} 0 1 = cc in omega arith,
  λ q. let d : Err Undefined ≡ named (merged_of o) form = decoded o form 0x00 0x11 (e ∙ ap (coded 0x00) q) in
      let z : ◌≡◌ {A = ℕ} 0 1 = cc in omega arith,
)

-- what is read stands in a row of its page and form
record Naming (p c o form : ℕ) : Type 0 where
  row : ℕ
  stands : find true c (table_of p form) ≡ Some row
  operation : row % 256 ≡ o

naming_among : (p c o form : ℕ) (fs : List ℕ) → row_among p c fs ≡ named o form → Naming p c o form
naming_among p c o form [] e = absurd (let z : ◌≡◌ {A = ℕ} 0 1 = cc in omega arith)
naming_among p c o form (f ∷ fs) e = from (naming_among p c o form fs) (find true c (table_of p f)) refl e
  where
    from :
        (row_among p c fs ≡ named o form → Naming p c o form) →
        (a : Option ℕ) →
        find true c (table_of p f) ≡ a →
        in_form f a (row_among p c fs) ≡ named o form →
        Naming p c o form
    from next (Some r) q e₁ =
        let n : f ≡ form = (named_parts (r % 256) o f form e₁).1 in
        let m : r % 256 ≡ o = (named_parts (r % 256) o f form e₁).0 in
        record { row = r; stands = subst (λ (g : ℕ). find true c (table_of p g) ≡ Some r) n q; operation = m }
    from next None q e₁ = next e₁

naming : (p c o form : ℕ) → row_of p c ≡ named o form → Naming p c o form
unfolding row_of
naming p c o form e = naming_among p c o form forms e

-- every code that is read is the code of its row
pub encoded : (p c o form : ℕ) → row_of p c ≡ named o form → code_of o form ≡ coded p c
encoded p c o form e =
    let k = naming p c o form e in
    let h = found true c form k.row p k.stands in
    let d : placed (k.row % 256) form ≡ coded p (k.row / 256) = (parts p form k.row h.0).writes in
    code_placed o form p c (ap (λ (n : ℕ). placed n form) (sym k.operation) ∙ d ∙ ap (coded p) h.1)

-- a code is refused as undefined only, and an operation and a form as unknown or as no mode
pub row_refused : (p c : ℕ) (r : Refusal) → row_of p c ≡ Err r → r ≡ Undefined
unfolding row_of
row_refused p c r e = among forms e
  where
    among : (fs : List ℕ) → row_among p c fs ≡ Err r → r ≡ Undefined
    among [] d = cc
    among (f ∷ fs) d = from (among fs) (find true c (table_of p f)) d
      where
        from : (row_among p c fs ≡ Err r → r ≡ Undefined) → (a : Option ℕ) → in_form f a (row_among p c fs) ≡ Err r → r ≡ Undefined
        from next (Some row) d₁ = let z : ◌≡◌ {A = ℕ} 0 1 = cc in absurd (omega arith)
        from next None d₁ = next d₁

pub code_refused_as : (o form : ℕ) (r : Refusal) → code_of o form ≡ Err r → (r ≡ Unknown) ⊎ (r ≡ NoSuchMode)
unfolding code_of pick
code_refused_as o form r e = from (known_of o && ltb form 7) (placed_or o form) e
  where
    from :
        (t : Bool) →
        (placed o form ≡ Err NoSuchMode) ⊎ ((p : ℕ) × ((c : ℕ) × (placed o form ≡ coded p c))) →
        pick t (placed o form) (Err Unknown) ≡ Err r →
        (r ≡ Unknown) ⊎ (r ≡ NoSuchMode)
    from false a d = inl (cc)
    from true (inl m) d = inr (cc)
    from true (inr x) d = let y = x.1.1 in let z : ◌≡◌ {A = ℕ} 0 1 = cc in absurd (omega arith)

-- what is read is no alias
pub row_small : (p c o form : ℕ) → row_of p c ≡ named o form → o < 146
row_small p c o form e =
    let k = naming p c o form e in
    subst (λ (n : ℕ). n < 146) k.operation (parts p form k.row (found true c form k.row p k.stands).0).plain

pub row_merged : (p c o form : ℕ) → row_of p c ≡ named o form → merged_of o ≡ o
unfolding merged_of pick
row_merged p c o form e = rw (lt-ltb o 146 (row_small p c o form e))

-- a code is of a known operation, in one of the seven forms
pub code_has_form : (o form p c : ℕ) → code_of o form ≡ coded p c → has_form_of o form ≡ true
code_has_form o form p c e = has_form_code o form ∙ ap is_ok e

pub code_known : (o form p c : ℕ) → code_of o form ≡ coded p c → known_of o ≡ true
code_known o form p c e = has_form_known o form (code_has_form o form p c e)

pub code_form : (o form p c : ℕ) → code_of o form ≡ coded p c → form < 7
code_form o form p c e = form_small o form (code_has_form o form p c e)

pub row_form : (p c o form : ℕ) → row_of p c ≡ named o form → form < 7
row_form p c o form e = code_form o form p c (encoded p c o form e)

-- an alias stands for an operation that is none, so that merging twice is merging once
merges_once : ℕ → Bool
merges_once o = eqb (merged_of (merged_of o)) (merged_of o)

merge_once : T (upto merges_once 153)
unfolding merges_once merged_of pick
merge_once = tt

merged_above : (o : ℕ) → 153 ≤ o → merged_of o ≡ o
unfolding merged_of pick
merged_above o h = rw (le-ltb o 146 (omega arith), lt-ltb 152 o (omega arith))

pub merged_twice : (o : ℕ) → merged_of (merged_of o) ≡ merged_of o
unfolding merges_once
merged_twice o = from (ltb o 153) refl
  where
    from : (t : Bool) → ltb o 153 ≡ t → merged_of (merged_of o) ≡ merged_of o
    from true e = eqb→eq (merged_of (merged_of o)) (merged_of o) (below merges_once 153 merge_once o (ltb-true o 153 e))
    from false e = ap merged_of (merged_above o (ltb-false o 153 e))

placed_merged : (o form : ℕ) → placed (merged_of o) form ≡ placed o form
unfolding placed
placed_merged o form = rw (merged_twice o)

some_merged : (o : ℕ) (fs : List ℕ) → has_some (merged_of o) fs ≡ has_some o fs
unfolding has_form_of
some_merged o [] = refl
some_merged o (f ∷ fs) = rw (placed_merged o f, some_merged o fs)

-- an alias has the codes, and so the sizes, of the operation that it stands for
pub code_merged : (o form : ℕ) → code_of (merged_of o) form ≡ code_of o form
unfolding code_of known_of
code_merged o form = rw (placed_merged o form, some_merged o forms)

pub number_size_merged : (o form : ℕ) → number_size_of (merged_of o) form ≡ number_size_of o form
unfolding number_size_of
number_size_merged o form = ap (of_code (number_at form)) (code_merged o form)
