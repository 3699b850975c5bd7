-- What the rows tell an instruction: how many bytes a form's number has, that Direct and Extended stand in a row together, that short branches have no
-- prefix, that a branch has no address, and that a long branch is no alias. By the definitions, and by the quick ways of `rows` where a whole table
-- would be searched.
-- Assumes nothing.
use mathlib.Core.Path.{◌≡◌, refl, sym, ap, ◌∙◌}
use mathlib.Core.Bool.{Bool, true, false, not, false≢true}
use mathlib.Core.List.{[], ◌∷◌}
use Prim.Native.Nat.{ℕ, ◌-◌, ◌*◌, ◌/◌, ◌<◌}
use native.Mathlib.Omega.{arith}
use lib.Dec.{eqb, ltb, leb}
use borrow.Author.Tests.{ltb-false, lt-ltb, eqb-true, leb-true, not-false}
use Rattle.std.specs.Prelude.{Result, Ok, Err, is_ok}
use Rattle.ground.specs.Choice.{pick}
use Rattle.ground.proofs.Choices.{pick_true, by_test}
use Rattle.ground.proofs.Tests.{both_second, neither_left}
use Rattle.ground.specs.declared.refusals.Refusal.{Refusal}
use Rattle.rows.specs.declared.Code.{Code}
use Rattle.rows.specs.Forms.{direct, extended, relative}
use Rattle.rows.specs.Lookup.{merged_of, coded, has_form_of, code_of}
use Rattle.rows.specs.Sizes.{any_of, is_long, number_at, of_code, number_size_of, between, long_from, long_of}
use Rattle.rows.specs.Quick.{number_digit, number_bytes}
use Rattle.rows.proofs.Codes.{has_form_code}
use Rattle.rows.proofs.Laws.{decoded, row_small}
use Rattle.rows.proofs.Bytes.{number_quick}
use Rattle.rows.proofs.Lengths.{number_has_form}

-- the code of a form that a row has
pub record Has (o form : ℕ) : Type 0 where
  pub page : ℕ
  pub code : ℕ
  pub coded : code_of o form ≡ coded page code

pub has_code : (o form : ℕ) → has_form_of o form ≡ true → Has o form
has_code o form h = from (code_of o form) refl (sym (has_form_code o form) ∙ h)
  where
    from : (a : Result Code Refusal) → code_of o form ≡ a → is_ok a ≡ true → Has o form
    from (Ok k) e t = record { page = k.page; code = k.code; coded = e }
    from (Err r) e t = absurd (false≢true t)

pub number_at_lem : (o form p c : ℕ) → code_of o form ≡ coded p c → number_size_of o form ≡ number_at form p c
unfolding number_size_of
number_at_lem o form p c e = ap (of_code (number_at form)) e

has_number : (o form : ℕ) (h : Has o form) → number_size_of o form ≡ number_at form h.page h.code
has_number o form h = number_at_lem o form h.page h.code h.coded

-- a row's operation, its alias merged, is below 146
pub merged_small : (o form : ℕ) → has_form_of o form ≡ true → merged_of o < 146
merged_small o form h =
    let k = has_code o form h in
    row_small k.page k.code (merged_of o) form (decoded o form k.page k.code k.coded)

pub operation_small : (o form : ℕ) → has_form_of o form ≡ true → o < 256
unfolding merged_of
operation_small o form h =
    by_test (λ (m : ℕ). m < 146 → o < 256) (ltb o 146) (λ _ m. omega arith)
    (λ _. by_test (λ (m : ℕ). m < 146 → o < 256) (ltb 152 o) (λ _ m. omega arith) (λ q m. omega (arith, ltb-false 152 o q)))
    (merged_small o form h)

-- one byte direct, two extended, one or two of a branch
pub direct_size : (o : ℕ) → has_form_of o direct ≡ true → number_size_of o direct ≡ 1
unfolding number_at pick
direct_size o h = has_number o direct (has_code o direct h)

pub extended_size : (o : ℕ) → has_form_of o extended ≡ true → number_size_of o extended ≡ 2
unfolding number_at pick
extended_size o h = has_number o extended (has_code o extended h)

pub branch_size : (o : ℕ) → has_form_of o relative ≡ true → (number_size_of o relative ≡ 2 → ⊥) → number_size_of o relative ≡ 1
unfolding number_at pick
branch_size o h n =
    let k = has_code o relative h in
    from (is_long k.page k.code) (has_number o relative k)
  where
    from : (t : Bool) → number_size_of o relative ≡ pick t 2 1 → number_size_of o relative ≡ 1
    from true d = absurd (n d)
    from false d = d

-- a short branch has no prefix
pub short_page : (o p c : ℕ) → code_of o relative ≡ coded p c → number_size_of o relative ≡ 1 → p ≡ 0x00
unfolding number_at is_long pick
short_page o p c e s = from (is_long p c) refl (number_at_lem o relative p c e)
  where
    from : (t : Bool) → is_long p c ≡ t → number_size_of o relative ≡ pick t 2 1 → p ≡ 0x00
    from true q d = absurd (omega arith)
    from false q d =
        eqb-true p 0x00
        (not-false (eqb p 0x00) (neither_left (not (eqb p 0x00)) (any_of c (0x16 ∷ 0x17 ∷ [])) q))

-- the quick way to a number's bytes
quick : (o form k : ℕ) → has_form_of o k ≡ true → number_bytes (number_digit o) form ≡ number_size_of o form
quick o form k h = number_quick o form (operation_small o k h)

-- an extended address has twice the bytes of a direct one, also where there are none
twice : (t : Bool) {m n : ℕ} → pick t 1 0 ≡ m → pick t 2 0 ≡ n → n ≡ 2 * m
unfolding pick
twice true a b = omega arith
twice false a b = omega arith

address_sizes : (o k : ℕ) → has_form_of o k ≡ true → number_size_of o extended ≡ 2 * number_size_of o direct
unfolding number_bytes pick
address_sizes o k h = twice (eqb (number_digit o / 4) 1) (quick o direct k h) (quick o extended k h)

-- a row that has Direct has Extended, and the other way round
pub direct_extended : (o : ℕ) → has_form_of o direct ≡ has_form_of o extended
direct_extended o = alike (has_form_of o direct) (has_form_of o extended) there back refl refl
  where
    there : has_form_of o direct ≡ true → has_form_of o extended ≡ true
    there h = number_has_form o extended (omega (arith, direct_size o h, address_sizes o direct h))

    back : has_form_of o extended ≡ true → has_form_of o direct ≡ true
    back h = number_has_form o direct (omega (arith, extended_size o h, address_sizes o extended h))

    alike : (a b : Bool) → (has_form_of o direct ≡ true → has_form_of o extended ≡ true) → (has_form_of o extended ≡ true → has_form_of o direct ≡ true) → has_form_of o direct ≡ a → has_form_of o extended ≡ b → has_form_of o direct ≡ has_form_of o extended
    alike true b f g p q = p ∙ sym (f p)
    alike false true f g p q = g q ∙ sym q
    alike false false f g p q = p ∙ sym q

-- a row of a branch has no address: the digit of its number is of one kind
one_kind : (kind : ℕ) → pick {A = ℕ} (eqb kind 1) 2 0 ≡ 2 → pick (leb 2 kind) (kind - 1) 0 ≡ 0
unfolding pick
one_kind kind = from (eqb kind 1) refl
  where
    from : (t : Bool) → eqb kind 1 ≡ t → pick {A = ℕ} t 2 0 ≡ 2 → pick (leb 2 kind) (kind - 1) 0 ≡ 0
    from true q a = rw (eqb-true kind 1 q)
    from false q a = absurd (omega arith)

pub branch_only : (o : ℕ) → has_form_of o relative ≡ true → has_form_of o extended ≡ false
unfolding number_bytes pick
branch_only o h = from (has_form_of o extended) refl
  where
    from : (t : Bool) → has_form_of o extended ≡ t → has_form_of o extended ≡ false
    from false q = q
    from true q =
        let none : number_size_of o relative ≡ 0 = sym (quick o relative relative h) ∙ one_kind (number_digit o / 4) (quick o extended relative h ∙ extended_size o q) in
        absurd (omega (arith, none, branch_size o h (λ two. omega (arith, none, two))))

-- a long branch is no alias
long_plain : (o : ℕ) → merged_of o < 146 → long_of o < 146
unfolding long_of long_from
long_plain o m =
    by_test (λ (k : ℕ). k < 146) (between 80 95 (merged_of o))
    (λ q. omega (arith, leb-true (merged_of o) 95 (both_second (leb 80 (merged_of o)) (leb (merged_of o) 95) q)))
    (λ _. by_test (λ (k : ℕ). k < 146) (eqb (merged_of o) 113) (λ _. omega arith) (λ _. m))

pub long_merged : (o : ℕ) → has_form_of o relative ≡ true → merged_of (long_of o) ≡ long_of o
unfolding merged_of
long_merged o h = pick_true _ _ (lt-ltb (long_of o) 146 (long_plain o (merged_small o relative h)))
