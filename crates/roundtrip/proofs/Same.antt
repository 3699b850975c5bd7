-- The test of what was read tells whether it is what is meant; so all of two lists agree exactly where the one is the other read, and the leading ones that
-- agree are followed by two that differ, or by the end of a list.
-- Assumes nothing.
use mathlib.Core.Path.{◌≡◌, refl, sym, ap, ◌∙◌}
use mathlib.Core.Bool.{true, true≢false, false≢true}
use mathlib.Core.List.{List, [], ◌∷◌, map}
use Prim.Native.Nat.{ℕ, suc}
use lib.ListN.{length, take, drop}
use Rattle.std.specs.Prelude.{Ok, Err}
use Rattle.std.specs.Result.{result_eq}
use Rattle.ground.specs.contracts.refusals.RefusalPartialEq.TheImpl as refusal
use Rattle.ground.proofs.Choices.{by_test, pick_true}
use Rattle.ground.proofs.Tests.{both_first, both_second}
use Rattle.decoder.specs.declared.Decoded.{Decoded}
use Rattle.decoder.specs.contracts.DecodedPartialEq.TheImpl as decoded
use Rattle.decoder.specs.Meaning.{Answer}
use Rattle.decoder.proofs.Equal.{decoded_equal, decoded_itself}
use Rattle.roundtrip.specs.Same.{same, agreed, all_agree}

pub same_equal : (x : Decoded) (y : Answer) → same x y ≡ true → y ≡ Ok x
same_equal x (Ok y) e = ap Ok (decoded_equal y x e)
same_equal x (Err f) e = absurd (false≢true e)

pub same_itself : (x : Decoded) → same x (Ok x) ≡ true
same_itself x = decoded_itself x

-- and it is what the code's comparison of the two answers
pub compared : (x : Decoded) (y : Answer) → result_eq decoded.eq-value.it refusal.eq-value.it y (Ok x) ≡ same x y
compared x (Ok y) = refl
compared x (Err e) = refl

-- ---- lists that are read
abbrev pub read : List Decoded → List Answer
read xs = map Ok xs

pub read_tells : (xs ys : List Decoded) → read xs ≡ read ys → xs ≡ ys
read_tells [] [] e = refl
read_tells [] (y ∷ ys) e = absurd (cc)
read_tells (x ∷ xs) [] e = absurd (cc)
read_tells (x ∷ xs) (y ∷ ys) e =
    let a : x ≡ y = cc in
    let later : read xs ≡ read ys = cc in
    let b = read_tells xs ys later in
    cc

-- ---- two lists
pub all_equal : (xs : List Decoded) (ys : List Answer) → all_agree xs ys ≡ true → ys ≡ read xs
all_equal [] [] e = refl
all_equal [] (y ∷ ys) e = absurd (false≢true e)
all_equal (x ∷ xs) [] e = absurd (false≢true e)
all_equal (x ∷ xs) (y ∷ ys) e =
    let a = same_equal x y (both_first (same x y) (all_agree xs ys) e) in
    let b = all_equal xs ys (both_second (same x y) (all_agree xs ys) e) in
    cc

pub all_itself : (xs : List Decoded) → all_agree xs (read xs) ≡ true
all_itself [] = refl
all_itself (x ∷ xs) = rw (same_itself x, all_itself xs)

-- a list agrees with itself to its end
pub agreed_itself : (xs : List Decoded) → agreed xs (read xs) ≡ length xs
agreed_itself [] = refl
agreed_itself (x ∷ xs) = pick_true _ _ (same_itself x) ∙ ap suc (agreed_itself xs)

-- the instructions at the first place that differs, where both lists have one, are not the same
abbrev Differ : List Decoded → List Answer → Type 0
Differ [] ys = Unit
Differ (x ∷ xs) [] = Unit
Differ (x ∷ xs) (y ∷ ys) = y ≡ Ok x → ⊥

pub record First (xs : List Decoded) (ys : List Answer) (place : ℕ) : Type 0 where
  pub alike : read (take place xs) ≡ take place ys
  pub differ : Differ (drop place xs) (drop place ys)

pub agreed_first : (xs : List Decoded) (ys : List Answer) → First xs ys (agreed xs ys)
agreed_first [] ys = record { alike = refl; differ = tt }
agreed_first (x ∷ xs) [] = record { alike = refl; differ = tt }
agreed_first (x ∷ xs) (y ∷ ys) =
    by_test (First (x ∷ xs) (y ∷ ys)) (same x y)
    (λ t. let f = agreed_first xs ys in let e = same_equal x y t in let a = f.alike in record { alike = cc; differ = f.differ })
    (λ t. record { alike = refl; differ = λ e. true≢false (sym (same_itself x) ∙ ap (same x) (sym e) ∙ t) })
