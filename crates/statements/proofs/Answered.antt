-- What the items of FCB, FDB and FCC answer: a refusal that 01's order has, or a value of the statement's own width.
-- Assumes nothing.
use mathlib.Core.Path.{◌≡◌, refl}
use mathlib.Core.Bool.{false}
use mathlib.Core.List.{List}
use mathlib.Core.Logic.{inl, inr}
use Prim.Native.Nat.{ℕ, zero, suc, ◌+◌}
use native.Mathlib.Omega.{arith}
use lib.Dec.{eqb, ltb}
use borrow.Author.Tests.{eqb-true}
use Rattle.std.specs.Prelude.{Option, None, Some, Result, Ok, Err, IfOk}
use Rattle.std.specs.Result.{result_err}
use Rattle.ground.specs.Choice.{pick}
use Rattle.ground.specs.declared.refusals.Refusal.{Refusal}
use Rattle.ground.proofs.Choices.{by_test, by_pick}
use Rattle.values.specs.declared.Value.{Value}
use Rattle.values.specs.Widths.{widened_of}
use Rattle.records.specs.Fine.{Each}
use Rattle.expressions.specs.declared.finding.Found.{Found}
use Rattle.expressions.specs.Finding.{deepest, node_value}
use Rattle.expressions.specs.Answers.{answer_of, evaluation}
use Rattle.expressions.proofs.Fits.{Known, Answers, node_known}
use Rattle.statements.specs.declared.Datum.{Datum}
use Rattle.statements.specs.declared.Datum.TheVariants.{Byte, Word, Character}
use Rattle.statements.specs.Listing.{none, item_at}
use Rattle.statements.specs.Asking.{wanted_of, byte_of, word_of, character_of, datum_of, answers_from, refusals_in, value_in}
use Rattle.statements.proofs.Firsts.{Ordered}

-- ---- refusals
pub known_ordered : (r : Refusal) → Known r → Ordered (Some r)
unfolding pick
known_ordered r (inl e) = rw e (omega arith)
known_ordered r (inr e) = rw e (omega arith)

abbrev Fine : Result Value Refusal → Type 0
Fine a = Ordered (result_err a)

pub wanted_ordered : (ns ls : List ℕ) (node here : ℕ) → Ordered (result_err (wanted_of ns ls node here))
unfolding wanted_of evaluation pick
wanted_ordered ns ls node here = by_pick Fine (eqb node none) (omega arith) (of_found (node_value deepest ns ls node here) (node_known ns ls deepest node here))
  where
    of_found : (f : Result Found Refusal) → Answers f → Fine (answer_of false f)
    of_found (Ok f) k = tt
    of_found (Err r) k = known_ordered r k

byte_ordered : (a : Result Value Refusal) → Fine a → Fine (byte_of a)
unfolding pick
byte_ordered (Ok v) h = by_pick Fine (eqb v.width 8) tt (omega arith)
byte_ordered (Err r) h = h

word_ordered : (a : Result Value Refusal) → Fine a → Fine (word_of a)
word_ordered (Ok v) h = tt
word_ordered (Err r) h = h

datum_ordered : (kind : Datum) (ns ls : List ℕ) (here item : ℕ) → Fine (datum_of kind ns ls here item)
unfolding character_of pick
datum_ordered Byte ns ls here item = byte_ordered (wanted_of ns ls item here) (wanted_ordered ns ls item here)
datum_ordered Word ns ls here item = word_ordered (wanted_of ns ls item here) (wanted_ordered ns ls item here)
datum_ordered Character ns ls here item = by_pick Fine (ltb item 256) tt (omega arith)

pub answers_ordered : (kind : Datum) (items ns ls : List ℕ) (here first n : ℕ) → Each Ordered (refusals_in (answers_from kind items ns ls here first n))
unfolding answers_from
answers_ordered kind items ns ls here first zero = tt
answers_ordered kind items ns ls here first (suc n) =
    (datum_ordered kind ns ls here (item_at items first), answers_ordered kind items ns ls here (first + 1) n)

-- what holds of an answer's value holds of the value that is stored, where no answer is refused
pub stored_values :
    (P : Value → Type 0) (kind : Datum) (items ns ls : List ℕ) (here : ℕ) → ((item : ℕ) → IfOk (datum_of kind ns ls here item) P) → (first n : ℕ) →
    Each (λ (r : Option Refusal). r ≡ None) (refusals_in (answers_from kind items ns ls here first n)) →
    Each (λ (a : Result Value Refusal). P (value_in a)) (answers_from kind items ns ls here first n)
unfolding answers_from
stored_values P kind items ns ls here h first zero e = tt
stored_values P kind items ns ls here h first (suc n) (z, zs) =
    (stored (datum_of kind ns ls here (item_at items first)) z (h (item_at items first)), stored_values P kind items ns ls here h (first + 1) n zs)
  where
    stored : (a : Result Value Refusal) → result_err a ≡ None → IfOk a P → P (value_in a)
    stored (Ok v) e p = p
    stored (Err r) e p = absurd (cc)

-- ---- widths
abbrev pub width_of : Datum → ℕ
width_of Byte = 8
width_of Word = 16
width_of Character = 8

byte_width : (a : Result Value Refusal) → IfOk (byte_of a) (λ v. v.width ≡ 8)
byte_width (Ok v) = by_test (λ (a : Result Value Refusal). IfOk a (λ x. x.width ≡ 8)) (eqb v.width 8) (λ e. eqb-true v.width 8 e) (λ _. tt)
byte_width (Err r) = tt

word_width : (a : Result Value Refusal) → IfOk (word_of a) (λ v. v.width ≡ 16)
unfolding widened_of
word_width (Ok v) = refl
word_width (Err r) = tt

pub datum_width : (kind : Datum) (ns ls : List ℕ) (here item : ℕ) → IfOk (datum_of kind ns ls here item) (λ v. v.width ≡ width_of kind)
unfolding character_of
datum_width Byte ns ls here item = byte_width (wanted_of ns ls item here)
datum_width Word ns ls here item = word_width (wanted_of ns ls item here)
datum_width Character ns ls here item = by_pick (λ (a : Result Value Refusal). IfOk a (λ v. v.width ≡ 8)) (ltb item 256) refl tt

pub answers_width :
    (kind : Datum) (items ns ls : List ℕ) (here first n : ℕ) →
    Each (λ (r : Option Refusal). r ≡ None) (refusals_in (answers_from kind items ns ls here first n)) →
    Each (λ (a : Result Value Refusal). (value_in a).width ≡ width_of kind) (answers_from kind items ns ls here first n)
answers_width kind items ns ls here = stored_values (λ v. v.width ≡ width_of kind) kind items ns ls here (λ item. datum_width kind ns ls here item)
