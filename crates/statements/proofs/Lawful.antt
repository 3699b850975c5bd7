-- The values of an accepted statement fit their widths, so that the writer of records has no 1 for them.
-- Assumes nothing.
use mathlib.Core.Path.{◌≡◌, refl}
use mathlib.Core.Bool.{Bool, true, false, not, ◌&&◌}
use mathlib.Core.List.{List, [], ◌∷◌}
use Prim.Native.Nat.{ℕ, ◌%◌, ◌^◌, ◌<◌}
use native.Mathlib.Omega.{arith}
use lib.Dec.{eqb, ltb}
use borrow.Author.Tests.{eqb-true, ltb-true, lt-ltb}
use Rattle.std.specs.Prelude.{Option, None, Result, Ok, Err, IfOk}
use Rattle.ground.specs.declared.refusals.Refusal.{Refusal}
use Rattle.ground.proofs.Choices.{by_test, by_pick}
use Rattle.values.specs.declared.Value.{Value}
use Rattle.values.specs.declared.pages.Page.{Page}
use Rattle.values.specs.Widths.{bits_of, widened_of}
use Rattle.expressions.specs.declared.finding.Found.{Found}
use Rattle.expressions.specs.Finding.{deepest, node_value}
use Rattle.expressions.specs.Answers.{narrow_of, value_of, answer_of, evaluation}
use Rattle.expressions.specs.Numbers.{Cells, Short}
use Rattle.records.specs.Fine.{Each}
use Rattle.records.specs.Objects.{fits, bad_values}
use Rattle.records.proofs.ByteRows.{bytes_good}
use Rattle.instruction.specs.Building.{bytes_told}
use Rattle.statements.specs.declared.Statement.{Statement}
use Rattle.statements.specs.declared.Statement.TheVariants.{Label, Instruction, Rmb, Fcb, Fdb, Fcc, Org, Setdp, Unknown}
use Rattle.statements.specs.declared.Entry.{Entry}
use Rattle.statements.specs.declared.Datum.{Datum}
use Rattle.statements.specs.declared.Datum.TheVariants.{Byte, Word, Character}
use Rattle.statements.specs.Listing.{none, statement_at, entry_at}
use Rattle.statements.specs.Asking.{asked_of, wanted_of, byte_of, word_of, character_of, datum_of, answers_from, refusals_in, value_in, rows_in}
use Rattle.statements.specs.Effects.{built_of, effect_of, effect_at}
use Rattle.statements.specs.Objects.{values_of, values_at}
use Rattle.statements.proofs.Answered.{stored_values}
use Rattle.statements.proofs.Told.{data_none}
use Rattle.statements.proofs.Small.{built_small}
use Rattle.statements.proofs.Sizes.{wanted_fits}

-- a value and its width, where the number fits
fits_byte : (n w : ℕ) → w ≡ 8 → n < 256 → fits n w ≡ true
unfolding fits
fits_byte n w e h = rw (e, lt-ltb n 256 h)

fits_word : (n w : ℕ) → w ≡ 16 → n < 65536 → fits n w ≡ true
unfolding fits
fits_word n w e h = rw (e, lt-ltb n 65536 h)

-- values that fit, one after the other
rows_good : (answers : List (Result Value Refusal)) → Each (λ (a : Result Value Refusal). fits (value_in a).number (value_in a).width ≡ true) answers → bad_values (rows_in answers) ≡ false
rows_good [] h = refl
rows_good (a ∷ more) (h, hs) = rw (h) (rows_good more hs)

-- ---- one value
abbrev Narrow : Value → Type 0
Narrow v = v.width ≡ 8 → v.number < 256

abbrev Holds : Value → Type 0
Holds v = fits v.number v.width ≡ true

byte_holds : (a : Result Value Refusal) → IfOk a Narrow → IfOk (byte_of a) Holds
byte_holds (Ok v) h =
    by_test (λ (a : Result Value Refusal). IfOk a Holds) (eqb v.width 8) (λ e. let w = eqb-true v.width 8 e in fits_byte v.number v.width w (h w)) (λ _. tt)
byte_holds (Err why) h = tt

widened_small : (v : Value) → v.number < 65536 → (widened_of v).number < 65536
unfolding widened_of bits_of
widened_small v h = by_pick (λ (k : ℕ). v.number % 2 ^ k < 65536) (eqb v.width 8) (omega arith) (omega arith)

widened_wide : (v : Value) → (widened_of v).width ≡ 16
unfolding widened_of
widened_wide v = refl

word_holds : (a : Result Value Refusal) → IfOk a (λ v. Short v.number) → IfOk (word_of a) Holds
word_holds (Ok v) h = fits_word (widened_of v).number (widened_of v).width (widened_wide v) (widened_small v h)
word_holds (Err why) h = tt

character_holds : (n : ℕ) → IfOk (character_of n) Holds
unfolding character_of
character_holds n =
    by_test (λ (a : Result Value Refusal). IfOk a Holds) (ltb n 256) (λ q. fits_byte n 8 refl (ltb-true n 256 q)) (λ _. tt)

value_narrow : (f : Found) → Narrow (value_of false f)
unfolding value_of
value_narrow f = by_pick Narrow (narrow_of false f.number && not f.wide) (λ _. omega arith) (λ z. absurd (omega arith))

module _ (ns ls : List ℕ) (nodes_fit : Cells Short ns) (labels_fit : Cells Short ls) where
  -- a value of 8 bits is below 256
  wanted_narrow : (node here : ℕ) → IfOk (wanted_of ns ls node here) Narrow
  unfolding wanted_of evaluation
  wanted_narrow node here =
      by_pick (λ (a : Result Value Refusal). IfOk a Narrow) (eqb node none) tt (of_found (node_value deepest ns ls node here))
    where
      of_found : (f : Result Found Refusal) → IfOk (answer_of false f) Narrow
      of_found (Ok f) = value_narrow f
      of_found (Err why) = tt

  datum_fits : (kind : Datum) (here : ℕ) → Short here → (item : ℕ) → IfOk (datum_of kind ns ls here item) Holds
  datum_fits Byte here h item = byte_holds (wanted_of ns ls item here) (wanted_narrow item here)
  datum_fits Word here h item = word_holds (wanted_of ns ls item here) (wanted_fits ns ls nodes_fit labels_fit item here h)
  datum_fits Character here h item = character_holds item

  answers_fit :
      (kind : Datum) (items : List ℕ) (here first n : ℕ) → Short here →
      Each (λ (r : Option Refusal). r ≡ None) (refusals_in (answers_from kind items ns ls here first n)) →
      Each (λ (a : Result Value Refusal). fits (value_in a).number (value_in a).width ≡ true) (answers_from kind items ns ls here first n)
  answers_fit kind items here first n h = stored_values Holds kind items ns ls here (datum_fits kind here h) first n

  values_good :
      (s : Statement) (e : Entry) (items : List ℕ) (here : ℕ) (page : Page) (ill : Bool) → Short here →
      (effect_of s e items ns ls here page ill).refusal ≡ None →
      bad_values (values_of s e items ns ls here page) ≡ false
  values_good Label e items here page ill h z = refl
  values_good (Instruction node) e items here page ill h z =
      bytes_good (bytes_told (built_of e (asked_of ns ls node here) page here)) (built_small e (asked_of ns ls node here) page here)
  values_good (Rmb node) e items here page ill h z = refl
  values_good (Fcb first n) e items here page ill h z =
      rows_good (answers_from Byte items ns ls here first n) (answers_fit Byte items here first n h (data_none Byte items ns ls here first n ill z))
  values_good (Fdb first n) e items here page ill h z =
      rows_good (answers_from Word items ns ls here first n) (answers_fit Word items here first n h (data_none Word items ns ls here first n ill z))
  values_good (Fcc first n) e items here page ill h z =
      rows_good (answers_from Character items ns ls here first n) (answers_fit Character items here first n h (data_none Character items ns ls here first n ill z))
  values_good (Org node) e items here page ill h z = refl
  values_good (Setdp number) e items here page ill h z = refl
  values_good Unknown e items here page ill h z = refl

  -- the rows of an accepted statement's values are rows that the writer takes
  pub values_lawful :
      (list items : List ℕ) (i here : ℕ) (page : Page) (ill : Bool) → Short here →
      (effect_at list items ns ls i here page ill).refusal ≡ None →
      bad_values (values_at list items ns ls i here page) ≡ false
  unfolding effect_at values_at
  values_lawful list items i here page ill = values_good (statement_at list i) (entry_at list i) items here page ill
