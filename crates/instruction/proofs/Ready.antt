-- What a record makes is sound with the record's values, and its row has its form; and a fresh build is the build of the form that the record asks for, since what
-- making refuses a build refuses alike.
-- Assumes nothing.
use mathlib.Core.Path.{◌≡◌, refl, sym, ◌∙◌}
use mathlib.Core.Bool.{Bool, true, false, not, ◌&&◌}
use lib.Dec.{ltb}
use Prim.Native.Nat.{ℕ, ◌<◌}
use borrow.Author.Tests.{lt-ltb, not-false}
use Rattle.ground.specs.Choice.{pick}
use Rattle.std.specs.Prelude.{Result, Ok, Err, IfOk}
use Rattle.ground.specs.declared.refusals.Refusal.{Refusal}
use Rattle.ground.specs.declared.refusals.Refusal.TheVariants.{Unknown, NoSuchMode, ValueMissing}
use Rattle.ground.proofs.Choices.{by_test, by_pick}
use Rattle.ground.proofs.Tests.{both_first, both_second, neither_left}
use Rattle.values.specs.declared.pages.Page.{Page}
use Rattle.rows.specs.Lookup.{has_form_of}
use Rattle.rows.proofs.Codes.{form_small}
use Rattle.instruction.specs.declared.Operand.{Operand}
use Rattle.instruction.specs.declared.Values.{Values}
use Rattle.instruction.specs.declared.Record.{Record}
use Rattle.instruction.specs.declared.Instruction.{Instruction}
use Rattle.instruction.specs.Records.{recognised, lawful, sound}
use Rattle.instruction.specs.Forms.{extended_form, register_form, form_of, strays, lacks, needs_value}
use Rattle.instruction.specs.Building.{instruction_of, made_as, make_of, early_of, tried_of, build_of, fresh_of}
use Rattle.instruction.specs.Sequences.{told_of}
use Rattle.instruction.proofs.Results.{of_ok, told_alike}

-- a form that is not lacking is one of seven
pub lacking_none : (o : Operand) (form : ℕ) → lacks o form ≡ false → form < 7
unfolding lacks
lacking_none o form e =
    form_small o.operation form
    (not-false (has_form_of o.operation form) (neither_left (not (has_form_of o.operation form)) (strays o.mode form) e))

record Makes (r : Record) (i : Instruction) : Type 0 where
  whole : i ≡ instruction_of r.operand (form_of r.operand r.values r.page)
  right : sound i r.values ≡ true
  has : lacks i.operand i.form ≡ false

make_makes : (r : Record) → IfOk (make_of r) (Makes r)
unfolding make_of made_as instruction_of sound
make_makes r =
    let o = r.operand in
    let v = r.values in
    let form = form_of o v r.page in
    let P : Result Instruction Refusal → Type 0 = λ m. IfOk m (Makes r) in
    by_test P (recognised o && lawful v)
    (λ k. by_test P (lacks o form) (λ _. tt)
    (λ l. record {
      whole = refl;
      right = rw (both_first (recognised o) (lawful v) k, lt-ltb form 7 (lacking_none o form l)) (both_second (recognised o) (lawful v) k);
      has = l;
    }))
    (λ _. tt)

pub made_whole : (r : Record) (i : Instruction) → make_of r ≡ Ok i → i ≡ instruction_of r.operand (form_of r.operand r.values r.page)
made_whole r i e = (of_ok (Makes r) (make_makes r) e).whole

pub made_ready : (r : Record) (i : Instruction) → make_of r ≡ Ok i → (sound i r.values ≡ true) × (lacks i.operand i.form ≡ false)
made_ready r i e =
    let m = of_ok (Makes r) (make_makes r) e in
    (m.right, m.has)

-- ---- a fresh build
form_below : (o : Operand) (v : Values) (page : Page) → ltb (form_of o v page) 7 ≡ true
unfolding form_of register_form extended_form
form_below o v page =
    let P : ℕ → Type 0 = λ f. ltb f 7 ≡ true in
    by_pick P _ (by_pick P _ refl refl)
    (by_pick P _ (by_pick P _ refl (by_pick P _ refl (by_pick P _ refl refl))) (by_pick P _ refl (by_pick P _ refl (by_pick P _ refl refl))))

pub early_made :
    (o : Operand) (v : Values) (page : Page) →
    early_of (instruction_of o (form_of o v page)) v
    ≡ pick (recognised o && lawful v)
    (pick (lacks o (form_of o v page)) (Err NoSuchMode) (pick (needs_value o.mode (form_of o v page) && not v.given) (Err ValueMissing) (Ok tt)))
    (Err Unknown)
unfolding early_of sound instruction_of
early_made o v page = rw (form_below o v page)

early_tried : (i : Instruction) (v : Values) (page : Page) (address : ℕ) (n : Refusal) → early_of i v ≡ Err n → tried_of i v page address ≡ Err n
unfolding tried_of
early_tried i v page address n e = rw e

pub fresh_tried : (r : Record) (address : ℕ) → fresh_of r address ≡ tried_of (instruction_of r.operand (form_of r.operand r.values r.page)) r.values r.page address
unfolding fresh_of make_of made_as pick
fresh_tried r address = go (recognised o && lawful v) refl (lacks o form) refl
  where
    o : Operand
    o = r.operand

    v : Values
    v = r.values

    form : ℕ
    form = form_of o v r.page

    go :
        (a : Bool) → (recognised o && lawful v) ≡ a → (b : Bool) → lacks o form ≡ b →
        fresh_of r address ≡ tried_of (instruction_of o form) v r.page address
    go true p false q = rw (p, q)
    go true p true q = rw (p, q) (sym (early_tried (instruction_of o form) v r.page address NoSuchMode (early_made o v r.page ∙ rw (p, q))))
    go false p b q = rw p (sym (early_tried (instruction_of o form) v r.page address Unknown (early_made o v r.page ∙ rw p)))

-- and that is what the instruction answers of which it is the build
pub fresh_built :
    (r : Record) (address : ℕ) →
    fresh_of r address ≡ told_of (build_of (instruction_of r.operand (form_of r.operand r.values r.page)) r.values r.page address)
unfolding build_of
fresh_built r address =
    let i = instruction_of r.operand (form_of r.operand r.values r.page) in
    fresh_tried r address ∙ sym (told_alike i (tried_of i r.values r.page address))
