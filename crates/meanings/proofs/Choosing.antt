-- What a build settles on says what the record says: its argument has the numbers, registers and marks of the record that its form's meaning reads.
-- Form by form, by the equations of the choosing.
-- Assumes nothing.
use mathlib.Core.Path.{◌≡◌, ◌∙◌, refl, sym, ap}
use mathlib.Core.Bool.{Bool, true, false, not, ◌&&◌, ◌||◌}
use Prim.Native.Nat.{ℕ}
use lib.Dec.{eqb, ltb}
use Rattle.std.specs.Prelude.{Result, Ok, Err, IfOk}
use Rattle.ground.specs.declared.refusals.Refusal.{Refusal}
use Rattle.ground.specs.Choice.{pick}
use Rattle.ground.specs.declared.refusals.Refusal.{Refusal}
use Rattle.ground.specs.Words.{plus, minus}
use Rattle.ground.proofs.Choices.{by_pick}
use Rattle.values.specs.Widths.{bits_of, extended, sign_extended_of}
use Rattle.values.specs.declared.pages.Page.{Page}
use Rattle.values.specs.Pages.{reaches}
use Rattle.rows.specs.Forms as forms
use Rattle.rows.specs.Sizes.{number_size_of}
use Rattle.postbytes.specs.Registers.{PC, not_indexing, not_accumulator}
use Rattle.postbytes.specs.Writing.{near_of}
use Rattle.decoder.specs.declared.Kind.{Kind}
use Rattle.decoder.specs.declared.Kind.TheVariants.{Offset, Counter, Accumulator, Step}
use Rattle.decoder.specs.declared.Origin.{Origin}
use Rattle.decoder.specs.Origin.{target_of}
use Rattle.instruction.specs.declared.Values.{Values}
use Rattle.instruction.specs.declared.Instruction.{Instruction}
use Rattle.instruction.specs.declared.Chosen.{Chosen}
use Rattle.instruction.specs.Names.{mode_register, mode_offset, mode_pc_relative, mode_inc_dec, mode_direct}
use Rattle.instruction.specs.Forms.{becomes_direct}
use Rattle.instruction.specs.Choosing.{inherent_of, immediate_of, forced_wide, leaves_direct, stays_direct, directly_of, anew_as, anew_of, address_of, long_branch, branch_of, offset_value, accumulator_index, offset_index, target_index, step_index, address_index, index_of, listed_of, list_settled, registers_of, choose_of}
use Rattle.meanings.specs.Means.{first, second, offset_in, offset_kind, index_kind, kind_of}
use Rattle.meanings.proofs.Operands.{argument_kind}

-- the number of an offset, and zero where no value is given
offset_reads : (v : Values) → (sign_extended_of (offset_value v)).number ≡ offset_in v
unfolding offset_value offset_in sign_extended_of bits_of extended pick
offset_reads v = go v.given
  where
    go : (t : Bool) → (sign_extended_of (pick t v.signed (record { number = 0; width = 8 }))).number ≡ pick t (sign_extended_of v.signed).number 0
    go true = refl
    go false = refl

-- two choices by one test
alongside : {A B : Type 0} (P : A → B → Type 0) (t : Bool) {a b : A} {c d : B} → P a c → P b d → P (pick t a b) (pick t c d)
unfolding pick
alongside P true x y = x
alongside P false x y = y

module _ (i : Instruction) (v : Values) (end : Origin) where
  -- a choice that is not refused says what the record says in its form
  abbrev Means : Result Chosen Refusal → Type 0
  Means r = IfOk r (λ c. argument_kind i.operand c.form c.argument end ≡ kind_of c.form i.operand v end.address)

  inherent_means : Means (inherent_of i v)
  unfolding inherent_of kind_of pick
  inherent_means = by_pick Means v.given tt refl

  immediate_means : Means (immediate_of i v)
  unfolding immediate_of kind_of pick
  immediate_means =
      by_pick Means (eqb (number_size_of i.operand.operation forms.immediate) 1 && ltb 255 v.unsigned.number)
      tt refl

  address_means : (page : Page) → Means (address_of i v page)
  unfolding address_of directly_of stays_direct leaves_direct anew_of anew_as kind_of pick
  address_means page =
      by_pick Means (eqb i.operand.mode mode_direct)
      (by_pick Means (becomes_direct i.operand v page) refl
      (by_pick Means (eqb i.form forms.direct)
      (by_pick Means (reaches page v.unsigned.number)
      (by_pick Means (forced_wide i v page) tt refl)
      (by_pick Means i.trial refl tt))
      refl))
      (by_pick (λ (form : ℕ). Means (Ok (anew_as i v form))) (becomes_direct i.operand v page) refl refl)

  branch_means : (address : ℕ) → Means (branch_of i v address)
  unfolding branch_of long_branch kind_of pick
  branch_means address =
      by_pick Means (eqb (number_size_of i.operand.operation forms.relative) 2) refl
      (by_pick Means i.widened refl
      (by_pick Means (near_of (minus v.unsigned.number (plus address 2))) refl
      (by_pick Means i.operand.widening refl tt)))

  -- an indexed choice that is not refused says a kind
  abbrev Says : Kind → Result Chosen Refusal → Type 0
  Says kind r = IfOk r (λ c. (c.form ≡ forms.indexed) × (argument_kind i.operand c.form c.argument end ≡ kind))

  accumulator_says : Says (Accumulator (second i.operand) i.operand.indirect (first i.operand)) (accumulator_index i)
  unfolding accumulator_index
  accumulator_says =
      let o = i.operand in
      by_pick (Says (Accumulator (second o) o.indirect (first o)))
      (not (eqb o.count 2) || (not_accumulator (first o) || not_indexing (second o)))
      tt (refl, refl)

  offset_says : Says (offset_kind i.operand v end.address) (offset_index i v)
  unfolding offset_index offset_kind target_of
  offset_says =
      let o = i.operand in
      by_pick (Says (offset_kind o v end.address)) (not (eqb o.count 1)) tt
      (alongside Says (eqb (first o) PC)
      (refl, ap (λ (n : ℕ). Counter o.indirect (plus end.address n)) (offset_reads v))
      (by_pick (Says (Offset (first o) o.indirect (offset_in v))) (not_indexing (first o)) tt
      (refl, ap (Offset (first o) o.indirect) (offset_reads v))))

  target_says : Says (Counter i.operand.indirect v.unsigned.number) (target_index i v)
  unfolding target_index
  target_says =
      let o = i.operand in
      by_pick (Says (Counter o.indirect v.unsigned.number)) (eqb o.count 1 && eqb (first o) PC)
      (refl, refl) tt

  step_says : Says (Step (first i.operand) i.operand.indirect i.operand.step) (step_index i)
  unfolding step_index
  step_says =
      let o = i.operand in
      let P = Says (Step (first o) o.indirect o.step) in
      by_pick P (o.indirect && (eqb o.step 1 || eqb o.step 3)) tt
      (by_pick P (not (eqb o.count 1) || not_indexing (first o)) tt (refl, refl))

  index_says : Says (index_kind i.operand v end.address) (index_of i v)
  unfolding index_of address_index index_kind
  index_says =
      let mode = i.operand.mode in
      alongside Says (eqb mode mode_register) accumulator_says
      (alongside Says (eqb mode mode_offset) offset_says
      (alongside Says (eqb mode mode_pc_relative) target_says
      (alongside Says (eqb mode mode_inc_dec) step_says (refl, refl))))

  index_means : Means (index_of i v)
  unfolding kind_of pick
  index_means = go (index_of i v) index_says
    where
      go : (r : Result Chosen Refusal) → Says (index_kind i.operand v end.address) r → Means r
      go (Ok c) s = s.1 ∙ sym (ap (λ (form : ℕ). kind_of form i.operand v end.address) s.0)
      go (Err n) s = tt

  registers_means : Means (registers_of i)
  unfolding registers_of kind_of pick
  registers_means = go (listed_of i.operand)
    where
      go : (l : Result ℕ Refusal) → Means (list_settled i l)
      go (Ok byte) = refl
      go (Err n) = tt

-- every form
pub choose_means :
    (i : Instruction) (v : Values) (page : Page) (address : ℕ) (end : Origin) →
    IfOk (choose_of i v page address) (λ c. argument_kind i.operand c.form c.argument end ≡ kind_of c.form i.operand v end.address)
unfolding choose_of
choose_means i v page address end =
    let P = Means i v end in
    by_pick P (eqb i.form forms.inherent) (inherent_means i v end)
    (by_pick P (eqb i.form forms.immediate) (immediate_means i v end)
    (by_pick P (eqb i.form forms.direct || eqb i.form forms.extended) (address_means i v end page)
    (by_pick P (eqb i.form forms.indexed) (index_means i v end)
    (by_pick P (eqb i.form forms.relative) (branch_means i v end address) (registers_means i v end)))))
