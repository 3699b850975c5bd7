-- What each refusal of a fresh build tells of its record, once 1 is passed.
-- Assumes nothing.
use mathlib.Core.Path.{◌≡◌, refl, sym, ap, ◌∙◌, subst}
use mathlib.Core.Bool.{Bool, true, false, ◌&&◌, ◌||◌, not, false≢true}
use Prim.Native.Nat.{ℕ}
use native.Mathlib.Omega.{arith}
use lib.Dec.{eqb, ltb}
use borrow.Author.Tests.{eqb-true, not-true}
use Rattle.std.specs.Prelude.{Result, Ok, Err, IsOkUnless, is_err, ⊤}
use Rattle.ground.specs.Choice.{pick}
use Rattle.ground.specs.declared.refusals.Refusal.{Refusal}
use Rattle.ground.specs.declared.refusals.Refusal.TheVariants.{BadRegister}
use Rattle.ground.specs.Refusals.{unknown, no_such_mode, value_missing, bad_register, single_step_indirect, bad_width, direct_not_allowed, branch_too_far, number_of}
use Rattle.ground.specs.Words.{plus, minus}
use Rattle.ground.proofs.Choices.{by_test, by_pick}
use Rattle.ground.proofs.Tests.{both_first, both_second, neither_left, neither_right}
use Rattle.values.specs.declared.pages.Page.{Page}
use Rattle.values.specs.Pages.{reaches, is_zero}
use Rattle.rows.specs.Forms.{inherent, immediate, direct, indexed, extended, relative, register}
use Rattle.rows.specs.Lookup.{has_form_of}
use Rattle.rows.specs.Sizes.{number_size_of}
use Rattle.postbytes.specs.Registers.{PC, not_indexing, not_accumulator}
use Rattle.postbytes.specs.Writing.{near_of}
use Rattle.instruction.specs.declared.Operand.{Operand}
use Rattle.instruction.specs.declared.Values.{Values}
use Rattle.instruction.specs.declared.Record.{Record}
use Rattle.instruction.specs.declared.Instruction.{Instruction}
use Rattle.instruction.specs.declared.Chosen.{Chosen}
use Rattle.instruction.specs.Names.{mode_register, mode_offset, mode_pc_relative, mode_inc_dec, mode_extended, mode_direct, mode_immediate, mode_inherent}
use Rattle.instruction.specs.Records.{recognised, lawful}
use Rattle.instruction.specs.Forms.{becomes_direct, extended_form, register_form, form_of, lacks, needs_value}
use Rattle.instruction.specs.Choosing.{inherent_of, immediate_of, forced_wide, address_of, long_branch, branch_of, register_at, accumulator_index, offset_index, target_index, step_index, address_index, index_of, listed_of, registers_of, choose_of, list_settled}
use Rattle.instruction.specs.Building.{instruction_of, early_of, finished_of, fresh_of, after, tried_of, told}
use Rattle.instruction.proofs.Tests.{or_left, or_right}
use Rattle.instruction.proofs.Ready.{early_made, fresh_tried}
use Rattle.instruction.proofs.Fits.{Early, early_leaves}
use Rattle.instruction.proofs.Choice.{not_strange, last_form, listed_four, address_choice}
use Rattle.instruction.proofs.Results.{of_ok}

-- the form that a record asks for
abbrev pub asked_of : Record → ℕ
asked_of r = form_of r.operand r.values r.page

-- ---- what is wrong
-- 3: a value is needed, and none is given
pub record Missing (r : Record) : Type 0 where
  pub needed : needs_value r.operand.mode (asked_of r) ≡ true
  pub absent : r.values.given ≡ false

-- 4: no accumulator with a register that it is added to; no register that an offset or a step is on; or not the PC of PCRelative
abbrev not_added : Operand → Bool
not_added o = not (eqb o.count 2) || (not_accumulator (register_at o 0) || not_indexing (register_at o 1))

abbrev not_pointer : Operand → Bool
not_pointer o = not (eqb o.count 1) || not_indexing (register_at o 0)

abbrev is_counter : Operand → Bool
is_counter o = eqb o.count 1 && eqb (register_at o 0) PC

-- by the mode, and in Register mode by the row: one of register lists, or not
unfoldable pub bad_registers : Operand → Bool
bad_registers o =
    pick (eqb o.mode mode_register)
    (pick (has_form_of o.operation register) (is_err (listed_of o)) (not_added o))
    (pick (eqb o.mode mode_pc_relative) (not (is_counter o)) (not_pointer o))

-- 6: a value on an inherent form, one too large for its row, or a wide one under page 0
pub data BadWidth (r : Record) : Type 0 where
  not_taken : r.operand.mode ≡ mode_inherent → r.values.given ≡ true → BadWidth r
  too_large : r.operand.mode ≡ mode_immediate → ltb 255 r.values.unsigned.number ≡ true → BadWidth r
  too_wide : r.operand.mode ≡ mode_direct → eqb r.values.unsigned.width 16 ≡ true → is_zero r.page ≡ true → BadWidth r

-- 7: a Direct that its page does not reach
pub record Beyond (r : Record) : Type 0 where
  pub mode : r.operand.mode ≡ mode_direct
  pub given : r.values.given ≡ true
  pub unreached : reaches r.page r.values.unsigned.number ≡ false

pub data Cause (r : Record) (n : ℕ) : Type 0 where
  accepted : n ≡ 0 → Cause r n
  lacking : n ≡ no_such_mode → lacks r.operand (asked_of r) ≡ true → Cause r n
  missing : n ≡ value_missing → Missing r → Cause r n
  misnamed : n ≡ bad_register → bad_registers r.operand ≡ true → Cause r n
  indirect : n ≡ single_step_indirect → r.operand.indirect ≡ true → Cause r n
  misfit : n ≡ bad_width → BadWidth r → Cause r n
  beyond : n ≡ direct_not_allowed → Beyond r → Cause r n
  far : n ≡ branch_too_far → r.operand.widening ≡ false → Cause r n

-- ---- the mode of a form
-- Inherent, Immediate and the register lists are one mode's each
record ModeOf (o : Operand) (form : ℕ) : Type 0 where
  taking_none : form ≡ inherent → o.mode ≡ mode_inherent
  taking_one : form ≡ immediate → o.mode ≡ mode_immediate
  taking_list : form ≡ register → (o.mode ≡ mode_register) × (has_form_of o.operation register ≡ true)

other_mode :
    (o : Operand) (form : ℕ) → (form ≡ inherent → ⊥) × ((form ≡ immediate → ⊥) × (form ≡ register → ⊥)) → ModeOf o form
other_mode o form n = record { taking_none = λ z. absurd (n.0 z); taking_one = λ z. absurd (n.1.0 z); taking_list = λ z. absurd (n.1.1 z) }

mode_of : (o : Operand) (v : Values) (page : Page) → ModeOf o (form_of o v page)
unfolding form_of extended_form register_form
mode_of o v page =
    let P : ℕ → Type 0 = ModeOf o in
    by_test P (eqb o.mode mode_register)
    (λ m. by_test P (has_form_of o.operation register)
    (λ h. record {
      taking_none = λ z. absurd (omega arith);
      taking_one = λ z. absurd (omega arith);
      taking_list = λ _. (eqb-true o.mode mode_register m, h);
    })
    (λ _. other_mode o indexed (omega arith)))
    (λ _. by_pick P (eqb o.mode mode_extended)
    (by_pick P o.indirect (other_mode o indexed (omega arith))
    (by_pick P (not (has_form_of o.operation extended) && has_form_of o.operation relative) (other_mode o relative (omega arith))
    (by_pick P (becomes_direct o v page) (other_mode o direct (omega arith)) (other_mode o extended (omega arith)))))
    (by_pick P (eqb o.mode mode_direct) (other_mode o direct (omega arith))
    (by_test P (eqb o.mode mode_immediate)
    (λ m. record {
      taking_none = λ z. absurd (omega arith);
      taking_one = λ _. eqb-true o.mode mode_immediate m;
      taking_list = λ z. absurd (omega arith);
    })
    (λ _. by_test P (eqb o.mode mode_inherent)
    (λ m. record {
      taking_none = λ _. eqb-true o.mode mode_inherent m;
      taking_one = λ z. absurd (omega arith);
      taking_list = λ z. absurd (omega arith);
    })
    (λ _. other_mode o indexed (omega arith))))))

-- Register mode is indexed on a row that has no register lists alone
no_list : (o : Operand) (v : Values) (page : Page) → o.mode ≡ mode_register → form_of o v page ≡ indexed → has_form_of o.operation register ≡ false
unfolding form_of register_form pick
no_list o v page m e = go (has_form_of o.operation register) refl (rw m at e)
  where
    go : (t : Bool) → has_form_of o.operation register ≡ t → pick (has_form_of o.operation register) register indexed ≡ indexed → has_form_of o.operation register ≡ false
    go false q f = q
    go true q f = absurd (omega (arith, rw q at f))

-- ---- registers
module _ (o : Operand) where
  bad_list : o.mode ≡ mode_register → has_form_of o.operation register ≡ true → is_err (listed_of o) ≡ true → bad_registers o ≡ true
  unfolding bad_registers pick
  bad_list m h bad = rw (bad, m, h)

  bad_added : o.mode ≡ mode_register → has_form_of o.operation register ≡ false → not_added o ≡ true → bad_registers o ≡ true
  unfolding bad_registers pick
  bad_added m h t = rw (m, h) t

  bad_counter : o.mode ≡ mode_pc_relative → is_counter o ≡ false → bad_registers o ≡ true
  unfolding bad_registers pick
  bad_counter m t = rw (m, t)

  bad_pointer : eqb o.mode mode_register ≡ false → eqb o.mode mode_pc_relative ≡ false → not_pointer o ≡ true → bad_registers o ≡ true
  unfolding bad_registers pick
  bad_pointer m k t = rw (m, k) t

-- ---- what choosing refuses
module _ (r : Record) where
  index_cause : asked_of r ≡ indexed → Cause r (told (index_of (instruction_of r.operand (asked_of r)) r.values))
  unfolding instruction_of index_of accumulator_index offset_index target_index step_index address_index
  index_cause f =
      let P : Result Chosen Refusal → Type 0 = λ c. Cause r (told c) in
      let o = r.operand in
      let more = not (eqb o.count 1) in
      let strange = not_indexing (register_at o 0) in
      by_test P (eqb o.mode mode_register)
      (λ m. by_test P (not_added o)
      (λ t. let e = eqb-true o.mode mode_register m in misnamed refl (bad_added o e (no_list o r.values r.page e f) t))
      (λ _. accepted refl))
      (λ m. by_test P (eqb o.mode mode_offset)
      (λ k. let e = eqb-true o.mode mode_offset k in
      by_test P more (λ t. misnamed refl (bad_pointer o m (rw e) (or_left more strange t)))
      (λ _. by_pick P (eqb (register_at o 0) PC) (accepted refl)
      (by_test P strange (λ t. misnamed refl (bad_pointer o m (rw e) (or_right more strange t))) (λ _. accepted refl))))
      (λ _. by_test P (eqb o.mode mode_pc_relative)
      (λ k. by_test P (is_counter o) (λ _. accepted refl)
      (λ t. misnamed refl (bad_counter o (eqb-true o.mode mode_pc_relative k) t)))
      (λ k. by_pick P (eqb o.mode mode_inc_dec)
      (by_test P (o.indirect && (eqb o.step 1 || eqb o.step 3))
      (λ t. indirect refl (both_first o.indirect (eqb o.step 1 || eqb o.step 3) t))
      (λ _. by_test P (more || strange) (λ t. misnamed refl (bad_pointer o m k t)) (λ _. accepted refl)))
      (accepted refl))))

  branch_cause : (address : ℕ) → Cause r (told (branch_of (instruction_of r.operand (asked_of r)) r.values address))
  unfolding instruction_of branch_of long_branch
  branch_cause address =
      let P : Result Chosen Refusal → Type 0 = λ c. Cause r (told c) in
      by_pick P (eqb (number_size_of r.operand.operation relative) 2) (accepted refl)
      (by_pick P false (accepted refl)
      (by_pick P (near_of (minus r.values.unsigned.number (plus address 2))) (accepted refl)
      (by_test P r.operand.widening (λ _. accepted refl) (λ w. far refl w))))

module _ (r : Record) (left : Early (instruction_of r.operand (asked_of r)) r.values) where
  address_cause : Cause r (told (address_of (instruction_of r.operand (asked_of r)) r.values r.page))
  unfolding instruction_of forced_wide needs_value
  address_cause =
      let o = r.operand in
      let v = r.values in
      let wide = eqb v.unsigned.width 16 in
      let zero = is_zero r.page in
      address_choice (instruction_of o (asked_of r)) v r.page (λ (c : Result Chosen Refusal). Cause r (told c)) (λ _ _ _. accepted refl)
      (λ m _ _ w.
      let both = both_second o.forced (wide && zero) w in
      misfit refl (too_wide (eqb-true o.mode mode_direct m) (both_first wide zero both) (both_second wide zero both)))
      (λ m _ b _.
      let e = eqb-true o.mode mode_direct m in
      beyond refl (record { mode = e; given = left.present (rw e); unreached = b }))

  -- a list is refused 4
  list_cause :
      (o : Operand) → o.mode ≡ mode_register → has_form_of o.operation register ≡ true → o ≡ r.operand →
      (l : Result ℕ Refusal) → listed_of o ≡ l → IsOkUnless l BadRegister → Cause r (told (list_settled (instruction_of r.operand (asked_of r)) l))
  list_cause o m h e (Ok byte) q four = accepted refl
  list_cause o m h e (Err n) q four = misnamed (ap number_of four) (subst (λ (x : Operand). bad_registers x ≡ true) e (bad_list o m h (rw q)))

  choose_cause : (address : ℕ) → Cause r (told (choose_of (instruction_of r.operand (asked_of r)) r.values r.page address))
  unfolding instruction_of choose_of inherent_of immediate_of registers_of
  choose_cause address =
      let P : Result Chosen Refusal → Type 0 = λ c. Cause r (told c) in
      let o = r.operand in
      let v = r.values in
      let f = asked_of r in
      let large = ltb 255 v.unsigned.number in
      let modes = mode_of o v r.page in
      by_test P (eqb f inherent)
      (λ q. by_test P v.given (λ g. misfit refl (not_taken (modes.taking_none (eqb-true f inherent q)) g)) (λ _. accepted refl))
      (λ a. by_test P (eqb f immediate)
      (λ q. by_test P (eqb (number_size_of o.operation immediate) 1 && large)
      (λ t. misfit refl (too_large (modes.taking_one (eqb-true f immediate q)) (both_second (eqb (number_size_of o.operation immediate) 1) large t)))
      (λ _. accepted refl))
      (λ b. by_test P (eqb f direct || eqb f extended) (λ _. address_cause)
      (λ c. by_test P (eqb f indexed) (λ q. index_cause r (eqb-true f indexed q))
      (λ d. by_test P (eqb f relative) (λ _. branch_cause r address)
      (λ e.
      let last = last_form f left.small a b (neither_left (eqb f direct) (eqb f extended) c) (neither_right (eqb f direct) (eqb f extended) c) d e in
      let list = modes.taking_list (eqb-true f register last) in
      list_cause o list.0 list.1 refl (listed_of o) refl (listed_four o (not_strange o left.known)))))))

-- ---- a fresh build
module _ (r : Record) (address : ℕ) (whole : (recognised r.operand && lawful r.values) ≡ true) where
  early_cause : Cause r (told (early_of (instruction_of r.operand (asked_of r)) r.values))
  early_cause =
      let o = r.operand in
      let v = r.values in
      let need = needs_value o.mode (asked_of r) in
      let P : Result ⊤ Refusal → Type 0 = λ n. Cause r (told n) in
      rw (early_made o v r.page)
      (by_test P (recognised o && lawful v)
      (λ _. by_test P (lacks o (asked_of r)) (λ l. lacking refl l)
      (λ _. by_test P (need && not v.given)
      (λ t. missing refl (record { needed = both_first need (not v.given) t; absent = not-true v.given (both_second need (not v.given) t) }))
      (λ _. accepted refl)))
      (λ q. absurd (false≢true (sym q ∙ whole))))

  build_cause : Cause r (told (tried_of (instruction_of r.operand (asked_of r)) r.values r.page address))
  unfolding tried_of
  build_cause = go (early_of i v) refl early_cause
    where
      i : Instruction
      i = instruction_of r.operand (asked_of r)

      v : Values
      v = r.values

      finished : (c : Result Chosen Refusal) → Cause r (told c) → Cause r (told (finished_of i c address))
      finished (Ok c) k = accepted refl
      finished (Err n) k = k

      go : (n : Result ⊤ Refusal) → early_of i v ≡ n → Cause r (told n) → Cause r (told (after n (finished_of i (choose_of i v r.page address) address)))
      go (Ok passed) e k =
          finished (choose_of i v r.page address) (choose_cause r (of_ok (λ (_ : ⊤). Early i v) (early_leaves i v) e) address)
      go (Err n) e k = k

  pub cause : Cause r (told (fresh_of r address))
  cause = rw (fresh_tried r address) build_cause

-- which is not refused 1
pub not_one : {r : Record} {n : ℕ} → Cause r n → n ≡ unknown → ⊥
not_one (accepted e) z = omega arith
not_one (lacking e _) z = omega arith
not_one (missing e _) z = omega arith
not_one (misnamed e _) z = omega arith
not_one (indirect e _) z = omega arith
not_one (misfit e _) z = omega arith
not_one (beyond e _) z = omega arith
not_one (far e _) z = omega arith

pub seven_beyond : {r : Record} {n : ℕ} → Cause r n → n ≡ direct_not_allowed → Beyond r
seven_beyond (accepted e) z = absurd (omega arith)
seven_beyond (lacking e _) z = absurd (omega arith)
seven_beyond (missing e _) z = absurd (omega arith)
seven_beyond (misnamed e _) z = absurd (omega arith)
seven_beyond (indirect e _) z = absurd (omega arith)
seven_beyond (misfit e _) z = absurd (omega arith)
seven_beyond (beyond e b) z = b
seven_beyond (far e _) z = absurd (omega arith)
