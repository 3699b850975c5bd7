-- Every choice of a build whose registers are known is a refusal 4, 5, 6 or 8, the kept form settled on, the long branch, or a memory form's; and a memory form's is
-- Direct or Extended with the number, 6, or 7. So what holds of these holds of every choice.
-- Assumes nothing.
use mathlib.Core.Path.{◌≡◌, refl, sym, subst}
use mathlib.Core.Bool.{Bool, true, false, not, ◌&&◌, ◌||◌}
use Prim.Native.Nat.{ℕ, ◌<◌, ◌≤◌}
use native.Mathlib.Omega.{arith}
use lib.Dec.{eqb, ltb}
use lib.ListN.{take}
use borrow.Author.Tests.{eqb-false, eq-eqb, not-true}
use Rattle.ground.specs.Choice.{pick}
use Rattle.ground.specs.declared.refusals.Refusal.{Refusal}
use Rattle.ground.specs.declared.refusals.Refusal.TheVariants.{BadRegister, SingleStepIndirect, BadWidth, DirectNotAllowed, BranchTooFar}
use Rattle.ground.specs.Refusals.{number_of}
use Rattle.ground.specs.Words.{plus, minus}
use Rattle.ground.proofs.Choices.{by_test, by_pick}
use Rattle.ground.proofs.Tests.{both_first, both_second, neither_left, neither_right}
use Rattle.values.specs.declared.pages.Page.{Page}
use Rattle.values.specs.Pages.{reaches}
use Rattle.rows.specs.Forms.{inherent, immediate, direct, indexed, extended, relative, register}
use Rattle.rows.specs.Lookup.{known_of}
use Rattle.rows.specs.Sizes.{number_size_of}
use Rattle.std.specs.Prelude.{Result, Ok, Err, IsOkUnless}
use Rattle.postbytes.specs.Registers.{PC, not_indexing, not_accumulator}
use Rattle.postbytes.specs.Lists.{not_stack, strange_list, among, size_of}
use Rattle.postbytes.specs.ListsWritten.{push_of, paired_of}
use Rattle.postbytes.specs.Writing.{near_of}
use Rattle.instruction.specs.declared.Operand.{Operand}
use Rattle.instruction.specs.declared.Values.{Values}
use Rattle.instruction.specs.declared.Instruction.{Instruction}
use Rattle.instruction.specs.declared.Chosen.{Chosen}
use Rattle.instruction.specs.declared.Argument.{Argument}
use Rattle.instruction.specs.declared.Argument.TheVariants.{Number}
use Rattle.instruction.specs.Names.{mode_register, mode_offset, mode_pc_relative, mode_inc_dec, mode_direct, pshs, puls}
use Rattle.instruction.specs.Records.{stepped, recognised}
use Rattle.instruction.specs.Forms.{becomes_direct}
use Rattle.instruction.specs.Quick.{regular}
use Rattle.instruction.specs.Choosing.{settled, inherent_of, immediate_of, forced_wide, leaves_direct, stays_direct, directly_of, anew_as, anew_of, address_of, long_branch, branch_of, register_at, accumulator_index, offset_index, target_index, step_index, address_index, index_of, is_pair, own_stack, listed_of, list_settled, registers_of, choose_of}
use Rattle.instruction.proofs.Tests.{or_left, or_right}
use Rattle.instruction.proofs.Formed.{is_memory}

-- 4, 5, 6 or 8
abbrev pub Told : Refusal → Type 0
Told n = (number_of BadRegister ≤ number_of n) × ((number_of n ≤ number_of BranchTooFar) × (number_of n ≡ number_of DirectNotAllowed → ⊥))

-- ---- register lists
-- writing a list has a 1 of its own, for a stack or a register that is not known: the stack is S or U, and an operand with such a register is not
-- recognised
own_stack_lem : (o : ℕ) → not_stack (own_stack o) ≡ false
unfolding own_stack
own_stack_lem o = by_pick (λ (own : ℕ). not_stack own ≡ false) (eqb o pshs || eqb o puls) refl refl

pub regular_named : (o : Operand) → regular o ≡ true → strange_list o.registers o.count ≡ false
unfolding regular
regular_named o whole =
    let strange = strange_list o.registers o.count in
    not-true strange (both_first (not strange) (stepped o) (both_second (ltb o.mode 8) (not strange && stepped o) whole))

pub not_strange : (o : Operand) → recognised o ≡ true → strange_list o.registers o.count ≡ false
unfolding recognised regular
not_strange o known = regular_named o (both_second (known_of o.operation) (regular o) known)

pub listed_four : (o : Operand) → strange_list o.registers o.count ≡ false → IsOkUnless (listed_of o) BadRegister
unfolding listed_of paired_of push_of pick
listed_four o h =
    let P : Result ℕ Refusal → Type 0 = λ l. IsOkUnless l BadRegister in
    by_pick P (is_pair o.operation)
    (rw h (by_pick P (not (eqb o.count 2) || not (eqb (size_of (register_at o 0)) (size_of (register_at o 1)))) refl tt))
    (rw (own_stack_lem o.operation, h) (by_pick P (eqb o.count 0 || among (own_stack o.operation) (take o.count o.registers)) refl tt))

-- the last of seven
pub last_form : (f : ℕ) → f < 7 → eqb f 0 ≡ false → eqb f 1 ≡ false → eqb f 2 ≡ false → eqb f 4 ≡ false → eqb f 3 ≡ false → eqb f 5 ≡ false → eqb f 6 ≡ true
last_form f h a b c d e g =
    let a' = eqb-false f 0 a in
    let b' = eqb-false f 1 b in
    let c' = eqb-false f 2 c in
    let d' = eqb-false f 4 d in
    let e' = eqb-false f 3 e in
    let g' = eqb-false f 5 g in
    eq-eqb f 6 (omega arith)

-- ---- every form
module _ (i : Instruction) (v : Values) (page : Page) (address : ℕ) (P : Result Chosen Refusal → Type 0)
    (no : (n : Refusal) → Told n → P (Err n))
    (same : (form : ℕ) (a : Argument) → eqb i.form form ≡ true → P (Ok (settled i form a)))
    (long :
    eqb i.form relative ≡ true → eqb (number_size_of i.operand.operation relative) 2 ≡ false → (i.widened || i.operand.widening) ≡ true →
    P (Ok (long_branch i v)))
    (memory : (eqb i.form direct || eqb i.form extended) ≡ true → P (address_of i v page)) where
  index_choice : eqb i.form indexed ≡ true → P (index_of i v)
  unfolding index_of accumulator_index offset_index target_index step_index address_index
  index_choice q =
      let o = i.operand in
      let four : P (Err BadRegister) = no BadRegister (omega arith) in
      by_pick P (eqb o.mode mode_register)
      (by_pick P (not (eqb o.count 2) || (not_accumulator (register_at o 0) || not_indexing (register_at o 1))) four (same indexed _ q))
      (by_pick P (eqb o.mode mode_offset)
      (by_pick P (not (eqb o.count 1)) four
      (by_pick P (eqb (register_at o 0) PC) (same indexed _ q) (by_pick P (not_indexing (register_at o 0)) four (same indexed _ q))))
      (by_pick P (eqb o.mode mode_pc_relative)
      (by_pick P (eqb o.count 1 && eqb (register_at o 0) PC) (same indexed _ q) four)
      (by_pick P (eqb o.mode mode_inc_dec)
      (by_pick P (o.indirect && (eqb o.step 1 || eqb o.step 3)) (no SingleStepIndirect (omega arith))
      (by_pick P (not (eqb o.count 1) || not_indexing (register_at o 0)) four (same indexed _ q)))
      (same indexed _ q))))

  branch_choice : eqb i.form relative ≡ true → P (branch_of i v address)
  unfolding branch_of
  branch_choice q =
      let w = i.widened in
      let a = i.operand.widening in
      by_test P (eqb (number_size_of i.operand.operation relative) 2) (λ _. same relative _ q)
      (λ s. by_test P w (λ t. long q s (or_left w a t))
      (λ _. by_pick P (near_of (minus v.unsigned.number (plus address 2))) (same relative _ q)
      (by_test P a (λ t. long q s (or_right w a t)) (λ _. no BranchTooFar (omega arith)))))

  list_choice : eqb i.form register ≡ true → (l : Result ℕ Refusal) → IsOkUnless l BadRegister → P (list_settled i l)
  list_choice q (Ok byte) f = same register _ q
  list_choice q (Err n) f = no n (subst Told (sym f) (omega arith))

  pub choice : strange_list i.operand.registers i.operand.count ≡ false → i.form < 7 → P (choose_of i v page address)
  unfolding choose_of inherent_of immediate_of registers_of
  choice h small =
      let f = i.form in
      by_test P (eqb f inherent) (λ q. by_pick P v.given (no BadWidth (omega arith)) (same inherent _ q))
      (λ a. by_test P (eqb f immediate)
      (λ q. by_pick P (eqb (number_size_of i.operand.operation immediate) 1 && ltb 255 v.unsigned.number) (no BadWidth (omega arith)) (same immediate _ q))
      (λ b. by_test P (eqb f direct || eqb f extended) memory
      (λ c. by_test P (eqb f indexed) index_choice
      (λ d. by_test P (eqb f relative) branch_choice
      (λ e.
      let last = last_form f small a b (neither_left (eqb f direct) (eqb f extended) c) (neither_right (eqb f direct) (eqb f extended) c) d e in
      list_choice last (listed_of i.operand) (listed_four i.operand h))))))

-- ---- Direct and Extended
module _ (i : Instruction) (v : Values) (page : Page) (P : Result Chosen Refusal → Type 0)
    (some :
    (form : ℕ) (trial : Bool) → is_memory form ≡ true →
    P (Ok (record { operation = i.operand.operation; form = form; trial = trial; widened = i.widened; argument = Number v.unsigned.number })))
    (six :
    eqb i.operand.mode mode_direct ≡ true → eqb i.form direct ≡ true → reaches page v.unsigned.number ≡ true → forced_wide i v page ≡ true →
    P (Err BadWidth))
    (seven :
    eqb i.operand.mode mode_direct ≡ true → eqb i.form direct ≡ true → reaches page v.unsigned.number ≡ false → i.trial ≡ false →
    P (Err DirectNotAllowed)) where
  pub address_choice : P (address_of i v page)
  unfolding address_of directly_of stays_direct leaves_direct anew_of anew_as
  address_choice =
      by_test P (eqb i.operand.mode mode_direct)
      (λ m. by_pick P (becomes_direct i.operand v page) (some direct i.trial refl)
      (by_test P (eqb i.form direct)
      (λ f. by_test P (reaches page v.unsigned.number)
      (λ b. by_test P (forced_wide i v page) (six m f b) (λ _. some direct i.trial refl))
      (λ b. by_test P i.trial (λ _. some extended false refl) (seven m f b)))
      (λ _. some extended i.trial refl)))
      (λ _. some _ _ (by_pick (λ (f : ℕ). is_memory f ≡ true) (becomes_direct i.operand v page) refl refl))
