-- Every byte of a fresh build is below 256, whatever numbers its record holds: codes are the sheet's, postbytes leave room for their bits, and a number
-- that is not below 65536 was refused.
-- Assumes nothing.
use mathlib.Core.Path.{◌≡◌, refl, subst}
use mathlib.Core.Bool.{true, false, ◌||◌}
use mathlib.Core.Logic.{◌⊎◌, ⊎_elim}
use mathlib.Core.List.{List, [], ◌∷◌}
use Prim.Native.Nat.{ℕ, zero, suc, ◌<◌}
use native.Mathlib.Omega.{arith}
use lib.Dec.{eqb, ltb}
use lib.ListN.{take, get_or}
use borrow.Author.Tests.{eqb-true, eqb-false, ltb-false}
use Rattle.std.specs.Prelude.{Result, Ok, Err, IfOk}
use Rattle.std.proofs.lemmas.Result.{IfOk-at_ok}
use Rattle.ground.specs.declared.refusals.Refusal.{Refusal}
use Rattle.ground.specs.Words.{plus, minus, high, low}
use Rattle.ground.proofs.Choices.{by_test, by_pick}
use Rattle.ground.proofs.Tests.{neither_left}
use Rattle.values.specs.declared.pages.Page.{Page}
use Rattle.rows.specs.declared.Code.{Code}
use Rattle.rows.specs.Forms.{inherent, immediate, direct, indexed, extended, relative}
use Rattle.rows.specs.Lookup.{coded, code_of}
use Rattle.rows.specs.Sizes.{number_size_of}
use Rattle.rows.proofs.Laws.{pages, code_small}
use Rattle.postbytes.specs.declared.Encoded.{Encoded}
use Rattle.postbytes.specs.Writing.{encode_of}
use Rattle.postbytes.proofs.Bytes as postbytes
use Rattle.postbytes.proofs.Bytes.{address_in, bytes_fit, relative_bytes_fit, push_byte_fits, pair_byte_fits}
use Rattle.records.specs.Fine.{Bytes}
use Rattle.instruction.specs.declared.Operand.{Operand}
use Rattle.instruction.specs.declared.Values.{Values}
use Rattle.instruction.specs.declared.Record.{Record}
use Rattle.instruction.specs.declared.Instruction.{Instruction}
use Rattle.instruction.specs.declared.Chosen.{Chosen}
use Rattle.instruction.specs.declared.Laid.{Laid}
use Rattle.instruction.specs.declared.Built.{Built}
use Rattle.instruction.specs.declared.Argument.{Argument}
use Rattle.instruction.specs.declared.Argument.TheVariants.{Nothing, Number, Target, Indexed, Relative, Registers}
use Rattle.instruction.specs.Names.{mode_register, mode_offset, mode_pc_relative, mode_inc_dec, mode_extended}
use Rattle.instruction.specs.Forms.{strays, needs_value}
use Rattle.instruction.specs.Choosing.{inherent_of, immediate_of, leaves_direct, stays_direct, directly_of, anew_as, anew_of, address_of, long_branch, branch_of, accumulator_index, offset_index, target_index, step_index, address_index, index_of, is_pair, own_stack, listed_of, list_settled, registers_of, choose_of}
use Rattle.instruction.specs.Bytes.{nothing, number_bytes, operand_bytes, code_size, behind_code, laid_at, laid_of}
use Rattle.instruction.specs.Building.{accepted_of, fresh_of, bytes_in, instruction_of, tried_of, bytes_told}
use Rattle.instruction.proofs.Fits.{unwraps, ArgumentFits, Fits, Early, unsigned_word, Builds, build_chosen}
use Rattle.instruction.specs.Forms.{form_of}
use Rattle.instruction.proofs.Results.{of_ok}
use Rattle.instruction.proofs.Ready.{fresh_tried}

-- ---- the address of an extended indirect operand
abbrev Addressed : Argument → Type 0
Addressed Nothing = Unit
Addressed (Number n) = Unit
Addressed (Target t) = Unit
Addressed (Indexed index) = address_in index < 65536
Addressed (Relative t ind) = Unit
Addressed (Registers b) = Unit

module _ (i : Instruction) (v : Values) (early : Early i v) where
  abbrev Small : Result Chosen Refusal → Type 0
  Small c = IfOk c (λ k. Addressed k.argument)

  -- what has a postbyte and is none of the other modes is of mode Extended, which has its value
  extended_word : eqb i.form indexed ≡ true → (i.operand.mode ≡ 0 → ⊥) → (i.operand.mode ≡ 1 → ⊥) → (i.operand.mode ≡ 2 → ⊥) → (i.operand.mode ≡ 3 → ⊥) → v.unsigned.number < 65536
  unfolding strays needs_value
  extended_word q a b c d =
      let f : i.form ≡ indexed = eqb-true i.form indexed q in
      let s : strays i.operand.mode indexed ≡ false = subst (λ (n : ℕ). strays i.operand.mode n ≡ false) f early.fits in
      let m = ltb-false mode_extended i.operand.mode (neither_left (ltb mode_extended i.operand.mode) false s) in
      let four : i.operand.mode ≡ mode_extended = omega arith in
      unsigned_word v early.right (early.present (rw four))

  index_small : eqb i.form indexed ≡ true → Small (index_of i v)
  unfolding index_of accumulator_index offset_index target_index step_index address_index
  index_small q =
      let o = i.operand in
      by_test Small (eqb o.mode mode_register) (λ _. by_pick Small _ tt (omega arith))
      (λ a. by_test Small (eqb o.mode mode_offset)
      (λ _. by_pick Small _ tt (by_pick Small _ (omega arith) (by_pick Small _ tt (omega arith))))
      (λ b. by_test Small (eqb o.mode mode_pc_relative) (λ _. by_pick Small _ tt tt)
      (λ c. by_test Small (eqb o.mode mode_inc_dec) (λ _. by_pick Small _ tt (by_pick Small _ tt (omega arith)))
      (λ d. extended_word q (eqb-false o.mode 0 a) (eqb-false o.mode 1 b) (eqb-false o.mode 2 c) (eqb-false o.mode 3 d)))))

  list_small : (l : Result ℕ Refusal) → Small (list_settled i l)
  list_small (Ok byte) = tt
  list_small (Err n) = tt

  choose_small : (page : Page) (address : ℕ) → Small (choose_of i v page address)
  unfolding choose_of inherent_of immediate_of address_of directly_of stays_direct leaves_direct anew_of anew_as branch_of long_branch registers_of
  choose_small page address =
      by_pick Small (eqb i.form inherent) (by_pick Small _ tt tt)
      (by_pick Small (eqb i.form immediate) (by_pick Small _ tt tt)
      (by_pick Small (eqb i.form direct || eqb i.form extended)
      (by_pick Small _ (by_pick Small _ tt (by_pick Small _ (by_pick Small _ (by_pick Small _ tt tt) (by_pick Small _ tt tt)) tt)) tt)
      (by_test Small (eqb i.form indexed) index_small
      (λ _. by_pick Small (eqb i.form relative)
      (by_pick Small _ tt (by_pick Small _ tt (by_pick Small _ tt (by_pick Small _ tt tt))))
      (list_small (listed_of i.operand))))))

-- ---- the operand's bytes
up_to_three : (a b c : ℕ) → a < 256 → b < 256 → c < 256 → (k : ℕ) → get_or (a ∷ b ∷ c ∷ []) k 0 < 256
up_to_three a b c ha hb hc zero = ha
up_to_three a b c ha hb hc (suc zero) = hb
up_to_three a b c ha hb hc (suc (suc zero)) = hc
up_to_three a b c ha hb hc (suc (suc (suc k))) = omega arith

number_bytes_lem : (size n : ℕ) → n < 65536 → postbytes.Bytes (number_bytes size n)
unfolding number_bytes
number_bytes_lem size n h =
    by_pick postbytes.Bytes (eqb size 1) (up_to_three (low n) 0 0 (omega arith) (omega arith) (omega arith))
    (by_pick postbytes.Bytes (eqb size 2) (up_to_three (high n) (low n) 0 (omega arith) (omega arith) (omega arith))
    (up_to_three 0 0 0 (omega arith) (omega arith) (omega arith)))

listed_byte : (o : Operand) → IfOk (listed_of o) (λ b. b < 256)
unfolding listed_of
listed_byte o =
    by_pick (λ (l : Result ℕ Refusal). IfOk l (λ b. b < 256)) (is_pair o.operation) (pair_byte_fits o.registers o.count)
    (push_byte_fits (own_stack o.operation) o.registers o.count)

operand_bytes_lem : (operand : Operand) (page : Page) (address o form after : ℕ) (a : Argument) → ArgumentFits operand page address o form a → Addressed a → postbytes.Bytes (operand_bytes o form a after)
unfolding operand_bytes
operand_bytes_lem operand page address o form after Nothing f s = number_bytes_lem 0 0 (omega arith)
operand_bytes_lem operand page address o form after (Number n) f s = number_bytes_lem (number_size_of o form) n f.word
operand_bytes_lem operand page address o form after (Target t) f s = number_bytes_lem (number_size_of o form) (minus t (plus after (number_size_of o form))) (omega arith)
operand_bytes_lem operand page address o form after (Indexed index) f s =
    IfOk-at_ok postbytes.Bytes (unwraps (encode_of index) nothing f.accepted) (bytes_fit index s)
operand_bytes_lem operand page address o form after (Relative t ind) f s = relative_bytes_fit t after ind
operand_bytes_lem operand page address o form after (Registers b) f s =
    let h = of_ok (λ (n : ℕ). n < 256) (listed_byte operand) f.byte in
    up_to_three b 0 0 (omega arith) (omega arith) (omega arith)

-- ---- the instruction's
pub bytes_take : (n : ℕ) (l : List ℕ) → Bytes l → Bytes (take n l)
bytes_take zero l b = tt
bytes_take (suc n) [] b = tt
bytes_take (suc n) (x ∷ l) b = (b.0, bytes_take n l b.1)

behind_bytes : (page code : ℕ) (e : Encoded) → page < 256 → code < 256 → postbytes.Bytes e → Bytes (behind_code page code e).bytes
unfolding behind_code
behind_bytes page code e p k b =
    by_pick (λ (l : Laid). Bytes l.bytes) (eqb page 0)
    (k, (b 0, (b 1, (b 2, (omega arith, tt)))))
    (p, (k, (b 0, (b 1, (b 2, tt)))))

page_small : (o form p c : ℕ) → code_of o form ≡ coded p c → p < 256
page_small o form p c e =
    ⊎_elim (λ (q : p ≡ 0x00). omega arith) (λ (w : (p ≡ 0x10) ⊎ (p ≡ 0x11)). ⊎_elim (λ (q : p ≡ 0x10). omega arith) (λ (q : p ≡ 0x11). omega arith) w)
    (pages o form p c e)

laid_bytes : (operand : Operand) (under : Page) (address : ℕ) (c : Chosen) → Fits operand under address c → Addressed c.argument → Bytes (laid_of c address).bytes
unfolding laid_of laid_at
laid_bytes operand under address c f s = from (code_of c.operation c.form) refl
  where
    from : (k : Result Code Refusal) → code_of c.operation c.form ≡ k → Bytes (laid_at k c address).bytes
    from (Ok k) e =
        behind_bytes k.page k.code (operand_bytes c.operation c.form c.argument (plus address (code_size k.page)))
        (page_small c.operation c.form k.page k.code e) (code_small c.operation c.form k.page k.code e)
        (operand_bytes_lem operand under address c.operation c.form (plus address (code_size k.page)) c.argument f.argument s)
    from (Err r) e = (omega arith, (omega arith, (omega arith, (omega arith, (omega arith, tt)))))

abbrev AllBytes : Built → Type 0
AllBytes b = Bytes (bytes_in b)

build_bytes : (i : Instruction) (v : Values) (page : Page) (address : ℕ) → IfOk (tried_of i v page address) AllBytes
unfolding accepted_of
build_bytes i v page address = go (tried_of i v page address) (build_chosen i v page address)
  where
    go : (t : Result Built Refusal) → IfOk t (Builds i v page address) → IfOk t AllBytes
    go (Ok b) k =
        rw k.built
        (bytes_take (laid_of k.choice address).length (laid_of k.choice address).bytes
        (laid_bytes i.operand page address k.choice k.fits (of_ok (λ (c : Chosen). Addressed c.argument) (choose_small i v k.early page address) k.chosen)))
    go (Err n) k = tt

fresh_all : (r : Record) (address : ℕ) → IfOk (fresh_of r address) AllBytes
fresh_all r address = rw (fresh_tried r address) (build_bytes (instruction_of r.operand (form_of r.operand r.values r.page)) r.values r.page address)

-- beside a refusal there is none
pub fresh_bytes : (r : Record) (address : ℕ) → Bytes (bytes_told (fresh_of r address))
fresh_bytes r address = go (fresh_of r address) (fresh_all r address)
  where
    go : (t : Result Built Refusal) → IfOk t AllBytes → Bytes (bytes_told t)
    go (Ok b) h = h
    go (Err n) h = tt
