-- The row that a build hands out is read as the instruction that it handed back.
-- Assumes nothing.
use mathlib.Core.Path.{◌≡◌, refl}
use mathlib.Core.Bool.{Bool, true, false, ◌&&◌}
use mathlib.Core.List.{List, [], ◌∷◌}
use Prim.Native.Nat.{ℕ, zero, suc, ◌<◌}
use native.Mathlib.Omega.{arith}
use borrow.Author.Tests.{lt-ltb, ltb-true}
use lib.Dec.{eqb, leb, ltb}
use lib.ListN.{length, get_or}
use Rattle.std.specs.Prelude.{Result, Ok, Err, IfOk}
use Rattle.ground.specs.Choice.{pick}
use Rattle.ground.specs.declared.refusals.Refusal.{Refusal}
use Rattle.ground.proofs.Choices.{by_test, by_pick}
use Rattle.values.specs.declared.pages.Page.{Page}
use Rattle.answers.specs.Sizes.{flag_cell}
use Rattle.rows.proofs.Codes.{form_small}
use Rattle.instruction.specs.declared.Operand.{Operand}
use Rattle.instruction.specs.declared.Values.{Values}
use Rattle.instruction.specs.declared.Instruction.{Instruction}
use Rattle.instruction.specs.declared.Record.{Record}
use Rattle.instruction.specs.declared.Built.{Built}
use Rattle.instruction.specs.Records.{recognised, lawful}
use Rattle.instruction.specs.Forms.{form_of, lacks}
use Rattle.instruction.specs.Building.{instruction_of, made_as, make_of, accepted_of, tried_of, handing, build_of, fresh_from, fresh_of}
use Rattle.instruction.proofs.Ready.{lacking_none}
use Rattle.instruction.proofs.Fits.{Builds, build_chosen}
use Rattle.entries.specs.Entries.{byte_in, is_flag, flag_in, flagged_in, registers_in, fields_in, told_in, kept_flagged, kept_of, all_flagged, entry_of}
use Rattle.joltwagon.specs.Kept.{is_kept, kept_cells}

flag_back : (b : Bool) → eqb (flag_cell b) 1 ≡ b
unfolding flag_cell pick
flag_back true = refl
flag_back false = refl

flag_is : (b : Bool) → leb (flag_cell b) 1 ≡ true
unfolding flag_cell pick
flag_is true = refl
flag_is false = refl

byte_back : (row : List ℕ) (at : ℕ) → get_or row at 0 < 256 → byte_in row at ≡ get_or row at 0
unfolding byte_in pick
byte_back row at h = rw (lt-ltb _ _ h)

pub kept_row : (i : Instruction) → is_kept (kept_cells i) ≡ true
unfolding is_kept kept_cells
kept_row i = refl

kept_flags : (i : Instruction) → kept_flagged (kept_cells i) ≡ true
unfolding kept_flagged kept_cells flagged_in is_flag
kept_flags i = rw (flag_is i.operand.indirect, flag_is i.operand.forced, flag_is i.operand.widening, flag_is i.trial, flag_is i.widened)

eight_of : (l : List ℕ) → length l ≡ 8 →
    get_or l 0 0 ∷ get_or l 1 0 ∷ get_or l 2 0 ∷ get_or l 3 0 ∷ get_or l 4 0 ∷ get_or l 5 0 ∷ get_or l 6 0 ∷ get_or l 7 0 ∷ [] ≡ l
eight_of [] h = absurd (omega arith)
eight_of (a ∷ []) h = absurd (omega arith)
eight_of (a ∷ b ∷ []) h = absurd (omega arith)
eight_of (a ∷ b ∷ c ∷ []) h = absurd (omega arith)
eight_of (a ∷ b ∷ c ∷ d ∷ []) h = absurd (omega arith)
eight_of (a ∷ b ∷ c ∷ d ∷ e ∷ []) h = absurd (omega arith)
eight_of (a ∷ b ∷ c ∷ d ∷ e ∷ f ∷ []) h = absurd (omega arith)
eight_of (a ∷ b ∷ c ∷ d ∷ e ∷ f ∷ g ∷ []) h = absurd (omega arith)
eight_of (a ∷ b ∷ c ∷ d ∷ e ∷ f ∷ g ∷ k ∷ []) h = refl
eight_of (a ∷ b ∷ c ∷ d ∷ e ∷ f ∷ g ∷ k ∷ m ∷ l) h = absurd (omega arith)

-- an instruction's numbers are of 8 bits, and its registers are eight
record Small (i : Instruction) : Type 0 where
  operation : i.operand.operation < 256
  mode : i.operand.mode < 256
  step : i.operand.step < 256
  count : i.operand.count < 256
  form : i.form < 256
  eight : length i.operand.registers ≡ 8
  registers : (k : ℕ) → get_or i.operand.registers k 0 < 256

module _ (i : Instruction) (s : Small i) where
  registers_back : registers_in (kept_cells i) ≡ i.operand.registers
  unfolding registers_in kept_cells
  registers_back =
      let b : (k : ℕ) → get_or (kept_cells i) k 0 < 256 → byte_in (kept_cells i) k ≡ get_or (kept_cells i) k 0 = byte_back (kept_cells i) in
      rw (
        b 7 (s.registers 0),
        b 8 (s.registers 1),
        b 9 (s.registers 2),
        b 10 (s.registers 3),
        b 11 (s.registers 4),
        b 12 (s.registers 5),
        b 13 (s.registers 6),
        b 14 (s.registers 7),
      ) (eight_of i.operand.registers s.eight)

  fields_back : fields_in (kept_cells i) ≡ i.operand
  unfolding fields_in kept_cells flag_in
  fields_back =
      rw (
        byte_back (kept_cells i) 0 s.operation,
        byte_back (kept_cells i) 1 s.mode,
        flag_back i.operand.indirect,
        flag_back i.operand.forced,
        byte_back (kept_cells i) 4 s.step,
        flag_back i.operand.widening,
        byte_back (kept_cells i) 6 s.count,
        registers_back,
      )

  kept_back : kept_of (kept_cells i) ≡ i
  unfolding kept_of told_in pick kept_cells flag_in
  kept_back = rw (kept_flags i, fields_back, byte_back (kept_cells i) 15 s.form, flag_back i.trial, flag_back i.widened)

-- ---- so it is with every instruction that a call hands out
byte_small : (row : List ℕ) (at : ℕ) → byte_in row at < 256
unfolding byte_in
byte_small row at =
    by_test (λ (n : ℕ). n < 256) (ltb (get_or row at 0) 256) (λ t. ltb-true (get_or row at 0) 256 t) (λ _. omega arith)

registers_small : (row : List ℕ) (k : ℕ) → get_or (registers_in row) k 0 < 256
unfolding registers_in
registers_small row zero = byte_small row 7
registers_small row (suc zero) = byte_small row 8
registers_small row (suc (suc zero)) = byte_small row 9
registers_small row (suc (suc (suc zero))) = byte_small row 10
registers_small row (suc (suc (suc (suc zero)))) = byte_small row 11
registers_small row (suc (suc (suc (suc (suc zero))))) = byte_small row 12
registers_small row (suc (suc (suc (suc (suc (suc zero)))))) = byte_small row 13
registers_small row (suc (suc (suc (suc (suc (suc (suc zero))))))) = byte_small row 14
registers_small row (suc (suc (suc (suc (suc (suc (suc (suc k)))))))) = omega arith

-- whatever its row holds, known or not
told_small :
    (flags : Bool) (row : List ℕ) (form : ℕ) (trial widened : Bool) → form < 256 →
    Small (record { operand = told_in flags row; form = form; trial = trial; widened = widened })
unfolding told_in fields_in registers_in
told_small flags row form trial widened h =
    let m = byte_small row 1 in
    let s = byte_small row 4 in
    let n = byte_small row 6 in
    let r = registers_small row in
    by_pick (λ (o : Operand). Small (record { operand = o; form = form; trial = trial; widened = widened })) flags
    (record { operation = byte_small row 0; mode = m; step = s; count = n; form = h; eight = refl; registers = r })
    (record { operation = omega arith; mode = m; step = s; count = n; form = h; eight = refl; registers = r })

kept_small : (row : List ℕ) → Small (kept_of row)
unfolding kept_of
kept_small row = told_small (kept_flagged row) row (byte_in row 15) (flag_in row 16) (flag_in row 17) (byte_small row 15)

-- one that was made
formed_small : (row : List ℕ) (form : ℕ) → form < 7 → Small (instruction_of (told_in (all_flagged row) row) form)
unfolding instruction_of
formed_small row form h = told_small (all_flagged row) row form _ false (omega arith)

made_small : (row : List ℕ) → IfOk (make_of (entry_of row)) Small
unfolding make_of made_as entry_of
made_small row =
    let o = told_in (all_flagged row) row in
    let r = entry_of row in
    let form = form_of o r.values r.page in
    let P : Result Instruction Refusal → Type 0 = λ m. IfOk m Small in
    by_pick P (recognised o && lawful r.values)
    (by_test P (lacks o form) (λ _. tt) (λ t. formed_small row form (lacking_none o form t)))
    tt

-- one that was built
built_small : (i : Instruction) (v : Values) (page : Page) (address : ℕ) → Small i → IfOk (tried_of i v page address) (λ b. Small b.instruction)
unfolding accepted_of
built_small i v page address s = go (tried_of i v page address) (build_chosen i v page address)
  where
    go : (t : Result Built Refusal) → IfOk t (Builds i v page address) → IfOk t (λ b. Small b.instruction)
    go (Ok b) k =
        let h : k.choice.form < 7 = form_small k.choice.operation k.choice.form k.fits.row in
        rw k.built (record {
          operation = s.operation;
          mode = s.mode;
          step = s.step;
          count = s.count;
          form = omega arith;
          eight = s.eight;
          registers = s.registers;
        })
    go (Err n) k = tt

-- so the row of each is read as the instruction
abbrev pub Again : Instruction → Type 0
Again i = kept_of (kept_cells i) ≡ i

pub made_again : (row : List ℕ) → IfOk (make_of (entry_of row)) Again
made_again row = go (make_of (entry_of row)) (made_small row)
  where
    go : (m : Result Instruction Refusal) → IfOk m Small → IfOk m Again
    go (Ok i) s = kept_back i s
    go (Err n) s = tt

pub fresh_again : (row : List ℕ) (address : ℕ) → IfOk (fresh_of (entry_of row) address) (λ b. Again b.instruction)
unfolding fresh_of
fresh_again row address = go (make_of (entry_of row)) (made_small row)
  where
    r : Record
    r = entry_of row

    back : (t : Result Built Refusal) → IfOk t (λ b. Small b.instruction) → IfOk t (λ b. Again b.instruction)
    back (Ok b) s = kept_back b.instruction s
    back (Err n) s = tt

    go : (m : Result Instruction Refusal) → IfOk m Small → IfOk (fresh_from m r address) (λ b. Again b.instruction)
    go (Ok i) s = back (tried_of i r.values r.page address) (built_small i r.values r.page address s)
    go (Err n) s = tt

pub built_again : (row : List ℕ) (v : Values) (page : Page) (address : ℕ) → IfOk (build_of (kept_of row) v page address) (λ b. Again b.instruction)
unfolding build_of
built_again row v page address = go (tried_of (kept_of row) v page address) (built_small (kept_of row) v page address (kept_small row))
  where
    go : (t : Result Built Refusal) → IfOk t (λ b. Small b.instruction) → IfOk (handing (kept_of row) t) (λ b. Again b.instruction)
    go (Ok b) s = kept_back b.instruction s
    go (Err n) s = tt
