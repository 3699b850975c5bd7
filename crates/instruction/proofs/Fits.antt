-- What a build settles on fits: the row has the form, its number fits the bytes that follow, an indexed operand and a list of registers are not refused,
-- and a short branch is near. Each of these is a test that the choice made, or what 1, 2 and 3 left.
-- Assumes nothing.
use mathlib.Core.Path.{◌≡◌, refl, sym, subst, ◌∙◌}
use mathlib.Core.Bool.{Bool, true, false, false≢true, not, ◌&&◌, ◌||◌}
use mathlib.Core.Logic.{◌⊎◌, inl, inr}
use Prim.Native.Nat.{ℕ, ◌^◌, ◌<◌, ◌≤◌}
use native.Mathlib.Omega.{arith}
use lib.Dec.{eqb, ltb, leb}
use borrow.Author.Tests.{eqb-true, eqb-false, eq-eqb, ltb-true, ltb-false, lt-leb, leb-true, le-ltb, leb-false, not-false}
use Rattle.std.specs.Prelude.{Result, Ok, Err, IsOk, IfOk, ⊤}
use Rattle.std.specs.Result.{result_unwrap_or}
use Rattle.ground.specs.Choice.{pick}
use Rattle.ground.specs.declared.refusals.Refusal.{Refusal}
use Rattle.ground.specs.Words.{plus, minus}
use Rattle.ground.proofs.Choices.{by_test, by_pick}
use Rattle.ground.proofs.Tests.{both_first, both_second, neither_left, neither_right}
use Rattle.values.specs.declared.Value.{Value}
use Rattle.values.specs.Widths.{bits_of, valid_of}
use Rattle.values.proofs.Laws.{valid_fits}
use Rattle.values.specs.declared.pages.Page.{Page}
use Rattle.values.specs.Pages.{reaches}
use Rattle.rows.specs.Forms.{inherent, immediate, direct, indexed, extended, relative, register}
use Rattle.rows.specs.Lookup.{merged_of, has_form_of, known_of}
use Rattle.rows.specs.Sizes.{number_size_of, long_of}
use Rattle.rows.proofs.Lengths.{number_has_form, long_of_short, long_of_other}
use Rattle.postbytes.specs.declared.Index.{Index}
use Rattle.postbytes.specs.declared.Index.TheVariants.{Offset, Counter, Accumulator, Step, Address}
use Rattle.postbytes.specs.Registers.{PC, not_indexing, not_accumulator}
use Rattle.postbytes.specs.Lists.{strange_list}
use Rattle.postbytes.specs.Writing.{offset_of, counter_of, accumulator_of, step_of, encode_of, near_of}
use Rattle.postbytes.proofs.Tests.{indexing}
use Rattle.instruction.specs.declared.Operand.{Operand}
use Rattle.instruction.specs.declared.Values.{Values}
use Rattle.instruction.specs.declared.Instruction.{Instruction}
use Rattle.instruction.specs.declared.Chosen.{Chosen}
use Rattle.instruction.specs.declared.Built.{Built}
use Rattle.instruction.specs.declared.Argument.{Argument}
use Rattle.instruction.specs.declared.Argument.TheVariants.{Nothing, Number, Target, Indexed, Relative, Registers}
use Rattle.instruction.specs.Names.{mode_register, mode_offset, mode_pc_relative, mode_inc_dec, mode_extended, mode_direct, mode_immediate}
use Rattle.instruction.specs.Records.{stepped, recognised, agreeing, lawful, sound}
use Rattle.instruction.specs.Forms.{becomes_direct, strays, lacks, needs_value}
use Rattle.instruction.specs.Choosing.{settled, inherent_of, immediate_of, forced_wide, leaves_direct, stays_direct, directly_of, anew_as, anew_of, address_of, long_branch, branch_of, register_at, offset_value, accumulator_index, offset_index, target_index, step_index, address_index, index_of, listed_of, registers_of, choose_of, list_settled}
use Rattle.instruction.specs.Building.{early_of, accepted_of, finished_of, after, tried_of}
use Rattle.instruction.proofs.Tests.{not_second, implied, or_left, or_right}
use Rattle.instruction.proofs.Choice.{last_form}
use Rattle.instruction.proofs.Rows.{direct_extended, branch_size, operation_small, long_merged}

-- ---- what fits
-- a number of an immediate or an address: it has 16 bits; an immediate of one byte has 8, and a direct address lies on the page
pub record NumberFits (page : Page) (o form n : ℕ) : Type 0 where
  pub formed : (form ≡ immediate) ⊎ ((form ≡ direct) ⊎ (form ≡ extended))
  pub word : n < 65536
  pub byte : form ≡ immediate → number_size_of o form ≡ 1 → n < 256
  pub paged : form ≡ direct → reaches page n ≡ true

-- a branch's target: a short branch, of two bytes, has it near
pub record TargetFits (o form address t : ℕ) : Type 0 where
  pub formed : form ≡ relative
  pub word : t < 65536
  pub near : number_size_of o form ≡ 1 → near_of (minus t (plus address 2)) ≡ true

pub record IndexFits (form : ℕ) (index : Index) : Type 0 where
  pub formed : form ≡ indexed
  pub accepted : IsOk (encode_of index)

pub record RelativeFits (form t : ℕ) : Type 0 where
  pub formed : form ≡ indexed
  pub word : t < 65536

-- a list of registers: the byte of the operand's own, which is not refused
pub record ListFits (operand : Operand) (form b : ℕ) : Type 0 where
  pub formed : form ≡ register
  pub byte : listed_of operand ≡ Ok b

abbrev pub ArgumentFits : Operand → Page → ℕ → ℕ → ℕ → Argument → Type 0
ArgumentFits operand page address o form Nothing = form ≡ inherent
ArgumentFits operand page address o form (Number n) = NumberFits page o form n
ArgumentFits operand page address o form (Target t) = TargetFits o form address t
ArgumentFits operand page address o form (Indexed index) = IndexFits form index
ArgumentFits operand page address o form (Relative t ind) = RelativeFits form t
ArgumentFits operand page address o form (Registers b) = ListFits operand form b

-- the operation whose bytes are emitted: the operand's own, or the long branch of a short one
pub record Widens (o : ℕ) (c : Chosen) : Type 0 where
  pub short : number_size_of o relative ≡ 1
  pub long : c.operation ≡ long_of o
  pub formed : c.form ≡ relative

pub record Fits (operand : Operand) (page : Page) (address : ℕ) (c : Chosen) : Type 0 where
  pub row : has_form_of c.operation c.form ≡ true
  pub argument : ArgumentFits operand page address c.operation c.form c.argument
  pub operation : (c.operation ≡ operand.operation) ⊎ Widens operand.operation c
  -- as the instruction that is handed back says it
  pub named : merged_of c.operation ≡ pick (eqb c.form relative && c.widened) (long_of operand.operation) (merged_of operand.operation)

-- ---- what 1, 2 and 3 leave
pub record Early (i : Instruction) (v : Values) : Type 0 where
  pub known : recognised i.operand ≡ true
  pub small : i.form < 7
  pub right : lawful v ≡ true
  pub has : has_form_of i.operand.operation i.form ≡ true
  pub fits : strays i.operand.mode i.form ≡ false
  pub present : needs_value i.operand.mode i.form ≡ true → v.given ≡ true

pub early_leaves : (i : Instruction) (v : Values) → IfOk (early_of i v) (λ _. Early i v)
unfolding early_of sound lacks
early_leaves i v =
    let P : Result ⊤ Refusal → Type 0 = λ n. IfOk n (λ _. Early i v) in
    let o = i.operand in
    let a = recognised o in
    let b = ltb i.form 7 in
    let l = not (has_form_of o.operation i.form) in
    by_test P (a && (b && lawful v))
    (λ s. by_test P (l || strays o.mode i.form) (λ _. tt)
    (λ t. by_test P (needs_value o.mode i.form && not v.given) (λ _. tt)
    (λ u. record {
      known = both_first a (b && lawful v) s;
      small = ltb-true i.form 7 (both_first b (lawful v) (both_second a (b && lawful v) s));
      right = both_second b (lawful v) (both_second a (b && lawful v) s);
      has = not-false (has_form_of o.operation i.form) (neither_left l (strays o.mode i.form) t);
      fits = neither_right l (strays o.mode i.form) t;
      present = λ n. not-false v.given (not_second (needs_value o.mode i.form) (not v.given) u n);
    })))
    (λ _. tt)

-- ---- values
-- a valid value has 16 bits
valid_word : (x : Value) → valid_of x ≡ true → x.number < 65536
unfolding bits_of
valid_word x e =
    by_pick (λ (k : ℕ). x.number < 2 ^ k → x.number < 65536) (eqb x.width 8) (λ h. omega arith) (λ h. omega arith)
    (valid_fits x e)

lawful_given : (v : Values) → lawful v ≡ true → v.given ≡ true → (valid_of v.unsigned ≡ true) × (valid_of v.signed ≡ true)
unfolding lawful
lawful_given v e g =
    let u = valid_of v.unsigned in
    let s = valid_of v.signed in
    let b = implied v.given (u && (s && agreeing v)) e g in
    (both_first u (s && agreeing v) b, both_first s (agreeing v) (both_second u (s && agreeing v) b))

pub unsigned_word : (v : Values) → lawful v ≡ true → v.given ≡ true → v.unsigned.number < 65536
unsigned_word v e g = valid_word v.unsigned (lawful_given v e g).0

-- the width rule gives a valid value
pub offset_valid : (v : Values) → lawful v ≡ true → valid_of (offset_value v) ≡ true
unfolding offset_value valid_of bits_of pick
offset_valid v e =
    by_test (λ (x : Value). valid_of x ≡ true) v.given (λ g. (lawful_given v e g).1) (λ _. refl)

-- what becomes Direct lies on the page
direct_paged : (o : Operand) (v : Values) (page : Page) → becomes_direct o v page ≡ true → reaches page v.unsigned.number ≡ true
unfolding becomes_direct
direct_paged o v page e =
    let on = reaches page v.unsigned.number in
    both_second (not o.forced) on (both_second v.given (not o.forced && on) e)

-- ---- postbytes that are not refused
-- what is not refused is its value
pub unwraps : {A E : Type 0} (r : Result A E) (other : A) → IsOk r → r ≡ Ok (result_unwrap_or r other)
unwraps (Ok x) other e = refl
unwraps (Err n) other e = absurd (false≢true e)

-- X, Y, U and S are known registers
pub known_index : (r : ℕ) → not_indexing r ≡ false → leb 10 r ≡ false
known_index r h = let b = indexing r h in lt-leb 10 r (omega arith)

offset_accepted : (r : ℕ) (ind : Bool) (x : Value) → not_indexing r ≡ false → valid_of x ≡ true → IsOk (offset_of r ind x)
unfolding offset_of pick
offset_accepted r ind x h w = rw (known_index r h, w, h)

counter_accepted : (ind : Bool) (x : Value) → valid_of x ≡ true → IsOk (counter_of ind x)
unfolding counter_of pick
counter_accepted ind x w = rw w

accumulator_accepted : (r : ℕ) (ind : Bool) (a : ℕ) → not_indexing r ≡ false → not_accumulator a ≡ false → IsOk (accumulator_of r ind a)
unfolding accumulator_of pick
accumulator_accepted r ind a h k =
    let b = leb-false 3 a k in
    rw (known_index r h, lt-leb 10 a (omega arith), h, k)

step_accepted :
    (r : ℕ) (ind : Bool) (k : ℕ) →
    (1 ≤ k) × (k ≤ 4) →
    (ind && (eqb k 1 || eqb k 3)) ≡ false →
    not_indexing r ≡ false →
    IsOk (step_of r ind k)
unfolding step_of pick
step_accepted r ind k b s h = rw (known_index r h, le-ltb k 1 b.0, le-ltb 4 k b.1, s, h)

-- the two halves of what needs a value
abbrev is_valued : ℕ → Bool
is_valued mode = eqb mode mode_pc_relative || (leb mode_extended mode && leb mode mode_immediate)

abbrev is_number : ℕ → Bool
is_number form = eqb form immediate || (eqb form direct || (eqb form extended || eqb form relative))

-- ---- each form's choice
module _ (i : Instruction) (v : Values) (page : Page) (address : ℕ) (early : Early i v) where
  abbrev Chooses : Chosen → Type 0
  Chooses c = Fits i.operand page address c

  abbrev Choice : Result Chosen Refusal → Type 0
  Choice c = IfOk c Chooses

  -- the form as a number
  has_as : (form : ℕ) → eqb i.form form ≡ true → has_form_of i.operand.operation form ≡ true
  has_as form q = subst (λ (f : ℕ). has_form_of i.operand.operation f ≡ true) (eqb-true i.form form q) early.has

  -- a number form has its value, and so have the modes that need one
  number_given : (form : ℕ) → eqb i.form form ≡ true → is_number form ≡ true → v.unsigned.number < 65536
  unfolding needs_value
  number_given form q h =
      unsigned_word v early.right
      (early.present
      (or_right (is_valued i.operand.mode) (is_number i.form) (subst (λ (f : ℕ). is_number f ≡ true) (sym (eqb-true i.form form q)) h)))

  mode_given : (mode : ℕ) → eqb i.operand.mode mode ≡ true → is_valued mode ≡ true → v.unsigned.number < 65536
  unfolding needs_value
  mode_given mode q h =
      unsigned_word v early.right
      (early.present
      (or_left (is_valued i.operand.mode) (is_number i.form) (subst (λ (m : ℕ). is_valued m ≡ true) (sym (eqb-true i.operand.mode mode q)) h)))

  inherent_fits : eqb i.form inherent ≡ true → Choice (inherent_of i v)
  unfolding inherent_of pick
  inherent_fits q =
      by_pick Choice v.given tt
      (record { row = has_as inherent q; argument = refl; operation = inl refl; named = refl })

  immediate_fits : eqb i.form immediate ≡ true → Choice (immediate_of i v)
  unfolding immediate_of pick
  immediate_fits q =
      let o = i.operand.operation in
      let n = v.unsigned.number in
      by_test Choice (eqb (number_size_of o immediate) 1 && ltb 255 n) (λ _. tt)
      (λ t. record {
        row = has_as immediate q;
        argument = record {
          formed = inl refl;
          word = number_given immediate q refl;
          byte = λ _ s. let b = ltb-false 255 n (not_second (eqb (number_size_of o immediate) 1) (ltb 255 n) t (eq-eqb (number_size_of o immediate) 1 s)) in omega arith;
          paged = λ f. absurd (omega arith);
        };
        operation = inl refl;
        named = refl;
      })

  module _ (q : (eqb i.form direct || eqb i.form extended) ≡ true) where
    address_has : (has_form_of i.operand.operation direct ≡ true) × (has_form_of i.operand.operation extended ≡ true)
    address_has = from (eqb i.form direct) refl
      where
        from : (t : Bool) → eqb i.form direct ≡ t → (has_form_of i.operand.operation direct ≡ true) × (has_form_of i.operand.operation extended ≡ true)
        from true p = (has_as direct p, sym (direct_extended i.operand.operation) ∙ has_as direct p)
        from false p =
            let e : has_form_of i.operand.operation extended ≡ true = has_as extended (rw p at q) in
            (direct_extended i.operand.operation ∙ e, e)

    address_word : v.unsigned.number < 65536
    address_word = from (eqb i.form direct) refl
      where
        from : (t : Bool) → eqb i.form direct ≡ t → v.unsigned.number < 65536
        from true p = number_given direct p refl
        from false p = number_given extended (rw p at q) refl

    direct_fits : reaches page v.unsigned.number ≡ true → Chooses (settled i direct (Number v.unsigned.number))
    unfolding pick
    direct_fits h = record {
      row = address_has.0;
      argument = record { formed = inr (inl refl); word = address_word; byte = λ f. absurd (omega arith); paged = λ _. h };
      operation = inl refl;
      named = refl;
    }

    extended_fits : (trial : Bool) → Chooses (record { operation = i.operand.operation; form = extended; trial = trial; widened = i.widened; argument = Number v.unsigned.number })
    unfolding pick
    extended_fits trial = record {
      row = address_has.1;
      argument = record {
        formed = inr (inr refl);
        word = address_word;
        byte = λ f. absurd (omega arith);
        paged = λ f. absurd (omega arith);
      };
      operation = inl refl;
      named = refl;
    }

    directly_fits : Choice (directly_of i v page)
    unfolding directly_of stays_direct leaves_direct
    directly_fits =
        let n = v.unsigned.number in
        by_test Choice (becomes_direct i.operand v page) (λ t. direct_fits (direct_paged i.operand v page t))
        (λ _. by_pick Choice (eqb i.form direct)
        (by_test Choice (reaches page n)
        (λ t. by_pick Choice (forced_wide i v page) tt (direct_fits t))
        (λ _. by_pick Choice i.trial (extended_fits false) tt))
        (extended_fits i.trial))

    -- what fits does not hang on the mark
    anew_fits : Chooses (anew_of i v page)
    unfolding anew_of anew_as pick
    anew_fits = go (becomes_direct i.operand v page) refl
      where
        go : (t : Bool) → becomes_direct i.operand v page ≡ t → Chooses (anew_as i v (pick t direct extended))
        go true t = let f = direct_fits (direct_paged i.operand v page t) in record { row = f.row; argument = f.argument; operation = inl refl; named = refl }
        go false t = let f = extended_fits i.trial in record { row = f.row; argument = f.argument; operation = inl refl; named = refl }

    address_fits : Choice (address_of i v page)
    unfolding address_of
    address_fits = by_pick Choice (eqb i.operand.mode mode_direct) directly_fits anew_fits

  module _ (q : eqb i.form relative ≡ true) where
    target_word : v.unsigned.number < 65536
    target_word = number_given relative q refl

    long_fits : (number_size_of i.operand.operation relative ≡ 1) → Chooses (long_branch i v)
    unfolding long_branch pick
    long_fits s =
        let o = i.operand.operation in
        let h = operation_small o relative (has_as relative q) in
        let l = long_of_short o h s in
        record {
          row = number_has_form (long_of o) relative (omega arith);
          argument = record { formed = refl; word = target_word; near = λ t. absurd (omega arith) };
          operation = inr (record { short = s; long = refl; formed = refl });
          named = long_merged o (has_as relative q);
        }

    branch_fits : Choice (branch_of i v address)
    unfolding branch_of pick
    branch_fits =
        let o = i.operand.operation in
        let t = v.unsigned.number in
        let h = has_as relative q in
        by_test Choice (eqb (number_size_of o relative) 2)
        (λ two. record {
          row = h;
          argument = record { formed = refl; word = target_word; near = λ s. absurd (omega (arith, s, eqb-true (number_size_of o relative) 2 two)) };
          operation = inl refl;
          named =
              by_pick (λ (m : ℕ). merged_of o ≡ m) i.widened
              (sym (long_of_other o (operation_small o relative h) (λ s. omega (arith, s, eqb-true (number_size_of o relative) 2 two)))) refl;
        })
        (λ two. let s = branch_size o h (eqb-false (number_size_of o relative) 2 two) in
        by_test Choice i.widened (λ _. long_fits s)
        (λ w. by_test Choice (near_of (minus t (plus address 2)))
        (λ n. record {
          row = h;
          argument = record { formed = refl; word = target_word; near = λ _. n };
          operation = inl refl;
          named = rw w;
        })
        (λ _. by_pick Choice i.operand.widening (long_fits s) tt)))

  module _ (q : eqb i.form indexed ≡ true) where
    index_is : (index : Index) → IsOk (encode_of index) → Chooses (settled i indexed (Indexed index))
    unfolding pick
    index_is index a = record {
      row = has_as indexed q;
      argument = record { formed = refl; accepted = a };
      operation = inl refl;
      named = refl;
    }

    accumulator_fits : Choice (accumulator_index i)
    unfolding accumulator_index
    accumulator_fits =
        let a = register_at i.operand 0 in
        let r = register_at i.operand 1 in
        by_test Choice (not (eqb i.operand.count 2) || (not_accumulator a || not_indexing r)) (λ _. tt)
        (λ t. let u = neither_right (not (eqb i.operand.count 2)) (not_accumulator a || not_indexing r) t in
        index_is (Accumulator r i.operand.indirect a)
        (accumulator_accepted r i.operand.indirect a (neither_right (not_accumulator a) (not_indexing r) u) (neither_left (not_accumulator a) (not_indexing r) u)))

    offset_fits : Choice (offset_index i v)
    unfolding offset_index
    offset_fits =
        let r = register_at i.operand 0 in
        let x = offset_value v in
        by_pick Choice (not (eqb i.operand.count 1)) tt
        (by_pick Choice (eqb r PC)
        (index_is (Counter i.operand.indirect x) (counter_accepted i.operand.indirect x (offset_valid v early.right)))
        (by_test Choice (not_indexing r) (λ _. tt)
        (λ h. index_is (Offset r i.operand.indirect x) (offset_accepted r i.operand.indirect x h (offset_valid v early.right)))))

    target_fits : eqb i.operand.mode mode_pc_relative ≡ true → Choice (target_index i v)
    unfolding target_index pick
    target_fits m =
        by_pick Choice (eqb i.operand.count 1 && eqb (register_at i.operand 0) PC)
        (record {
          row = has_as indexed q;
          argument = record { formed = refl; word = mode_given mode_pc_relative m refl };
          operation = inl refl;
          named = refl;
        })
        tt

    -- IncDec has a step
    stepped_in : eqb i.operand.mode mode_inc_dec ≡ true → (1 ≤ i.operand.step) × (i.operand.step ≤ 4)
    unfolding recognised stepped
    stepped_in m =
        let o = i.operand in
        let listed = not (strange_list o.registers o.count) in
        let s : stepped o ≡ true =
        both_second listed (stepped o) (both_second (ltb o.mode 8) (listed && stepped o) (both_second (known_of o.operation) (ltb o.mode 8 && (listed && stepped o)) early.known)) in
        let some = not (eqb o.mode mode_inc_dec) || ltb 0 o.step in (
          ltb-true 0 o.step (implied (eqb o.mode mode_inc_dec) (ltb 0 o.step) (both_second (leb o.step 4) some s) m),
          leb-true o.step 4 (both_first (leb o.step 4) some s),
        )

    step_fits : eqb i.operand.mode mode_inc_dec ≡ true → Choice (step_index i)
    unfolding step_index
    step_fits m =
        let r = register_at i.operand 0 in
        let k = i.operand.step in
        by_test Choice (i.operand.indirect && (eqb k 1 || eqb k 3)) (λ _. tt)
        (λ s. by_test Choice (not (eqb i.operand.count 1) || not_indexing r) (λ _. tt)
        (λ t. index_is (Step r i.operand.indirect k)
        (step_accepted r i.operand.indirect k (stepped_in m) s (neither_right (not (eqb i.operand.count 1)) (not_indexing r) t))))

    index_fits : Choice (index_of i v)
    unfolding index_of address_index
    index_fits =
        by_pick Choice (eqb i.operand.mode mode_register) accumulator_fits
        (by_pick Choice (eqb i.operand.mode mode_offset) offset_fits
        (by_test Choice (eqb i.operand.mode mode_pc_relative) target_fits
        (λ _. by_test Choice (eqb i.operand.mode mode_inc_dec) step_fits
        (λ _. index_is (Address v.unsigned.number) refl))))

  registers_fits : eqb i.form register ≡ true → Choice (registers_of i)
  unfolding registers_of pick
  registers_fits q = go (listed_of i.operand) refl
    where
      go : (l : Result ℕ Refusal) → listed_of i.operand ≡ l → Choice (list_settled i l)
      go (Ok byte) e = record {
        row = has_as register q;
        argument = record { formed = refl; byte = e };
        operation = inl refl;
        named = refl;
      }
      go (Err n) e = tt

-- what is chosen, after 1, 2 and 3, fits
pub choose_fits :
    (i : Instruction) (v : Values) (page : Page) (address : ℕ) →
    Early i v →
    IfOk (choose_of i v page address) (Fits i.operand page address)
unfolding choose_of
choose_fits i v page address e =
    let f = i.form in
    let P : Result Chosen Refusal → Type 0 = λ c. IfOk c (Fits i.operand page address) in
    by_test P (eqb f inherent) (inherent_fits i v page address e)
    (λ a. by_test P (eqb f immediate) (immediate_fits i v page address e)
    (λ b. by_test P (eqb f direct || eqb f extended) (address_fits i v page address e)
    (λ c. by_test P (eqb f indexed) (index_fits i v page address e)
    (λ d. by_test P (eqb f relative) (branch_fits i v page address e)
    (λ g. registers_fits i v page address e
    (last_form f e.small a b (neither_left (eqb f direct) (eqb f extended) c) (neither_right (eqb f direct) (eqb f extended) c) d g))))))

-- an accepted build is what was chosen, laid down
pub record Builds (i : Instruction) (v : Values) (page : Page) (address : ℕ) (b : Built) : Type 0 where
  pub choice : Chosen
  pub early : Early i v
  pub chosen : choose_of i v page address ≡ Ok choice
  pub fits : Fits i.operand page address choice
  pub built : b ≡ accepted_of i choice address

pub build_chosen :
    (i : Instruction) (v : Values) (page : Page) (address : ℕ) →
    IfOk (tried_of i v page address) (Builds i v page address)
unfolding tried_of
build_chosen i v page address = go (early_of i v) (early_leaves i v) (choose_of i v page address) refl (choose_fits i v page address)
  where
    go :
        (n : Result ⊤ Refusal) → IfOk n (λ _. Early i v) →
        (c : Result Chosen Refusal) → choose_of i v page address ≡ c → (Early i v → IfOk c (Fits i.operand page address)) →
        IfOk (after n (finished_of i c address)) (Builds i v page address)
    go (Ok passed) early (Ok c) e fits = record { choice = c; early = early; chosen = e; fits = fits early; built = refl }
    go (Ok passed) early (Err n) e fits = tt
    go (Err n) early c e fits = tt
