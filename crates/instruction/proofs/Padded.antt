-- What follows a code is at most three bytes with zeros after them, so an instruction is at most five, with zeros after them: each definition that
-- writes an operand writes one of four shapes.
-- Assumes nothing.
use mathlib.Core.Path.{◌≡◌, refl, ap, ◌∙◌}
use mathlib.Core.Bool.{Bool, not, ◌&&◌, ◌||◌}
use mathlib.Core.List.{List, [], ◌∷◌, ◌++◌}
use Prim.Native.Nat.{ℕ, ◌+◌, ◌-◌, ◌≤◌}
use native.Mathlib.Omega.{arith}
use lib.Dec.{eqb}
use lib.ListN.{length, take, drop, get_or, replicate}
use lib.Seq.{length-take-le}
use Rattle.std.specs.Prelude.{Result, Ok, Err, IfOk, ⊤}
use Rattle.ground.specs.declared.refusals.Refusal.{Refusal}
use Rattle.ground.specs.Stores.{put}
use Rattle.ground.specs.Words.{plus, minus, high, low}
use Rattle.ground.proofs.Choices.{by_pick}
use Rattle.ground.proofs.Stores.{put_front}
use Rattle.values.specs.Widths.{valid_of, sign_extended_of}
use Rattle.values.specs.declared.pages.Page.{Page}
use Rattle.ground.specs.declared.refusals.Refusal.{Refusal}
use Rattle.rows.specs.declared.Code.{Code}
use Rattle.rows.specs.Lookup.{code_of}
use Rattle.rows.specs.Sizes.{number_size_of}
use Rattle.std.specs.Prelude.{Result}
use Rattle.std.specs.Result.{result_unwrap_or}
use Rattle.ground.specs.declared.refusals.Refusal.{Refusal}
use Rattle.postbytes.specs.declared.Encoded.{Encoded}
use Rattle.postbytes.specs.declared.Index.{Index}
use Rattle.postbytes.specs.declared.Index.TheVariants.{Offset, Counter, Accumulator, Step, Address}
use Rattle.postbytes.specs.Registers.{unknown_register, unknown_step, not_indexing, not_accumulator}
use Rattle.postbytes.specs.Writing.{marked, five_bits, sized_of, constant_of, offset_of, counter_of, accumulator_of, step_of, encode_of, near_of, relative_of}
use Rattle.instruction.specs.declared.Instruction.{Instruction}
use Rattle.instruction.specs.declared.Values.{Values}
use Rattle.instruction.specs.declared.Chosen.{Chosen}
use Rattle.instruction.specs.declared.Laid.{Laid}
use Rattle.instruction.specs.declared.Built.{Built}
use Rattle.instruction.specs.declared.Argument.{Argument}
use Rattle.instruction.specs.declared.Argument.TheVariants.{Nothing, Number, Target, Indexed, Relative, Registers}
use Rattle.instruction.specs.Choosing.{choose_of}
use Rattle.instruction.specs.Bytes.{nothing, number_bytes, operand_bytes, behind_code, laid_at, laid_of}
use Rattle.instruction.specs.Building.{early_of, accepted_of, finished_of, build_of, after, tried_of, fresh_of, instruction_of, bytes_told, size_told}
use Rattle.instruction.specs.Forms.{form_of}
use Rattle.instruction.specs.declared.Record.{Record}
use Rattle.instruction.proofs.Ready.{fresh_tried}
use Rattle.instruction.proofs.Results.{of_ok, handed_ok}

-- no byte, one, two or three, and zeros after them
pub data Padded : Encoded → Type 0 where
  empty : Padded (record { bytes = 0 ∷ 0 ∷ 0 ∷ []; length = 0 })
  single : (a : ℕ) → Padded (record { bytes = a ∷ 0 ∷ 0 ∷ []; length = 1 })
  double : (a b : ℕ) → Padded (record { bytes = a ∷ b ∷ 0 ∷ []; length = 2 })
  triple : (a b c : ℕ) → Padded (record { bytes = a ∷ b ∷ c ∷ []; length = 3 })

number_padded : (size n : ℕ) → Padded (number_bytes size n)
unfolding number_bytes
number_padded size n =
    by_pick Padded (eqb size 1) (single (low n)) (by_pick Padded (eqb size 2) (double (high n) (low n)) empty)

sized_padded : (p q width n : ℕ) → Padded (sized_of p q width n)
unfolding sized_of
sized_padded p q width n = by_pick Padded (eqb width 8) (double p (low n)) (triple q (high n) (low n))

constant_padded : (r : ℕ) (ind : Bool) (width n : ℕ) → Padded (constant_of r ind width n)
unfolding constant_of
constant_padded r ind width n =
    by_pick Padded (eqb n 0) (single _) (by_pick Padded (five_bits ind n) (single _) (sized_padded _ _ width n))

abbrev Pads : Result Encoded Refusal → Type 0
Pads r = Padded (result_unwrap_or r nothing)

encode_padded : (index : Index) → Pads (encode_of index)
unfolding offset_of counter_of accumulator_of step_of
encode_padded (Offset r ind v) =
    by_pick Pads (unknown_register r || not (valid_of v)) empty
    (by_pick Pads (not_indexing r) empty (constant_padded r ind v.width (sign_extended_of v).number))
encode_padded (Counter ind v) =
    by_pick Pads (not (valid_of v)) empty (sized_padded _ _ v.width (sign_extended_of v).number)
encode_padded (Accumulator r ind a) =
    by_pick Pads (unknown_register r || unknown_register a) empty
    (by_pick Pads (not_indexing r || not_accumulator a) empty (single _))
encode_padded (Step r ind k) =
    by_pick Pads (unknown_register r || unknown_step k) empty
    (by_pick Pads (ind && (eqb k 1 || eqb k 3)) empty (by_pick Pads (not_indexing r) empty (single _)))
encode_padded (Address address) = triple 0x9F (high address) (low address)

relative_padded : (target after : ℕ) (ind : Bool) → Padded (relative_of target after ind)
unfolding relative_of
relative_padded target after ind =
    by_pick Padded (near_of (minus target (plus after 2)))
    (double (marked ind 0x8C) (low (minus target (plus after 2))))
    (triple (marked ind 0x8D) (high (minus target (plus after 3))) (low (minus target (plus after 3))))

pub operand_padded : (o form : ℕ) (a : Argument) (after : ℕ) → Padded (operand_bytes o form a after)
unfolding operand_bytes
operand_padded o form Nothing after = number_padded 0 0
operand_padded o form (Number n) after = number_padded (number_size_of o form) n
operand_padded o form (Target t) after = number_padded (number_size_of o form) (minus t (plus after (number_size_of o form)))
operand_padded o form (Indexed index) after = encode_padded index
operand_padded o form (Relative target ind) after = relative_padded target after ind
operand_padded o form (Registers b) after = single b

padded_short : {e : Encoded} → Padded e → e.length ≤ 3
padded_short empty = omega arith
padded_short (single a) = omega arith
padded_short (double a b) = omega arith
padded_short (triple a b c) = omega arith

pub operand_short : (o form : ℕ) (a : Argument) (after : ℕ) → (operand_bytes o form a after).length ≤ 3
operand_short o form a after = padded_short (operand_padded o form a after)

-- five bytes, and zeros past the length
pub record Five (bytes : List ℕ) (n : ℕ) : Type 0 where
  pub all : length bytes ≡ 5
  pub most : n ≤ 5
  pub zeros : drop n bytes ≡ replicate (5 - n) 0

behind_five : (page code : ℕ) {e : Encoded} → Padded e → Five (behind_code page code e).bytes (behind_code page code e).length
unfolding behind_code
behind_five page code {e} p = by_pick (λ (l : Laid). Five l.bytes l.length) (eqb page 0) (plain p) (prefixed p)
  where
    plain : {f : Encoded} → Padded f → Five (code ∷ get_or f.bytes 0 0 ∷ get_or f.bytes 1 0 ∷ get_or f.bytes 2 0 ∷ 0 ∷ []) (1 + f.length)
    plain empty = record { all = refl; most = omega arith; zeros = refl }
    plain (single a) = record { all = refl; most = omega arith; zeros = refl }
    plain (double a b) = record { all = refl; most = omega arith; zeros = refl }
    plain (triple a b c) = record { all = refl; most = omega arith; zeros = refl }

    prefixed : {f : Encoded} → Padded f → Five (page ∷ code ∷ get_or f.bytes 0 0 ∷ get_or f.bytes 1 0 ∷ get_or f.bytes 2 0 ∷ []) (2 + f.length)
    prefixed empty = record { all = refl; most = omega arith; zeros = refl }
    prefixed (single a) = record { all = refl; most = omega arith; zeros = refl }
    prefixed (double a b) = record { all = refl; most = omega arith; zeros = refl }
    prefixed (triple a b c) = record { all = refl; most = omega arith; zeros = refl }

laid_five : (c : Chosen) (address : ℕ) → Five (laid_of c address).bytes (laid_of c address).length
unfolding laid_of laid_at
laid_five c address = from (code_of c.operation c.form)
  where
    from : (k : Result Code Refusal) → Five (laid_at k c address).bytes (laid_at k c address).length
    from (Ok k) = behind_five k.page k.code (operand_padded c.operation c.form c.argument _)
    from (Err r) = record { all = refl; most = omega arith; zeros = refl }

pub tried_five : (i : Instruction) (v : Values) (page : Page) (address : ℕ) → IfOk (tried_of i v page address) (λ b. Five b.bytes b.length)
unfolding tried_of accepted_of
tried_five i v page address = go (early_of i v) (choose_of i v page address)
  where
    go : (n : Result ⊤ Refusal) (c : Result Chosen Refusal) → IfOk (after n (finished_of i c address)) (λ b. Five b.bytes b.length)
    go (Ok passed) (Ok c) = laid_five c address
    go (Ok passed) (Err n) = tt
    go (Err n) c = tt

-- every accepted build
pub build_five : (i : Instruction) (v : Values) (page : Page) (address : ℕ) → IfOk (build_of i v page address) (λ b. Five b.bytes b.length)
unfolding build_of
build_five i v page address = handed_ok (λ b. Five b.bytes b.length) i (tried_of i v page address) (tried_five i v page address)

pub built_within : (b : Built) (i : Instruction) (v : Values) (page : Page) (address : ℕ) → build_of i v page address ≡ Ok b → b.length ≤ length b.bytes
built_within b i v page address e =
    let f = of_ok (λ (x : Built). Five x.bytes x.length) (build_five i v page address) e in
    omega (arith, f.all, f.most)

-- every accepted fresh build, and so what is told of one that may be refused
pub fresh_five : (r : Record) (address : ℕ) → IfOk (fresh_of r address) (λ b. Five b.bytes b.length)
fresh_five r address = rw (fresh_tried r address) (tried_five (instruction_of r.operand (form_of r.operand r.values r.page)) r.values r.page address)

pub record Told (b : Result Built Refusal) : Type 0 where
  pub size : length (bytes_told b) ≡ size_told b
  pub most : size_told b ≤ 5

pub fresh_told : (r : Record) (address : ℕ) → Told (fresh_of r address)
fresh_told r address = go (fresh_of r address) (fresh_five r address)
  where
    go : (b : Result Built Refusal) → IfOk b (λ x. Five x.bytes x.length) → Told b
    go (Ok b) five =
        let all = five.all in
        let most = five.most in
        record { size = length-take-le b.length b.bytes (omega arith); most = most }
    go (Err n) five = record { size = refl; most = omega arith }

-- ---- stored at the front
-- a whole store leaves the rest of the buffer as it was
pub front_all : (d bytes : List ℕ) (n : ℕ) → n ≤ length bytes → n ≤ length d → put d 0 (take n bytes) ≡ take n bytes ++ drop n d
front_all d bytes n h k =
    let e : length (take n bytes) ≡ n = length-take-le n bytes h in
    put_front d (take n bytes) (omega arith) ∙ ap (λ (j : ℕ). take n bytes ++ drop j d) e
