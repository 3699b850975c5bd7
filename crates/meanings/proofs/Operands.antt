-- The bytes of what a build settles on, whatever follows them, are read as what its argument says: a case for each argument, by the decoder's laws of
-- each form.
-- Assumes nothing.
use mathlib.Core.Path.{◌≡◌, ◌∙◌, refl, sym, ap, subst}
use mathlib.Core.Bool.{Bool, true, false, not, ◌&&◌, ◌||◌}
use mathlib.Core.List.{List, ◌∷◌, ◌++◌}
use mathlib.Core.Logic.{⊎_elim}
use Prim.Native.Nat.{ℕ, zero, suc, ◌+◌, ◌<◌, ◌≤◌}
use native.Mathlib.Omega.{arith}
use lib.Dec.{T, eqb, eqb→eq}
use lib.ListN.{take}
use Rattle.std.specs.Prelude.{Result, Ok, IsOk}
use Rattle.std.specs.Result.{result_unwrap_or}
use Rattle.ground.specs.Choice.{pick}
use Rattle.ground.specs.declared.refusals.Refusal.{Refusal}
use Rattle.ground.specs.Words.{plus, minus}
use Rattle.ground.proofs.Ranges.{both_left, both_right, upto, below}
use Rattle.values.specs.declared.pages.Page.{Page}
use Rattle.values.specs.Pages.{reaches, meets}
use Rattle.values.proofs.Reached.{meets_on}
use Rattle.rows.specs.Forms.{inherent, immediate, direct, indexed, extended, relative, register}
use Rattle.rows.specs.Sheet.{table_of, page0, page10, page11}
use Rattle.rows.specs.Lookup.{merged_of, coded, placed, has_form_of, code_of}
use Rattle.rows.specs.Sizes.{number_size_of}
use Rattle.rows.proofs.Laws.{code_has_form}
use Rattle.postbytes.specs.declared.Index.{Index}
use Rattle.postbytes.specs.ListsWritten.{push_of, paired_of}
use Rattle.postbytes.specs.Writing.{written, encode_of, near_of}
use Rattle.postbytes.specs.Meanings as index
use Rattle.postbytes.specs.Meanings.{set_of}
use Rattle.decoder.specs.declared.Origin.{Origin}
use Rattle.decoder.specs.declared.Kind.{Kind}
use Rattle.decoder.specs.declared.Kind.TheVariants.{Inherent, Immediate, Memory, Branch, Push, Pair, Counter}
use Rattle.decoder.specs.Origin.{origin, shifted}
use Rattle.decoder.specs.Meaning.{reading}
use Rattle.decoder.specs.Operands.{rest_of, resolved, own_of, operand_of}
use Rattle.decoder.proofs.Origins.{shift_shift, shifted_small}
use Rattle.decoder.proofs.Back as back
use Rattle.instruction.specs.declared.Operand.{Operand}
use Rattle.instruction.specs.declared.Argument.{Argument}
use Rattle.instruction.specs.declared.Argument.TheVariants.{Nothing, Number, Target, Indexed, Relative, Registers}
use Rattle.instruction.specs.Choosing.{is_pair, own_stack, listed_of}
use Rattle.instruction.specs.Bytes.{nothing, number_bytes, operand_bytes}
use Rattle.instruction.proofs.Fits.{unwraps, NumberFits, ArgumentFits}
use Rattle.instruction.proofs.Rows.{operation_small}
use Rattle.meanings.specs.Means.{first, second, list_kind}

-- what an argument says in a form, of an instruction that ends there
abbrev pub argument_kind : Operand → ℕ → Argument → Origin → Kind
argument_kind operand form Nothing end = Inherent
argument_kind operand form (Number n) end = pick (eqb form immediate) (Immediate n) (Memory n)
argument_kind operand form (Target t) end = Branch t
argument_kind operand form (Indexed i) end = resolved (index.meaning_of i) end
argument_kind operand form (Relative t ind) end = Counter ind t
argument_kind operand form (Registers b) end = list_kind operand

-- a number of one byte or of two, as the decoder's laws write it
number_written : (size n : ℕ) → 1 ≤ size → size ≤ 2 → (written (number_bytes size n) ≡ back.number_bytes size n) × ((number_bytes size n).length ≡ size)
unfolding number_bytes pick
number_written zero n a b = absurd (omega arith)
number_written (suc zero) n a b = (refl, refl)
number_written (suc (suc zero)) n a b = (refl, refl)
number_written (suc (suc (suc k))) n a b = absurd (omega arith)

-- the rows with a list of registers are no aliases, and a push's own stack is told by its number
lists_right : ℕ → Bool
lists_right o = not (has_form_of o register) || (eqb (merged_of o) o && (is_pair o || eqb (own_of o) (own_stack o)))

lists_right_lem : T (upto lists_right 256)
unfolding lists_right has_form_of placed table_of page0 page10 page11 merged_of is_pair own_of own_stack pick
lists_right_lem = tt

record ListRow (o : ℕ) : Type 0 where
  plain : merged_of o ≡ o
  own : is_pair o ≡ false → own_of o ≡ own_stack o

list_row : (o : ℕ) → has_form_of o register ≡ true → ListRow o
unfolding lists_right
list_row o h =
    let own = is_pair o || eqb (own_of o) (own_stack o) in
    let right : T (eqb (merged_of o) o && own) = rw h at (below lists_right 256 lists_right_lem o (operation_small o register h)) in
    record {
      plain = eqb→eq (merged_of o) o (both_left (eqb (merged_of o) o) own right);
      own = λ n. eqb→eq (own_of o) (own_stack o) (rw n at (both_right (eqb (merged_of o) o) own right));
    }

-- ---- each argument
module _ (operand : Operand) (page : Page) (address size o p c : ℕ) (t : List ℕ) where
  -- an operation o in a form, the code of which has so many bytes
  abbrev Back : ℕ → Argument → Type 0
  Back form a =
      operand_of (merged_of o) form (number_size_of o form) (rest_of (written (operand_bytes o form a (plus address size)) ++ t)) (shifted (origin address page) size)
      ≡ reading (operand_bytes o form a (plus address size)).length
      (argument_kind operand form a (origin (plus address (size + (operand_bytes o form a (plus address size)).length)) page))

  abbrev after : Origin
  after = shifted (origin address page) size

  nothing_back : code_of o inherent ≡ coded p c → Back inherent Nothing
  unfolding operand_bytes number_bytes pick
  nothing_back e = rw (back.size_inherent o p c e) (back.inherent_back (merged_of o) after t)

  immediate_back : code_of o immediate ≡ coded p c → (n : ℕ) → (number_size_of o immediate ≡ 1 → n < 256) → Back immediate (Number n)
  unfolding operand_bytes pick
  immediate_back e n h =
      let s = back.size_immediate o p c e in
      let w = number_written (number_size_of o immediate) n s.0 s.1 in
      rw (w.0, w.1) (back.immediate_back (merged_of o) after t (number_size_of o immediate) n s.0 s.1 h)

  direct_back : code_of o direct ≡ coded p c → (n : ℕ) → reaches page n ≡ true → Back direct (Number n)
  unfolding operand_bytes number_bytes shifted pick
  direct_back e n h = rw (back.size_direct o p c e) (back.direct_back (merged_of o) after t n h)

  extended_back : code_of o extended ≡ coded p c → (n : ℕ) → Back extended (Number n)
  unfolding operand_bytes number_bytes pick
  extended_back e n = rw (back.size_extended o p c e) (back.extended_back (merged_of o) after t n)

  target_back :
      code_of o relative ≡ coded p c →
      (number_size_of o relative ≡ 1 → size ≡ 1) →
      (target : ℕ) →
      target < 65536 →
      (number_size_of o relative ≡ 1 → near_of (minus target (plus address 2)) ≡ true) →
      Back relative (Target target)
  unfolding operand_bytes shifted
  target_back e one target h near =
      let k = number_size_of o relative in
      let s = back.size_relative o p c e in
      let w = number_written k (minus target (plus (plus address size) k)) s.0 s.1 in
      let same : k ≡ 1 → plus address 2 ≡ plus (plus address size) k = λ d. let d' = one d in omega arith in
      rw (w.0, w.1)
      (back.relative_back (merged_of o) after t k target s.0 s.1 h
      (λ d. subst (λ (m : ℕ). near_of (minus target m) ≡ true) (same d) (near d)))

  -- the end of the instruction
  ends : (n : ℕ) → shifted after n ≡ origin (plus address (size + n)) page
  unfolding shifted
  ends n = shift_shift (origin address page) size n

  indexed_back : (i : Index) → IsOk (encode_of i) → Back indexed (Indexed i)
  unfolding operand_bytes
  indexed_back i z =
      let e = result_unwrap_or (encode_of i) nothing in
      back.index_back (merged_of o) after t i (number_size_of o indexed) e (unwraps (encode_of i) nothing z)
      ∙ ap (λ (next : Origin). reading e.length (resolved (index.meaning_of i) next)) (ends e.length)

  counter_back : (target : ℕ) (ind : Bool) → target < 65536 → Back indexed (Relative target ind)
  unfolding operand_bytes shifted
  counter_back target ind h =
      back.counter_back (merged_of o) after t target (number_size_of o indexed) ind h (shifted_small (origin address page) size)

  -- a pair, or the list of a push
  abbrev listed : Bool → Result ℕ Refusal
  listed pair = pick pair (paired_of operand.registers operand.count) (push_of (own_stack o) operand.registers operand.count)

  list_back : (byte : ℕ) → code_of o register ≡ coded p c → operand.operation ≡ o → listed_of operand ≡ Ok byte → Back register (Registers byte)
  unfolding operand_bytes listed_of list_kind is_pair pick
  list_back byte e same =
      let row = list_row o (code_has_form o register p c e) in
      rw (row.plain, same) (go row (is_pair o) refl)
    where
      go :
          ListRow o →
          (b : Bool) →
          is_pair o ≡ b →
          listed b ≡ Ok byte →
          operand_of o register (number_size_of o register) (rest_of (byte ∷ t)) after
          ≡ reading 1 (pick b (Pair (first operand) (second operand)) (Push (set_of (take operand.count operand.registers))))
      go row true q z = back.pair_list_back o after t operand.registers operand.count (number_size_of o register) byte q z
      go row false q z =
          back.push_list_back o after t (own_stack o) operand.registers operand.count (number_size_of o register) byte q (row.own q) z

  -- ---- all of them
  -- built under a page that the reader's meets
  module _ (own : Page) (met : meets page own ≡ true) (form : ℕ) (e : code_of o form ≡ coded p c) where
    -- what holds of a form by its name holds of it
    named : (f : ℕ) (a : Argument) → form ≡ f → (code_of o f ≡ coded p c → Back f a) → Back form a
    named f a d b = subst (λ (g : ℕ). Back g a) (sym d) (b (subst (λ (g : ℕ). code_of o g ≡ coded p c) d e))

    number_back : (n : ℕ) → NumberFits own o form n → Back form (Number n)
    number_back n h =
        ⊎_elim
        (λ (d : form ≡ immediate). named immediate (Number n) d (λ k. immediate_back k n (subst (λ (f : ℕ). number_size_of o f ≡ 1 → n < 256) d (h.byte d))))
        (⊎_elim
        (λ (d : form ≡ direct). named direct (Number n) d (λ k. direct_back k n (meets_on page own met n (h.paged d))))
        (λ (d : form ≡ extended). named extended (Number n) d (λ k. extended_back k n)))
        h.formed

    pub operand_back :
        (form ≡ register → operand.operation ≡ o) →
        (form ≡ relative → number_size_of o relative ≡ 1 → size ≡ 1) →
        (a : Argument) →
        ArgumentFits operand own address o form a →
        Back form a
    operand_back same one Nothing h = named inherent Nothing h nothing_back
    operand_back same one (Number n) h = number_back n h
    operand_back same one (Target x) h =
        named relative (Target x) h.formed
        (λ k. target_back k (one h.formed) x h.word (subst (λ (f : ℕ). number_size_of o f ≡ 1 → near_of (minus x (plus address 2)) ≡ true) h.formed h.near))
    operand_back same one (Indexed i) h = named indexed (Indexed i) h.formed (λ _. indexed_back i h.accepted)
    operand_back same one (Relative x ind) h = named indexed (Relative x ind) h.formed (λ _. counter_back x ind h.word)
    operand_back same one (Registers b) h =
        named register (Registers b) h.formed
        (λ k. list_back b k (same h.formed) h.byte)
