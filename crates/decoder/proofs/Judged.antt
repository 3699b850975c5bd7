-- 14 and 15 are told apart: bytes that are undefined stay so whatever follows them, and bytes that are cut short are the front of some instruction.
-- By the forms of an operand, then the code, then the prefix; what is missing can be zeros, after a lone prefix it can be 3F.
-- Assumes nothing.
use mathlib.Core.Path.{◌≡◌, ◌∙◌, refl, sym, ap}
use mathlib.Core.Bool.{Bool, true, false, true≢false}
use mathlib.Core.List.{List, [], ◌∷◌, ◌++◌, append-nil}
use Prim.Native.Nat.{ℕ, suc, ◌+◌, ◌≤◌}
use native.Mathlib.Omega.{arith}
use lib.Dec.{eqb, ltb}
use lib.ListN.{length, length-append}
use borrow.Author.Tests.{le-ltb, ne_eqb, eqb-true}
use Rattle.std.specs.Prelude.{Result, Ok, Err, IsOk, is_ok}
use Rattle.ground.specs.Choice.{pick}
use Rattle.ground.specs.declared.refusals.Refusal.{Refusal}
use Rattle.ground.specs.declared.refusals.Refusal.TheVariants as refusals
use Rattle.rows.specs.declared.Named.{Named}
use Rattle.rows.specs.Sheet.{page0, page10, page11, table_of}
use Rattle.rows.specs.Lookup.{row_of}
use Rattle.rows.specs.Sizes.{number_at}
use Rattle.rows.proofs.Laws.{row_refused}
use Rattle.postbytes.specs.declared.Shape.{Shape}
use Rattle.postbytes.specs.declared.Pair.{Pair}
use Rattle.postbytes.specs.Reading.{shape_of, extra_of}
use Rattle.postbytes.specs.Lists.{size_of}
use Rattle.postbytes.specs.ListsRead.{pair_of}
use Rattle.postbytes.proofs.Told.{lacking_undefined, unpaired_undefined}
use Rattle.decoder.specs.declared.Origin.{Origin}
use Rattle.decoder.specs.declared.operands.Reading.{Reading}
use Rattle.decoder.specs.declared.operands.Rest.{Rest}
use Rattle.decoder.specs.Origin.{shifted, unseen}
use Rattle.decoder.specs.Meaning.{Answer, joined}
use Rattle.decoder.specs.Operands.{rest_of, numbered_at, indexed_as, indexed_at, is_pair, registers_at, operand_of}
use Rattle.decoder.specs.Front.{is_prefix, named_of, coded_of, prefixed_of, front_of}
use Rattle.decoder.proofs.Bounds.{extra_small, number_small}
use Rattle.decoder.proofs.Bytes.{numbered_back}

-- what is to be told of bytes that are read
data Judged {A : Type 0} (short never : A) (Good : A → Type 0) (read : List ℕ → A) (l : List ℕ) : Type 0 where
  accepted : Good (read l) → Judged short never Good read l
  hopeless : ((t : List ℕ) → read (l ++ t) ≡ never) → Judged short never Good read l
  unfinished : read l ≡ short → (t : List ℕ) → Good (read (l ++ t)) → Judged short never Good read l

abbrev Operand : (List ℕ → Result Reading Refusal) → List ℕ → Type 0
Operand = Judged (Err refusals.CutShort) (Err refusals.Undefined) IsOk

-- ---- a number
module _ (form size : ℕ) (after : Origin) (small : size ≤ 2) (l : List ℕ) where
  judge_number : Operand (λ m. numbered_at form size (rest_of m) after) l
  unfolding numbered_at pick
  judge_number = go (unseen form after) refl (ltb (length l) size) refl
    where
      go : (a : Bool) → unseen form after ≡ a → (b : Bool) → ltb (length l) size ≡ b → Operand (λ m. numbered_at form size (rest_of m) after) l
      go true u b q = hopeless (λ t. rw u)
      go false u true q =
          unfinished (rw (u, q)) (0 ∷ 0 ∷ [])
          (ap is_ok
          (numbered_back form size after u (rest_of (l ++ 0 ∷ 0 ∷ [])) (omega (arith, length-append l (0 ∷ 0 ∷ [])))))
      go false u false q = accepted (rw (u, q))

-- ---- a postbyte
module _ (after : Origin) where
  index_read :
      (r : Rest) (s : Shape) →
      (r.left ≡ 0 → ⊥) →
      shape_of r.first ≡ Ok s →
      1 + extra_of s ≤ r.left →
      IsOk (indexed_at r after)
  unfolding indexed_at indexed_as pick
  index_read r s z d h = rw (ne_eqb r.left 0 z, d, le-ltb r.left (1 + extra_of s) h)

  index_zero : IsOk (indexed_at (rest_of (0 ∷ [])) after)
  unfolding indexed_at indexed_as shape_of pick
  index_zero = refl

  judge_index : (l : List ℕ) → Operand (λ m. indexed_at (rest_of m) after) l
  unfolding indexed_at indexed_as pick
  judge_index [] = unfinished refl (0 ∷ []) index_zero
  judge_index (p ∷ l) = go (shape_of p) refl
    where
      shaped :
          (s : Shape) → shape_of p ≡ Ok s → (b : Bool) → ltb (suc (length l)) (1 + extra_of s) ≡ b → Operand (λ m. indexed_at (rest_of m) after) (p ∷ l)
      shaped s d true q =
          unfinished (rw (ne_eqb (suc (length l)) 0 (omega arith), d, q)) (0 ∷ 0 ∷ [])
          (index_read (rest_of (p ∷ l ++ 0 ∷ 0 ∷ [])) s (omega arith) d (omega (arith, extra_small s, length-append l (0 ∷ 0 ∷ []))))
      shaped s d false q = accepted (rw (ne_eqb (suc (length l)) 0 (omega arith), d, q))

      go : (x : Result Shape Refusal) → shape_of p ≡ x → Operand (λ m. indexed_at (rest_of m) after) (p ∷ l)
      go (Ok s) d = shaped s d (ltb (suc (length l)) (1 + extra_of s)) refl
      go (Err n) d =
          let u : n ≡ refusals.Undefined = rw d at (lacking_undefined p) in
          hopeless (λ t. rw (ne_eqb (suc (length (l ++ t))) 0 (omega arith), d, u))

-- ---- a list of registers
list_zero : (o : ℕ) → IsOk (registers_at o (rest_of (0 ∷ [])))
unfolding registers_at pair_of size_of pick
list_zero o = go (is_pair o) refl
  where
    go : (b : Bool) → is_pair o ≡ b → IsOk (registers_at o (rest_of (0 ∷ [])))
    go true i = rw i
    go false i = rw i

judge_list : (o : ℕ) (l : List ℕ) → Operand (λ m. registers_at o (rest_of m)) l
unfolding registers_at pick
judge_list o [] = unfinished refl (0 ∷ []) (list_zero o)
judge_list o (p ∷ l) = go (is_pair o) refl (pair_of p) refl
  where
    go : (b : Bool) → is_pair o ≡ b → (x : Result Pair Refusal) → pair_of p ≡ x → Operand (λ m. registers_at o (rest_of m)) (p ∷ l)
    go true i (Ok x) e = accepted (rw (ne_eqb (suc (length l)) 0 (omega arith), i, e))
    go true i (Err n) e =
        let u : n ≡ refusals.Undefined = rw e at (unpaired_undefined p) in
        hopeless (λ t. rw (ne_eqb (suc (length (l ++ t))) 0 (omega arith), i, e, u))
    go false i x e = accepted (rw (ne_eqb (suc (length l)) 0 (omega arith), i))

judge_operand : (o form size : ℕ) (after : Origin) → size ≤ 2 → (l : List ℕ) → Operand (λ m. operand_of o form size (rest_of m) after) l
unfolding operand_of pick
judge_operand o form size after h l = go (eqb form 3) (eqb form 6)
  where
    go :
        (a b : Bool) →
        Operand (λ m. pick a (indexed_at (rest_of m) after) (pick b (registers_at o (rest_of m)) (numbered_at form size (rest_of m) after))) l
    go true b = judge_index after l
    go false true = judge_list o l
    go false false = judge_number form size after h l

-- ---- a code and its operand
abbrev Instruction : (List ℕ → Answer) → List ℕ → Type 0
Instruction = Judged (Err refusals.CutShort) (Err refusals.Undefined) IsOk

joined_read : (size o : ℕ) (x : Result Reading Refusal) → IsOk x → IsOk (joined size o x)
unfolding joined
joined_read size o (Ok r) z = refl
joined_read size o (Err e) z = absurd (cc)

judge_joined : (size o : ℕ) (read : List ℕ → Result Reading Refusal) (l : List ℕ) → Operand read l → Instruction (λ m. joined size o (read m)) l
unfolding joined
judge_joined size o read l (accepted g) = accepted (joined_read size o (read l) g)
judge_joined size o read l (hopeless f) = hopeless (λ t. ap (joined size o) (f t))
judge_joined size o read l (unfinished e t g) = unfinished (ap (joined size o) e) t (joined_read size o (read (l ++ t)) g)

module _ (page code size : ℕ) (from : Origin) (l : List ℕ) where
  judge_named : (n : Result Named Refusal) → row_of page code ≡ n → Instruction (λ m. named_of n page code size (rest_of m) from) l
  judge_named (Ok row) q =
      let o = row.operation in
      let form = row.form in
      judge_joined size o (λ m. operand_of o form (number_at form page code) (rest_of m) (shifted from size)) l
      (judge_operand o form (number_at form page code) (shifted from size) (number_small form page code) l)
  judge_named (Err e) q = hopeless (λ t. ap (λ (s : Refusal). Err s) (row_refused page code e q))

  judge_coded : Instruction (λ m. coded_of page code size (rest_of m) from) l
  unfolding coded_of
  judge_coded = judge_named (row_of page code) refl

-- ---- a byte before what is read
judge_after : (read : List ℕ → Answer) (a : ℕ) (l : List ℕ) → Instruction (λ m. read (a ∷ m)) l → Instruction read (a ∷ l)
judge_after read a l (accepted g) = accepted g
judge_after read a l (hopeless f) = hopeless f
judge_after read a l (unfinished e t g) = unfinished e t g

-- 3F completes each prefix: SWI2 and SWI3
swi : (a : ℕ) (from : Origin) → is_prefix a ≡ true → IsOk (prefixed_of a (0x3F ∷ []) from)
unfolding coded_of row_of table_of page10 page11 joined operand_of numbered_at number_at unseen pick
swi a from i = go (eqb a 0x10) refl (eqb a 0x11) refl
  where
    go : (b : Bool) → eqb a 0x10 ≡ b → (d : Bool) → eqb a 0x11 ≡ d → IsOk (prefixed_of a (0x3F ∷ []) from)
    go true p d q = rw (eqb-true a 0x10 p)
    go false p true q = rw (eqb-true a 0x11 q)
    go false p false q = absurd (true≢false (sym i ∙ rw (p, q)))

judge_prefixed : (a : ℕ) (from : Origin) (l : List ℕ) → is_prefix a ≡ true → Instruction (λ m. prefixed_of a m from) l
judge_prefixed a from [] i = unfinished refl (0x3F ∷ []) (swi a from i)
judge_prefixed a from (c ∷ l) i = judge_after (λ m. prefixed_of a m from) c l (judge_coded a c 2 from l)

nop : (from : Origin) → IsOk (front_of (0x12 ∷ []) from)
unfolding front_of coded_of row_of table_of page0 joined operand_of numbered_at number_at unseen pick
nop from = refl

judge_front : (l : List ℕ) (from : Origin) → Instruction (λ m. front_of m from) l
unfolding front_of pick
judge_front [] from = unfinished refl (0x12 ∷ []) (nop from)
judge_front (a ∷ l) from = judge_after (λ m. front_of m from) a l (go (is_prefix a) refl)
  where
    go : (b : Bool) → is_prefix a ≡ b → Instruction (λ m. pick b (prefixed_of a m from) (coded_of 0x00 a 1 (rest_of m) from)) l
    go true i = judge_prefixed a from l i
    go false i = judge_coded 0x00 a 1 from l

-- ---- what this tells
pub undefined_stays :
    (l t : List ℕ) (from : Origin) → front_of l from ≡ Err refusals.Undefined → front_of (l ++ t) from ≡ Err refusals.Undefined
undefined_stays l t from z = go (judge_front l from)
  where
    go : Instruction (λ m. front_of m from) l → front_of (l ++ t) from ≡ Err refusals.Undefined
    go (accepted g) = absurd (true≢false (sym g ∙ ap is_ok z))
    go (hopeless f) = f t
    go (unfinished e u g) = absurd (cc)

pub record Completed (l : List ℕ) (from : Origin) : Type 0 where
  pub rest : List ℕ
  pub reads : IsOk (front_of (l ++ rest) from)

pub short_completes : (l : List ℕ) (from : Origin) → front_of l from ≡ Err refusals.CutShort → Completed l from
short_completes l from z = go (judge_front l from)
  where
    go : Instruction (λ m. front_of m from) l → Completed l from
    go (accepted g) = absurd (true≢false (sym g ∙ ap is_ok z))
    go (hopeless f) =
        let y : front_of l from ≡ Err refusals.Undefined = ap (λ (m : List ℕ). front_of m from) (sym (append-nil l)) ∙ f [] in
        absurd (cc)
    go (unfinished e t g) = record { rest = t; reads = g }
