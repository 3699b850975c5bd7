-- An instruction hangs on its own bytes alone, one to five of them: each proper front of it is cut short, and bytes that agree on its length have the same
-- answer. A code of one or two bytes, and then an operand, of which all this is proved in Bytes.
-- Assumes nothing.
use mathlib.Core.Path.{◌≡◌, ◌∙◌, refl, sym, ap, subst}
use mathlib.Core.Bool.{Bool, true, false}
use mathlib.Core.List.{List, [], ◌∷◌, ◌++◌}
use Prim.Native.Nat.{ℕ, zero, suc, ◌+◌, ◌<◌, ◌≤◌}
use native.Mathlib.Omega.{arith}
use lib.ListN.{length, take, drop, length-take, take-append-drop}
use borrow.Author.Tests.{le-ltb}
use Rattle.std.specs.Prelude.{Result, Ok, Err, IfOk}
use Rattle.std.proofs.lemmas.Result.{IfOk-weaker, IfOk-at_ok}
use Rattle.ground.specs.Choice.{pick}
use Rattle.ground.specs.declared.refusals.Refusal.{Refusal}
use Rattle.ground.specs.declared.refusals.Refusal.TheVariants.{CutShort}
use Rattle.ground.proofs.Choices.{by_test}
use Rattle.ground.specs.declared.refusals.Refusal.{Refusal}
use Rattle.rows.specs.declared.Named.{Named}
use Rattle.rows.specs.Lookup.{row_of}
use Rattle.rows.specs.Sizes.{number_at}
use Rattle.decoder.specs.declared.Origin.{Origin}
use Rattle.decoder.specs.declared.Decoded.{Decoded}
use Rattle.decoder.specs.declared.operands.Reading.{Reading}
use Rattle.decoder.specs.Origin.{shifted, outside}
use Rattle.decoder.specs.Meaning.{Answer, joined}
use Rattle.decoder.specs.Operands.{rest_of, operand_of}
use Rattle.decoder.specs.Front.{is_prefix, named_of, coded_of, prefixed_of, front_of, decode_of}
use Rattle.decoder.proofs.Bounds.{Short, number_small, operand_small}
use Rattle.decoder.proofs.Origins.{inside}
use Rattle.decoder.proofs.Bytes.{Own, Owned, short_operand, operand_own}

-- no instruction is there
abbrev pub short : Answer
short = Err CutShort

-- what is accepted is read from its own bytes: so many are before l, and at most three of l
pub record Read (read : List ℕ → Answer) (before : ℕ) (l : List ℕ) (d : Decoded) : Type 0 where
  pub more : ℕ
  pub small : more ≤ 3
  pub whole : d.length ≡ before + more
  pub own : Own short read l more

abbrev Reads : (List ℕ → Answer) → ℕ → List ℕ → Type 0
Reads read before l = IfOk (read l) (Read read before l)

-- ---- a code and its operand
joined_reads :
    (size o : ℕ) (read : List ℕ → Result Reading Refusal) (l : List ℕ) →
    Short (read l) →
    Owned read l →
    Reads (λ m. joined size o (read m)) size l
unfolding joined
joined_reads size o read l = go (read l)
  where
    go :
        (x : Result Reading Refusal) →
        Short x →
        IfOk x (λ r. Own short_operand read l r.size) →
        IfOk (joined size o x) (Read (λ m. joined size o (read m)) size l)
    go (Ok r) small w = record {
      more = r.size;
      small = small;
      whole = refl;
      own = record {
        within = w.within;
        cut = λ k b. ap (joined size o) (w.cut k b);
        kept = λ t. ap (joined size o) (w.kept t);
      };
    }
    go (Err e) small w = tt

module _ (page code size : ℕ) (from : Origin) (l : List ℕ) where
  named_reads : (n : Result Named Refusal) → Reads (λ m. named_of n page code size (rest_of m) from) size l
  named_reads (Ok row) =
      let o = row.operation in
      let form = row.form in
      let more = number_at form page code in
      let after = shifted from size in
      joined_reads size o (λ m. operand_of o form more (rest_of m) after) l
      (operand_small o form more (rest_of l) after (number_small form page code))
      (operand_own o form more after l)
  named_reads (Err e) = tt

  coded_reads : Reads (λ m. coded_of page code size (rest_of m) from) size l
  unfolding coded_of
  coded_reads = named_reads (row_of page code)

-- ---- a byte before what is read
own_after :
    (read : List ℕ → Answer) (a : ℕ) (l : List ℕ) (n : ℕ) →
    read [] ≡ short →
    Own short (λ m. read (a ∷ m)) l n →
    Own short read (a ∷ l) (suc n)
own_after read a l n e w = record {
  within = let h = w.within in omega arith;
  cut = cut;
  kept = w.kept;
}
  where
    cut : (k : ℕ) → k < suc n → read (take k (a ∷ l)) ≡ short
    cut zero b = e
    cut (suc k) b = w.cut k (omega arith)

-- ---- an instruction
pub record Whole (l : List ℕ) (from : Origin) (n : ℕ) : Type 0 where
  pub some : 1 ≤ n
  pub most : n ≤ 5
  pub own : Own short (λ m. front_of m from) l n

-- the first byte is a prefix, or a code
module _ (a : ℕ) (from : Origin) where
  abbrev after : Bool → List ℕ → Answer
  after t m = pick t (prefixed_of a m from) (coded_of 0x00 a 1 (rest_of m) from)

  record Further (t : Bool) (l : List ℕ) (d : Decoded) : Type 0 where
    more : ℕ
    small : more ≤ 4
    whole : d.length ≡ suc more
    own : Own short (after t) l more

  further : (t : Bool) (l : List ℕ) → IfOk (after t l) (Further t l)
  unfolding pick
  further true [] = tt
  further true (c ∷ l) =
      let read = λ (m : List ℕ). coded_of a c 2 (rest_of m) from in
      IfOk-weaker (read l) (Read read 2 l) (Further true (c ∷ l))
      (λ d r.
      let b = r.small in
      let e = r.whole in
      record {
        more = suc r.more;
        small = omega arith;
        whole = omega arith;
        own = own_after (λ m. prefixed_of a m from) c l r.more refl r.own;
      })
      (coded_reads a c 2 from l)
  further false l =
      let read = λ (m : List ℕ). coded_of 0x00 a 1 (rest_of m) from in
      IfOk-weaker (read l) (Read read 1 l) (Further false l)
      (λ d r.
      let b = r.small in
      let e = r.whole in
      record { more = r.more; small = omega arith; whole = omega arith; own = r.own })
      (coded_reads 0x00 a 1 from l)

front_whole : (l : List ℕ) (from : Origin) → IfOk (front_of l from) (λ d. Whole l from d.length)
unfolding front_of
front_whole [] from = tt
front_whole (a ∷ l) from =
    IfOk-weaker (after a from (is_prefix a) l) (Further a from (is_prefix a) l) (λ d. Whole (a ∷ l) from d.length)
    (λ d f.
    let b = f.small in
    subst (Whole (a ∷ l) from) (sym f.whole) (record {
      some = omega arith;
      most = omega arith;
      own = own_after (λ m. front_of m from) a l f.more refl f.own;
    }))
    (further a from (is_prefix a) l)

pub front_read : (l : List ℕ) (from : Origin) (d : Decoded) → front_of l from ≡ Ok d → Whole l from d.length
front_read l from d e = IfOk-at_ok (λ (x : Decoded). Whole l from x.length) e (front_whole l from)

-- ---- what a public answer tells, of an accepted instruction d
module _ (l : List ℕ) (from : Origin) (d : Decoded) (e : decode_of l from ≡ Ok d) where
  accepted : (outside l from ≡ false) × (front_of l from ≡ Ok d)
  unfolding decode_of
  accepted =
      by_test (λ (x : Answer). x ≡ Ok d → (outside l from ≡ false) × (front_of l from ≡ Ok d)) (outside l from)
      (λ _ z. absurd (cc)) (λ q z. (q, z)) e

  -- it is made of its own bytes
  decode_whole : Whole l from d.length
  decode_whole = front_read l from d accepted.1

  pub lengths : (1 ≤ d.length) × (d.length ≤ 5) × (d.length ≤ length l)
  lengths = let w = decode_whole in (w.some, w.most, w.own.within)

decode_inside : (l : List ℕ) (from : Origin) → outside l from ≡ false → decode_of l from ≡ front_of l from
unfolding decode_of pick
decode_inside l from q = rw q

-- fewer bytes lie inside where more do
shorter_inside : (l : List ℕ) (from : Origin) (k : ℕ) → outside l from ≡ false → outside (take k l) from ≡ false
unfolding outside
shorter_inside l from k q =
    let h : from.address + length l ≤ 65536 = inside l from q in
    le-ltb 65536 (from.address + length (take k l)) (omega (arith, length-take k l))

-- every proper front of a readable instruction is cut short
pub cut_short_lem :
    (l : List ℕ) (from : Origin) (d : Decoded) (k : ℕ) → decode_of l from ≡ Ok d → k < d.length → decode_of (take k l) from ≡ Err CutShort
cut_short_lem l from d k e b =
    decode_inside (take k l) from (shorter_inside l from k (accepted l from d e).0) ∙ (decode_whole l from d e).own.cut k b

-- bytes that agree on the length of an accepted instruction have the same answer
pub agreeing :
    (l m : List ℕ) (from : Origin) (d : Decoded) →
    outside m from ≡ false →
    decode_of l from ≡ Ok d →
    take d.length m ≡ take d.length l →
    decode_of m from ≡ decode_of l from
agreeing l m from d p e t =
    let n = d.length in
    decode_inside m from p
    ∙ ap (λ (x : List ℕ). front_of x from) (sym (take-append-drop n m) ∙ ap (λ (x : List ℕ). x ++ drop n m) t)
    ∙ (decode_whole l from d e).own.kept (drop n m)
    ∙ sym (decode_inside l from (accepted l from d e).0)
