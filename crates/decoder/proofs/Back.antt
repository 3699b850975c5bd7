-- What an instruction's bytes are read as, whatever follows them: the code of a row as that row, and then the bytes of each form of operand as the operand.
-- Stated over the definitions of rows and of postbytes, for those who write such bytes.
-- Assumes nothing.
use mathlib.Core.Path.{◌≡◌, ◌∙◌, refl, sym, ap, subst}
use mathlib.Core.Bool.{Bool, true, false, false≢true}
use mathlib.Core.List.{List, [], ◌∷◌, ◌++◌, append_assoc}
use mathlib.Core.Logic.{⊎_elim}
use Prim.Native.Nat.{ℕ, zero, suc, ◌+◌, ◌/◌, ◌<◌, ◌≤◌}
use native.Mathlib.Omega.{arith}
use native.Mathlib.Nat.{div-add-mod', mod-eq_of_lt}
use lib.Dec.{eqb}
use lib.ListN.{length, get_or, take, length-append}
use borrow.Author.Tests.{le-ltb, ne_eqb, eqb-true}
use Rattle.ground.specs.Choice.{pick}
use Rattle.ground.specs.Words.{minus, high, low}
use Rattle.ground.proofs.Choices.{by_pick}
use Rattle.values.specs.Widths.{extended}
use Rattle.values.specs.declared.pages.Page.{Page}
use Rattle.values.specs.declared.pages.Page.TheVariants.{Unknown, Known}
use Rattle.values.specs.Pages.{reaches}
use Rattle.rows.specs.Forms as forms
use Rattle.rows.specs.Lookup.{merged_of, coded, code_of}
use Rattle.rows.specs.Sizes.{is_wide, is_long, number_at, number_size_of}
use Rattle.rows.proofs.Laws.{decoded, pages, no_prefix}
use Rattle.std.specs.Prelude.{Ok}
use Rattle.std.proofs.lemmas.Result.{IfOk-at_ok}
use Rattle.postbytes.specs.declared.Encoded.{Encoded}
use Rattle.postbytes.specs.declared.Index.{Index}
use Rattle.postbytes.specs.Writing.{written, encode_of, near_of, relative_of}
use Rattle.postbytes.specs.Meanings.{meaning_of, set_of, Means}
use Rattle.postbytes.specs.ListsWritten.{push_of, paired_of}
use Rattle.postbytes.specs.ListsRead.{registers_of, pair_of}
use Rattle.postbytes.proofs.Signs.{near_back}
use Rattle.postbytes.proofs.Round.{Back as Reads_as, read_back, read_back_relative}
use Rattle.postbytes.proofs.ListsRound as lists
use Rattle.decoder.specs.declared.Origin.{Origin}
use Rattle.decoder.specs.declared.Kind.{Kind}
use Rattle.decoder.specs.declared.Kind.TheVariants.{Inherent, Immediate, Memory, Branch, Push, Pair, Counter}
use Rattle.decoder.specs.Origin.{shifted, outside, target_of, direct_of, unseen}
use Rattle.decoder.specs.Meaning.{Answer, reading, answer, joined}
use Rattle.decoder.specs.Operands.{rest_of, number_of, distance_of, numbered_of, resolved, is_pair, own_of, paired_as, operand_of}
use Rattle.decoder.specs.Front.{coded_of, front_of, decode_of}
use Rattle.decoder.proofs.Bytes.{numbered_back, indexed_back, push_back, pair_back}

-- ---- the code
-- a code with its prefix, and its bytes
abbrev pub code_bytes : ℕ → ℕ → List ℕ
code_bytes p c = pick (eqb p 0x00) (c ∷ []) (p ∷ c ∷ [])

abbrev pub code_size : ℕ → ℕ
code_size p = pick (eqb p 0x00) 1 2

pub code_length : (p c : ℕ) → length (code_bytes p c) ≡ code_size p
unfolding pick
code_length p c = go (eqb p 0x00)
  where
    go : (t : Bool) → length (pick t (c ∷ []) (p ∷ c ∷ [])) ≡ pick t 1 2
    go true = refl
    go false = refl

-- the number after a code has the size that the sheet gives its row
pub size_at : (o form p c : ℕ) → code_of o form ≡ coded p c → number_at form p c ≡ number_size_of o form
unfolding number_size_of
size_at o form p c e = rw e

module _ (o form c : ℕ) (from : Origin) (l : List ℕ) where
  -- the row's operation with the operand that is read in l
  abbrev Named : ℕ → Answer
  Named size = joined size (merged_of o) (operand_of (merged_of o) form (number_size_of o form) (rest_of l) (shifted from size))

  coded_back : (p size : ℕ) → code_of o form ≡ coded p c → coded_of p c size (rest_of l) from ≡ Named size
  unfolding coded_of
  coded_back p size e = rw (decoded o form p c e, size_at o form p c e)

  abbrev Back : ℕ → Type 0
  Back p = front_of (code_bytes p c ++ l) from ≡ Named (code_size p)

  pub front_code : (p : ℕ) → code_of o form ≡ coded p c → Back p
  unfolding front_of pick
  front_code p e =
      ⊎_elim
      (λ (z : p ≡ 0x00). subst Back (sym z) (plain (e ∙ ap (λ (k : ℕ). coded k c) z)))
      (⊎_elim
      (λ (z : p ≡ 0x10). subst Back (sym z) (coded_back 0x10 2 (e ∙ ap (λ (k : ℕ). coded k c) z)))
      (λ (z : p ≡ 0x11). subst Back (sym z) (coded_back 0x11 2 (e ∙ ap (λ (k : ℕ). coded k c) z))))
      (pages o form p c e)
    where
      plain : code_of o form ≡ coded 0x00 c → Back 0x00
      plain d =
          let n = no_prefix o form c d in
          rw (ne_eqb c 0x10 n.0, ne_eqb c 0x11 n.1) (coded_back 0x00 1 d)

-- an accepted operand after its code
pub instruction_back :
    (o form p c : ℕ) (from : Origin) (bytes t : List ℕ) (kind : Kind) →
    code_of o form ≡ coded p c →
    operand_of (merged_of o) form (number_size_of o form) (rest_of (bytes ++ t)) (shifted from (code_size p)) ≡ reading (length bytes) kind →
    front_of ((code_bytes p c ++ bytes) ++ t) from ≡ answer (length (code_bytes p c ++ bytes)) (merged_of o) kind
unfolding joined pick
instruction_back o form p c from bytes t kind e r =
    let n : length (code_bytes p c ++ bytes) ≡ code_size p + length bytes =
    length-append (code_bytes p c) bytes ∙ ap (λ (m : ℕ). m + length bytes) (code_length p c) in
    rw (append_assoc (code_bytes p c) bytes t, n)
    (front_code o form c from (bytes ++ t) p e ∙ ap (joined (code_size p) (merged_of o)) r)

-- with room for all the bytes, decoding reads the front
pub decode_room : (l : List ℕ) (from : Origin) → from.address + length l ≤ 65536 → decode_of l from ≡ front_of l from
unfolding decode_of outside pick
decode_room l from h = rw (le-ltb 65536 (from.address + length l) h)

-- ---- how many bytes of number a row has
module _ (o p c : ℕ) where
  pub size_inherent : code_of o forms.inherent ≡ coded p c → number_size_of o forms.inherent ≡ 0
  unfolding number_at pick
  size_inherent e = sym (size_at o forms.inherent p c e)

  pub size_direct : code_of o forms.direct ≡ coded p c → number_size_of o forms.direct ≡ 1
  unfolding number_at pick
  size_direct e = sym (size_at o forms.direct p c e)

  pub size_extended : code_of o forms.extended ≡ coded p c → number_size_of o forms.extended ≡ 2
  unfolding number_at pick
  size_extended e = sym (size_at o forms.extended p c e)

  abbrev OneOrTwo : ℕ → Type 0
  OneOrTwo n = (1 ≤ n) × (n ≤ 2)

  pub size_immediate : code_of o forms.immediate ≡ coded p c → OneOrTwo (number_size_of o forms.immediate)
  unfolding number_at pick
  size_immediate e =
      subst OneOrTwo (size_at o forms.immediate p c e) (by_pick OneOrTwo (is_wide p c) (omega arith, omega arith) (omega arith, omega arith))

  pub size_relative : code_of o forms.relative ≡ coded p c → OneOrTwo (number_size_of o forms.relative)
  unfolding number_at pick
  size_relative e =
      subst OneOrTwo (size_at o forms.relative p c e) (by_pick OneOrTwo (is_long p c) (omega arith, omega arith) (omega arith, omega arith))

-- ---- numbers
-- a number in one byte, or in two
abbrev pub number_bytes : ℕ → ℕ → List ℕ
number_bytes size n = pick (eqb size 1) (low n ∷ []) (high n ∷ low n ∷ [])

-- what holds of one and of two
one_or_two : (P : ℕ → Type 0) → P 1 → P 2 → (size : ℕ) → 1 ≤ size → size ≤ 2 → P size
one_or_two P x y zero a b = absurd (omega arith)
one_or_two P x y (suc zero) a b = x
one_or_two P x y (suc (suc zero)) a b = y
one_or_two P x y (suc (suc (suc n))) a b = absurd (omega arith)

pub number_length : (size n : ℕ) → 1 ≤ size → size ≤ 2 → length (number_bytes size n) ≡ size
unfolding pick
number_length size n = one_or_two (λ (s : ℕ). length (number_bytes s n) ≡ s) refl refl size

module _ (q : ℕ) (after : Origin) (t : List ℕ) where
  -- a number's bytes in a form, read as a kind
  abbrev Number : ℕ → ℕ → ℕ → Kind → Type 0
  Number form size n kind = operand_of q form size (rest_of (number_bytes size n ++ t)) after ≡ reading size kind

  pub inherent_back : operand_of q forms.inherent 0 (rest_of t) after ≡ reading 0 Inherent
  unfolding operand_of numbered_of unseen pick
  inherent_back = numbered_back forms.inherent 0 after refl (rest_of t) (omega arith)

  pub immediate_back : (size n : ℕ) → 1 ≤ size → size ≤ 2 → (size ≡ 1 → n < 256) → Number forms.immediate size n (Immediate n)
  unfolding operand_of numbered_of number_of unseen pick
  immediate_back size n =
      one_or_two (λ (s : ℕ). (s ≡ 1 → n < 256) → Number forms.immediate s n (Immediate n))
      (λ h. numbered_back forms.immediate 1 after refl (rest_of (low n ∷ t)) (omega arith) ∙ ap (λ (m : ℕ). reading 1 (Immediate m)) (mod-eq_of_lt (h refl)))
      (λ h. numbered_back forms.immediate 2 after refl (rest_of (high n ∷ low n ∷ t)) (omega arith) ∙ ap (λ (m : ℕ). reading 2 (Immediate m)) (div-add-mod' n 256))
      size

  -- the low byte, under a page that the address lies on
  pub direct_back : (n : ℕ) → reaches after.page n ≡ true → Number forms.direct 1 n (Memory n)
  unfolding operand_of numbered_of number_of direct_of unseen pick
  direct_back n h = go after.page refl h
    where
      go : (p : Page) → after.page ≡ p → reaches p n ≡ true → Number forms.direct 1 n (Memory n)
      go Unknown e h₁ = absurd (false≢true h₁)
      go (Known high) e h₁ =
          let d : high ≡ n / 256 = eqb-true high (n / 256) h₁ in
          numbered_back forms.direct 1 after (rw e) (rest_of (low n ∷ t)) (omega arith)
          ∙ rw e (ap (λ (m : ℕ). reading 1 (Memory m)) (omega arith))

  pub extended_back : (n : ℕ) → Number forms.extended 2 n (Memory n)
  unfolding operand_of numbered_of number_of unseen pick
  extended_back n =
      numbered_back forms.extended 2 after refl (rest_of (high n ∷ low n ∷ t)) (omega arith) ∙ ap (λ (m : ℕ). reading 2 (Memory m)) (div-add-mod' n 256)

  -- the distance of a branch is counted from the end of the instruction
  abbrev pub distance : ℕ → ℕ → ℕ
  distance target size = minus target (shifted after size).address

  pub relative_back :
      (size target : ℕ) →
      1 ≤ size →
      size ≤ 2 →
      target < 65536 →
      (size ≡ 1 → near_of (distance target size) ≡ true) →
      Number forms.relative size (distance target size) (Branch target)
  unfolding operand_of numbered_of number_of distance_of target_of shifted unseen pick
  relative_back size target =
      one_or_two (λ (s : ℕ). target < 65536 → (s ≡ 1 → near_of (distance target s) ≡ true) → Number forms.relative s (distance target s) (Branch target))
      (λ h near.
      let d = distance target 1 in
      let e : low (low d) ≡ low d = omega arith in
      let back : extended 8 (low (low d)) ≡ d = rw e (near_back 8 8 128 d refl refl refl (omega arith) (near refl)) in
      numbered_back forms.relative 1 after refl (rest_of (low d ∷ t)) (omega arith)
      ∙ ap (λ (m : ℕ). reading 1 (Branch (target_of (shifted after 1) m))) back
      ∙ ap (λ (m : ℕ). reading 1 (Branch m)) (omega arith))
      (λ h near.
      let d = distance target 2 in
      numbered_back forms.relative 2 after refl (rest_of (high d ∷ low d ∷ t)) (omega arith)
      ∙ ap (λ (m : ℕ). reading 2 (Branch (target_of (shifted after 2) m))) (div-add-mod' d 256)
      ∙ ap (λ (m : ℕ). reading 2 (Branch m)) (omega arith))
      size

  -- ---- postbytes
  pub index_back :
      (i : Index) (size : ℕ) (e : Encoded) →
      encode_of i ≡ Ok e →
      operand_of q forms.indexed size (rest_of (written e ++ t)) after ≡ reading e.length (resolved (meaning_of i) (shifted after e.length))
  unfolding operand_of pick
  index_back i size e z =
      let w : Means (written e ++ t) e.length (meaning_of i) = IfOk-at_ok (λ x. Reads_as x (meaning_of i)) z (read_back i) t in
      indexed_back (written e ++ t) e.length (meaning_of i) after w

  pub counter_back :
      (target size : ℕ) (ind : Bool) →
      target < 65536 →
      after.address < 65536 →
      operand_of q forms.indexed size (rest_of (written (relative_of target after.address ind) ++ t)) after
      ≡ reading (relative_of target after.address ind).length (Counter ind target)
  unfolding operand_of target_of shifted pick
  counter_back target size ind h b =
      let e = relative_of target after.address ind in
      let r = read_back_relative target after.address ind h b in
      let w = r.lands in
      indexed_back (written e ++ t) e.length _ after (r.back t)
      ∙ ap (λ (m : ℕ). reading e.length (Counter ind m)) (omega arith)

  -- ---- lists of registers
  pub push_list_back :
      (own : ℕ) (registers : List ℕ) (count size b : ℕ) →
      is_pair q ≡ false →
      own_of q ≡ own →
      push_of own registers count ≡ Ok b →
      operand_of q forms.register size (rest_of (b ∷ t)) after ≡ reading 1 (Push (set_of (take count registers)))
  unfolding operand_of pick
  push_list_back own registers count size b i e z =
      push_back q (rest_of (b ∷ t)) (omega arith) i
      ∙ ap (λ (m : ℕ). reading 1 (Push (registers_of m b))) e
      ∙ ap (λ (m : ℕ). reading 1 (Push m)) (IfOk-at_ok (λ k. registers_of own k ≡ set_of (take count registers)) z (lists.push_back own registers count))

  pub pair_list_back :
      (registers : List ℕ) (count size b : ℕ) →
      is_pair q ≡ true →
      paired_of registers count ≡ Ok b →
      operand_of q forms.register size (rest_of (b ∷ t)) after ≡ reading 1 (Pair (get_or registers 0 0) (get_or registers 1 0))
  unfolding operand_of pick
  pair_list_back registers count size b i z =
      pair_back q (rest_of (b ∷ t)) (omega arith) i
      ∙ ap paired_as (IfOk-at_ok (λ k. pair_of k ≡ Ok (record { source = get_or registers 0 0; destination = get_or registers 1 0 })) z (lists.pair_back registers count))
