-- An accepted answer's kind has a number, and its operation is no alias: every row that is read names its operation itself.
-- Assumes nothing.
use mathlib.Core.Path.{◌≡◌, refl}
use mathlib.Core.List.{List, [], ◌∷◌}
use Prim.Native.Nat.{ℕ, ◌≤◌}
use native.Mathlib.Omega.{arith}
use Rattle.std.specs.Prelude.{Result, Ok, Err, IfOk}
use Rattle.ground.proofs.Choices.{by_pick}
use Rattle.ground.specs.declared.refusals.Refusal.{Refusal}
use Rattle.std.proofs.lemmas.Result.{IfOk-at_ok}
use Rattle.rows.specs.declared.Named.{Named}
use Rattle.rows.specs.Lookup.{merged_of, row_of}
use Rattle.rows.specs.Sizes.{number_at}
use Rattle.rows.proofs.Laws.{row_merged}
use Rattle.std.specs.Prelude.{Result, Ok, Err}
use Rattle.ground.specs.declared.refusals.Refusal.{Refusal}
use Rattle.decoder.specs.declared.Origin.{Origin}
use Rattle.decoder.specs.declared.Kind.{Kind}
use Rattle.decoder.specs.declared.Kind.TheVariants.{Inherent, Immediate, Memory, Branch, Push, Pair, Offset, Counter, Accumulator, Step, Address}
use Rattle.decoder.specs.declared.Meaning.{Meaning}
use Rattle.decoder.specs.declared.Decoded.{Decoded}
use Rattle.decoder.specs.declared.operands.Rest.{Rest}
use Rattle.decoder.specs.declared.operands.Reading.{Reading}
use Rattle.decoder.specs.Origin.{shifted, outside}
use Rattle.decoder.specs.Meaning.{Answer, joined, parts_of}
use Rattle.decoder.specs.Operands.{rest_of, operand_of}
use Rattle.decoder.specs.Front.{is_prefix, named_of, coded_of, prefixed_of, front_of, decode_of}

-- no kind has the number 0
abbrev pub Some : Kind → Type 0
Some k = 1 ≤ (parts_of k).kind

kind_some : (k : Kind) → Some k
kind_some Inherent = omega arith
kind_some (Immediate n) = omega arith
kind_some (Memory a) = omega arith
kind_some (Branch t) = omega arith
kind_some (Push rs) = omega arith
kind_some (Pair s d) = omega arith
kind_some (Offset r ind n) = omega arith
kind_some (Counter ind t) = omega arith
kind_some (Accumulator r ind a) = omega arith
kind_some (Step r ind k) = omega arith
kind_some (Address a) = omega arith

-- ---- an instruction
pub record Meant (m : Meaning) : Type 0 where
  pub some : Some m.kind
  pub plain : merged_of m.operation ≡ m.operation

abbrev Means : Answer → Type 0
Means x = IfOk x (λ d. Meant d.meaning)

joined_meant : (size o : ℕ) (x : Result Reading Refusal) → merged_of o ≡ o → Means (joined size o x)
unfolding joined
joined_meant size o (Ok r) e = record { some = kind_some r.kind; plain = e }
joined_meant size o (Err f) e = tt

coded_meant : (page code size : ℕ) (r : Rest) (from : Origin) → Means (coded_of page code size r from)
unfolding coded_of
coded_meant page code size r from = go (row_of page code) refl
  where
    go : (n : Result Named Refusal) → row_of page code ≡ n → Means (named_of n page code size r from)
    go (Ok row) e =
        let o = row.operation in
        let form = row.form in
        joined_meant size o (operand_of o form (number_at form page code) r (shifted from size)) (row_merged page code o form e)
    go (Err refusal) e = tt

front_meant : (l : List ℕ) (from : Origin) → Means (front_of l from)
unfolding front_of
front_meant [] from = tt
front_meant (a ∷ l) from = by_pick Means (is_prefix a) (after l) (coded_meant 0x00 a 1 (rest_of l) from)
  where
    after : (m : List ℕ) → Means (prefixed_of a m from)
    after [] = tt
    after (c ∷ m) = coded_meant a c 2 (rest_of m) from

pub decode_meant : (l : List ℕ) (from : Origin) (d : Decoded) → decode_of l from ≡ Ok d → Meant d.meaning
unfolding decode_of
decode_meant l from d e =
    IfOk-at_ok (λ (x : Decoded). Meant x.meaning) e (by_pick Means (outside l from) tt (front_meant l from))
