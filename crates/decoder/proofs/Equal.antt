-- The derived comparison of what is read is equality.
-- Assumes nothing.
use mathlib.Core.Path.{◌≡◌}
use mathlib.Core.Bool.{true}
use lib.Dec.{eqb}
use borrow.Author.Rules.{rules}
use borrow.Author.Tests.{eqb-true}
use Rattle.ground.proofs.Tests.{both_first, both_second}
use Rattle.decoder.specs.declared.Kind.{Kind}
use Rattle.decoder.specs.declared.Kind.TheVariants.{Inherent, Immediate, Memory, Branch, Push, Pair, Offset, Counter, Accumulator, Step, Address}
use Rattle.decoder.specs.declared.Meaning.{Meaning}
use Rattle.decoder.specs.declared.Decoded.{Decoded}
use Rattle.decoder.specs.contracts.KindPartialEq.TheImpl as kind_eq
use Rattle.decoder.specs.contracts.MeaningPartialEq.TheImpl as meaning_eq
use Rattle.decoder.specs.contracts.DecodedPartialEq.TheImpl as decoded_eq
use Rattle.decoder.specs.contracts.DecodedEq.TheImpl.Laws.{laws-law}

kind_equal : (x y : Kind) → kind_eq.eq-value.it x y ≡ true → x ≡ y
kind_equal Inherent Inherent e = search rules
kind_equal (Immediate n) (Immediate m) e = search rules
kind_equal (Memory n) (Memory m) e = search rules
kind_equal (Branch n) (Branch m) e = search rules
kind_equal (Push n) (Push m) e = search rules
kind_equal (Pair a b) (Pair c d) e = search rules
kind_equal (Offset a b c) (Offset d f g) e = search rules
kind_equal (Counter a b) (Counter c d) e = search rules
kind_equal (Accumulator a b c) (Accumulator d f g) e = search rules
kind_equal (Step a b c) (Step d f g) e = search rules
kind_equal (Address n) (Address m) e = search rules
kind_equal x y e = search rules

meaning_equal : (x y : Meaning) → meaning_eq.eq-value.it x y ≡ true → x ≡ y
meaning_equal x y e = search (rules, kind_equal)

pub decoded_equal : (x y : Decoded) → decoded_eq.eq-value.it x y ≡ true → x ≡ y
decoded_equal x y e =
    let sizes = eqb x.length y.length in
    let meanings = meaning_eq.eq-value.it x.meaning y.meaning in
    let n = eqb-true x.length y.length (both_first sizes meanings e) in
    let m = meaning_equal x.meaning y.meaning (both_second sizes meanings e) in
    let all : ◌≡◌ {A = Decoded} (record { length = x.length; meaning = x.meaning }) (record { length = y.length; meaning = y.meaning }) = cc in
    all

pub decoded_itself : (x : Decoded) → decoded_eq.eq-value.it x x ≡ true
decoded_itself x = laws-law.refl x
