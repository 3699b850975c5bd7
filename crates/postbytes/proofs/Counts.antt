-- Which postbytes are read and how long each form is, held by computation against a list of its own, written from the sheet's columns of bytes: what
-- writing and reading share, the round trip cannot see.
-- Assumes nothing.
use mathlib.Core.Path.{◌≡◌, refl, sym, ap, ◌∙◌}
use mathlib.Core.Bool.{Bool, false}
use mathlib.Core.List.{List, [], ◌∷◌, ◌++◌, map}
use Prim.Native.Nat.{ℕ, zero, suc, ◌+◌, ◌<◌}
use lib.Dec.{T, eqb, eqb→eq}
use lib.ListN.{replicate}
use Rattle.std.specs.Prelude.{Result, Ok, Err, is_ok}
use Rattle.ground.specs.Choice.{pick}
use Rattle.ground.specs.declared.refusals.Refusal.{Refusal}
use Rattle.ground.specs.Refusals.{number_of}
use Rattle.ground.proofs.Ranges.{upto, below}
use Rattle.values.specs.Widths.{extended}
use Rattle.postbytes.specs.declared.Shape.{Shape}
use Rattle.postbytes.specs.declared.Addressing.{Addressing}
use Rattle.postbytes.specs.declared.Addressing.TheVariants.{Offset}
use Rattle.postbytes.specs.Registers.{X, Y, U, S}
use Rattle.postbytes.specs.Lists.{other_of, boxes, size_of}
use Rattle.postbytes.specs.Reading.{direct_only, address_only, high_of, shape_of, extra_of, fill_of}
use Rattle.postbytes.specs.ListsWritten.{ticks_of_set}
use Rattle.postbytes.specs.ListsRead.{ticked, registers_of, pair_of}
use Rattle.postbytes.proofs.Boxes.{by_row}

-- how many numbers below n pass a test
abbrev pub count_below : (ℕ → Bool) → ℕ → ℕ
count_below f zero = 0
count_below f (suc n) = pick (f n) 1 0 + count_below f n

-- refused, and 14 in 01
abbrev pub lacking : {A : Type 0} → Result A Refusal → Bool
lacking (Ok x) = false
lacking (Err n) = eqb (number_of n) 14

-- 02: "217 postbytes are read and 39 refused", "14 for the 39 only"
pub counted :
    (count_below (λ p. is_ok (shape_of p)) 256 ≡ 217) × (count_below (λ p. lacking (shape_of p)) 256 ≡ 39)
unfolding shape_of high_of direct_only address_only pick
counted = (refl, refl)

-- six registers of 16 bits and four of 8, each with each of its size; "14 for other EXG/TFR codes or unequal sizes"
pub pairs_counted :
    (count_below (λ p. is_ok (pair_of p)) 256 ≡ 52) × (count_below (λ p. lacking (pair_of p)) 256 ≡ 204)
unfolding pair_of size_of pick
pairs_counted = (refl, refl)

-- every byte is a push list, and the 256 lists differ: the boxes of a byte's registers, ticked again, are the byte
abbrev Again : List ℕ → Type 0
Again rs = (k : ℕ) → k < 256 → ticks_of_set rs (ticked rs k) ≡ k

again : (rs : List ℕ) → T (upto (λ k. eqb (ticks_of_set rs (ticked rs k)) k) 256) → Again rs
again rs t k h = eqb→eq (ticks_of_set rs (ticked rs k)) k (below (λ (n : ℕ). eqb (ticks_of_set rs (ticked rs n)) n) 256 t k h)

pub lists_differ : (own a b : ℕ) → a < 256 → b < 256 → registers_of own a ≡ registers_of own b → a ≡ b
unfolding registers_of other_of pick
lists_differ own a b ha hb e =
    let same : Again (boxes own) = by_row Again own (again (boxes U) tt) (again (boxes S) tt) in
    sym (same a ha) ∙ ap (ticks_of_set (boxes own)) e ∙ same b hb

-- n numbers from k on
abbrev from : ℕ → ℕ → List ℕ
from k zero = []
from k (suc n) = k ∷ from (suc k) n

-- the bytes of a form, its postbyte counted; none where the sheet has no such postbyte
abbrev bytes_of : Result Shape Refusal → ℕ
bytes_of (Ok s) = 1 + extra_of s
bytes_of (Err n) = 0

-- the sheet's map of postbytes, 16 to a row: 00 to 7F have their offset in five bits
abbrev sheet_bytes : List ℕ
sheet_bytes =
    replicate 128 1
    ++ (1 ∷ 1 ∷ 1 ∷ 1 ∷ 1 ∷ 1 ∷ 1 ∷ 0 ∷ 2 ∷ 3 ∷ 0 ∷ 1 ∷ 2 ∷ 3 ∷ 0 ∷ 0 ∷ [])
    ++ (0 ∷ 1 ∷ 0 ∷ 1 ∷ 1 ∷ 1 ∷ 1 ∷ 0 ∷ 2 ∷ 3 ∷ 0 ∷ 1 ∷ 2 ∷ 3 ∷ 0 ∷ 3 ∷ [])
    ++ (1 ∷ 1 ∷ 1 ∷ 1 ∷ 1 ∷ 1 ∷ 1 ∷ 0 ∷ 2 ∷ 3 ∷ 0 ∷ 1 ∷ 2 ∷ 3 ∷ 0 ∷ 0 ∷ [])
    ++ (0 ∷ 1 ∷ 0 ∷ 1 ∷ 1 ∷ 1 ∷ 1 ∷ 0 ∷ 2 ∷ 3 ∷ 0 ∷ 1 ∷ 2 ∷ 3 ∷ 0 ∷ 0 ∷ [])
    ++ (1 ∷ 1 ∷ 1 ∷ 1 ∷ 1 ∷ 1 ∷ 1 ∷ 0 ∷ 2 ∷ 3 ∷ 0 ∷ 1 ∷ 2 ∷ 3 ∷ 0 ∷ 0 ∷ [])
    ++ (0 ∷ 1 ∷ 0 ∷ 1 ∷ 1 ∷ 1 ∷ 1 ∷ 0 ∷ 2 ∷ 3 ∷ 0 ∷ 1 ∷ 2 ∷ 3 ∷ 0 ∷ 0 ∷ [])
    ++ (1 ∷ 1 ∷ 1 ∷ 1 ∷ 1 ∷ 1 ∷ 1 ∷ 0 ∷ 2 ∷ 3 ∷ 0 ∷ 1 ∷ 2 ∷ 3 ∷ 0 ∷ 0 ∷ [])
    ++ (0 ∷ 1 ∷ 0 ∷ 1 ∷ 1 ∷ 1 ∷ 1 ∷ 0 ∷ 2 ∷ 3 ∷ 0 ∷ 1 ∷ 2 ∷ 3 ∷ 0 ∷ 0 ∷ [])

pub lengths : map (λ p. bytes_of (shape_of p)) (from 0 256) ≡ sheet_bytes
unfolding shape_of high_of direct_only address_only pick
lengths = refl

-- what a postbyte means with two bytes after it
abbrev pub filled : ℕ → ℕ → Result Shape Refusal → Result Addressing Refusal
filled b c (Ok s) = Ok (fill_of s b c)
filled b c (Err n) = Err n

-- "Five-bit zero is read as offset zero", as 84, A4, C4 and E4 are
pub five_bit_zero :
    (b c : ℕ) →
    (map (λ p. filled b c (shape_of p)) (0x00 ∷ 0x20 ∷ 0x40 ∷ 0x60 ∷ []) ≡ map (λ r. Ok (Offset r false 0)) (X ∷ Y ∷ U ∷ S ∷ []))
    × (map (λ p. filled b c (shape_of p)) (0x84 ∷ 0xA4 ∷ 0xC4 ∷ 0xE4 ∷ []) ≡ map (λ r. Ok (Offset r false 0)) (X ∷ Y ∷ U ∷ S ∷ []))
unfolding shape_of high_of extended pick
five_bit_zero b c = (refl, refl)
