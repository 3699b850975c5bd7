-- The two bits xx of a PC form, the sheet's "don't care": read as the same form whatever they say, and written as zeros.
-- Assumes nothing.
use mathlib.Core.Path.{◌≡◌, refl, sym, ap, ◌∙◌}
use mathlib.Core.Bool.{Bool, true, false, not, true≢false}
use mathlib.Core.List.{[], ◌∷◌, map, append-nil}
use Prim.Native.Nat.{ℕ, ◌/◌, ◌%◌}
use lib.Dec.{eqb}
use lib.ListN.{get_or, replicate}
use Rattle.std.specs.Prelude.{Result, Ok, Err, IfOk}
use Rattle.ground.specs.Choice.{pick}
use Rattle.ground.specs.declared.refusals.Refusal.{Refusal}
use Rattle.ground.specs.declared.refusals.Refusal.TheVariants.{Undefined}
use Rattle.ground.specs.Words.{plus, minus}
use Rattle.ground.proofs.Choices.{by_pick}
use Rattle.values.specs.Widths.{valid_of}
use Rattle.postbytes.specs.declared.Encoded.{Encoded}
use Rattle.postbytes.specs.declared.Index.{Index}
use Rattle.postbytes.specs.declared.Index.TheVariants.{Offset, Counter, Accumulator, Step, Address}
use Rattle.postbytes.specs.declared.Shape.{Shape}
use Rattle.postbytes.specs.declared.Shape.TheVariants.{CounterByte, CounterWord}
use Rattle.postbytes.specs.declared.Addressing.{Addressing}
use Rattle.postbytes.specs.Writing.{written, marked, sized_of, counter_of, encode_of, near_of, relative_of}
use Rattle.postbytes.specs.Reading.{address_only, high_of, shape_of, values_of_shape, values_of_addressing}
use Rattle.postbytes.specs.Meanings.{meaning_of}
use Rattle.postbytes.proofs.Told.{filled_kind}
use Rattle.postbytes.proofs.Round.{Back, read_back}

-- 02: "all four register settings are read as the same PC form": 1xx01100, 1xx01101, 1xx11100, 1xx11101
pub open_bits :
    (map shape_of (0x8C ∷ 0xAC ∷ 0xCC ∷ 0xEC ∷ []) ≡ replicate 4 (Ok (CounterByte false)))
    × (map shape_of (0x8D ∷ 0xAD ∷ 0xCD ∷ 0xED ∷ []) ≡ replicate 4 (Ok (CounterWord false)))
    × (map shape_of (0x9C ∷ 0xBC ∷ 0xDC ∷ 0xFC ∷ []) ≡ replicate 4 (Ok (CounterByte true)))
    × (map shape_of (0x9D ∷ 0xBD ∷ 0xDD ∷ 0xFD ∷ []) ≡ replicate 4 (Ok (CounterWord true)))
unfolding shape_of high_of pick
open_bits = (refl, refl, refl, refl)

-- the sheet leaves no bit of 10011111 open
pub no_open_bits : map shape_of (0xBF ∷ 0xDF ∷ 0xFF ∷ []) ≡ replicate 3 (Err Undefined)
unfolding shape_of high_of address_only pick
no_open_bits = refl

-- "The encoder still writes zeros there": where what was written is a PC form, of kind 8, its postbyte has xx = 00
abbrev pub Zeros : Encoded → Type 0
Zeros e =
    (s : Shape) →
    shape_of (get_or (written e) 0 0) ≡ Ok s →
    get_or (values_of_shape s) 0 0 ≡ 8 →
    get_or (written e) 0 0 / 32 % 4 ≡ 0

-- an operand of another kind is read back as that kind
other_kind : (i : Index) → eqb (get_or (values_of_addressing (meaning_of i)) 0 0) 8 ≡ false → IfOk (encode_of i) Zeros
other_kind i k = go (encode_of i) (read_back i)
  where
    go : (r : Result Encoded Refusal) → IfOk r (λ e. Back e (meaning_of i)) → IfOk r Zeros
    go (Err n) b = tt
    go (Ok e) b = λ s is h.
        let l = written e in
        let kind : Addressing → ℕ = λ a. get_or (values_of_addressing a) 0 0 in
        let back = rw (append-nil l) at (b []) in
        let same = sym back.defined ∙ is in
        let shape : back.shape ≡ s = cc in
        let eight : kind (meaning_of i) ≡ 8 =
        ap kind (sym back.reads) ∙ filled_kind back.shape (get_or l 1 0) (get_or l 2 0) ∙ ap (λ (x : Shape). get_or (values_of_shape x) 0 0) shape ∙ h
        in
        absurd (true≢false (rw eight at k))

-- 8C, 9C; 8D, 9D
clear : (ind : Bool) → (marked ind 0x8C / 32 % 4 ≡ 0) × (marked ind 0x8D / 32 % 4 ≡ 0)
unfolding marked pick
clear true = (refl, refl)
clear false = (refl, refl)

pub zeros_written : (i : Index) → IfOk (encode_of i) Zeros
unfolding counter_of sized_of
zeros_written (Offset r ind v) = other_kind (Offset r ind v) refl
zeros_written (Counter ind v) =
    by_pick (λ (r : Result Encoded Refusal). IfOk r Zeros) (not (valid_of v)) tt
    (by_pick Zeros (eqb v.width 8) (λ _ _ _. (clear ind).0) (λ _ _ _. (clear ind).1))
zeros_written (Accumulator r ind a) = other_kind (Accumulator r ind a) refl
zeros_written (Step r ind k) = other_kind (Step r ind k) refl
zeros_written (Address address) = other_kind (Address address) refl

pub zeros_relative : (target after : ℕ) (ind : Bool) → Zeros (relative_of target after ind)
unfolding relative_of
zeros_relative target after ind =
    by_pick Zeros (near_of (minus target (plus after 2))) (λ _ _ _. (clear ind).0) (λ _ _ _. (clear ind).1)
