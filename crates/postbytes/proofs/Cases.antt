-- 01's cases for postbytes, and the sheet's bits and codes one by one, of the definitions.
-- Assumes nothing.
use mathlib.Core.Path.{◌≡◌, refl}
use mathlib.Core.Bool.{true, false}
use mathlib.Core.List.{List, [], ◌∷◌, map}
use Prim.Native.Nat.{ℕ}
use lib.ListN.{length}
use Rattle.std.specs.Prelude.{Result, Ok, Err}
use Rattle.ground.specs.Choice.{pick}
use Rattle.ground.specs.declared.refusals.Refusal.{Refusal}
use Rattle.ground.specs.declared.refusals.Refusal.TheVariants.{Unknown, BadRegister, SingleStepIndirect}
use Rattle.values.specs.declared.Value.{Value}
use Rattle.values.specs.Widths.{bits_of, extended, valid_of, sign_extended_of}
use Rattle.postbytes.specs.declared.Encoded.{Encoded}
use Rattle.postbytes.specs.declared.Index.{Index}
use Rattle.postbytes.specs.declared.Index.TheVariants.{Offset, Step}
use Rattle.postbytes.specs.Registers.{A, B, D, X, Y, U, S, PC, CC, DP}
use Rattle.postbytes.specs.Lists.{any_unknown, strange_list, among, other_of, size_of}
use Rattle.postbytes.specs.Writing.{alone, with_byte, with_word, marked, sized_of, constant_of, offset_of, step_of, encode_of, relative_of}
use Rattle.postbytes.specs.ListsWritten.{push_byte_of, push_of, code_of, paired_of}

pub data Question : Type 0 where
  operand : Index → Question
  target : ℕ → Question

abbrev value : ℕ → ℕ → Value
value width n = record { number = n; width = width }

-- the code A6 stands at 0100, so the postbyte at 0101
abbrev ask : Question → Result Encoded Refusal
ask (operand i) = encode_of i
ask (target t) = Ok (relative_of t 0x0101 false)

-- 0,X; 15,Y; 8-bit 16,Y; -16,U of either width; 8-bit -17,U; 16-bit 128,S; 8-bit [5,X]; t,PCR; [,X+]
abbrev asked : List Question
asked =
    operand (Offset X false (value 8 0)) ∷
    operand (Offset Y false (value 8 15)) ∷
    operand (Offset Y false (value 8 16)) ∷
    operand (Offset U false (value 8 0xF0)) ∷
    operand (Offset U false (value 16 0xFFF0)) ∷
    operand (Offset U false (value 8 0xEF)) ∷
    operand (Offset S false (value 16 128)) ∷
    operand (Offset X true (value 8 5)) ∷
    target 0x0182 ∷
    target 0x0183 ∷
    operand (Step X true 1) ∷
    []

abbrev answered : List (Result Encoded Refusal)
answered =
    Ok (alone 0x84) ∷
    Ok (alone 0x2F) ∷
    Ok (with_byte 0xA8 0x10) ∷
    Ok (alone 0x50) ∷
    Ok (alone 0x50) ∷
    Ok (with_byte 0xC8 0xEF) ∷
    Ok (with_word 0xE9 0x0080) ∷
    Ok (with_byte 0x98 0x05) ∷
    Ok (with_byte 0x8C 0x7F) ∷
    Ok (with_word 0x8D 0x007F) ∷
    Err SingleStepIndirect ∷
    []

pub cases : map ask asked ≡ answered
unfolding marked sized_of constant_of offset_of step_of relative_of bits_of extended valid_of sign_extended_of pick
cases = refl

-- a push of S's or U's, and a pair, of the registers named
pub data List-question : Type 0 where
  pushed : ℕ → List ℕ → List-question
  paired : List ℕ → List-question

abbrev ask_list : List-question → Result ℕ Refusal
ask_list (pushed own list) = push_of own list (length list)
ask_list (paired list) = paired_of list (length list)

-- the boxes of PSHS from bit 7 to bit 0 and S's box of PSHU; D, and A twice; refused, the own pointer, no register, and an unknown one before that;
-- then pairs; refused, two of unequal size, and three
pub list_cases :
    map ask_list
    (pushed S (PC ∷ []) ∷
    pushed S (U ∷ []) ∷
    pushed S (Y ∷ []) ∷
    pushed S (X ∷ []) ∷
    pushed S (DP ∷ []) ∷
    pushed S (B ∷ []) ∷
    pushed S (A ∷ []) ∷
    pushed S (CC ∷ []) ∷
    pushed U (S ∷ []) ∷
    pushed S (D ∷ []) ∷
    pushed S (A ∷ D ∷ A ∷ []) ∷
    pushed S (S ∷ []) ∷
    pushed U [] ∷
    pushed S (S ∷ 10 ∷ []) ∷
    paired (A ∷ B ∷ []) ∷
    paired (D ∷ X ∷ []) ∷
    paired (PC ∷ Y ∷ []) ∷
    paired (CC ∷ DP ∷ []) ∷
    paired (U ∷ S ∷ []) ∷
    paired (A ∷ X ∷ []) ∷
    paired (A ∷ B ∷ A ∷ []) ∷
    [])
    ≡ Ok 0x80 ∷
    Ok 0x40 ∷
    Ok 0x20 ∷
    Ok 0x10 ∷
    Ok 0x08 ∷
    Ok 0x04 ∷
    Ok 0x02 ∷
    Ok 0x01 ∷
    Ok 0x40 ∷
    Ok 0x06 ∷
    Ok 0x06 ∷
    Err BadRegister ∷
    Err BadRegister ∷
    Err Unknown ∷
    Ok 0x89 ∷
    Ok 0x01 ∷
    Ok 0x52 ∷
    Ok 0xAB ∷
    Ok 0x34 ∷
    Err BadRegister ∷
    Err BadRegister ∷
    []
unfolding push_of push_byte_of paired_of code_of any_unknown strange_list among other_of size_of pick
list_cases = refl
