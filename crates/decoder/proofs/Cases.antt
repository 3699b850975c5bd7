-- Cases of the definitions under a single statement: document 01's run, its forms of LDA and BRA read, the boundaries of each refusal, and direct codes
-- under known pages and under none. And a kind loses nothing in its number and values.
-- Assumes nothing.
use mathlib.Core.Path.{◌≡◌, refl}
use mathlib.Core.Bool.{true, false}
use mathlib.Core.List.{List, [], ◌∷◌, ◌++◌, map}
use Prim.Native.Nat.{ℕ}
use lib.Dec.{eqb}
use lib.ListN.{get_or}
use Rattle.std.specs.Prelude.{Option, Some, None, Result, Ok, Err}
use Rattle.ground.specs.Choice.{pick}
use Rattle.ground.specs.declared.refusals.Refusal.{Refusal}
use Rattle.ground.specs.declared.refusals.Refusal.TheVariants.{Undefined, CutShort, Beyond}
use Rattle.values.specs.Widths.{extended}
use Rattle.values.specs.declared.pages.Page.{Page}
use Rattle.values.specs.declared.pages.Page.TheVariants.{Unknown, Known}
use Rattle.rows.specs.Sheet.{page0, page10, page11, table_of}
use Rattle.rows.specs.Lookup.{row_of}
use Rattle.rows.specs.Sizes.{is_wide, is_long, number_at}
use Rattle.postbytes.specs.declared.Addressing.{Addressing}
use Rattle.postbytes.specs.declared.Addressing.TheVariants as addressing
use Rattle.postbytes.specs.Registers.{A, X, Y, U, S, DP}
use Rattle.postbytes.specs.Reading.{direct_only, address_only, high_of, shape_of, values_of_addressing}
use Rattle.postbytes.specs.Lists.{other_of, size_of}
use Rattle.postbytes.specs.ListsRead.{registers_of, pair_of}
use Rattle.decoder.specs.declared.Origin.{Origin}
use Rattle.decoder.specs.declared.Parts.{Parts}
use Rattle.decoder.specs.declared.Kind.{Kind}
use Rattle.decoder.specs.declared.Kind.TheVariants.{Inherent, Immediate, Memory, Branch, Push, Pair, Offset, Counter, Accumulator, Step, Address}
use Rattle.decoder.specs.Origin.{origin, shifted, outside, target_of, direct_of, unseen}
use Rattle.decoder.specs.Meaning.{Answer, answer, joined, parts_of}
use Rattle.decoder.specs.Operands.{number_of, distance_of, numbered_of, numbered_at, resolved, indexed_as, indexed_at, own_of, registers_at, operand_of}
use Rattle.decoder.specs.Front.{coded_of, front_of, decode_of}
use Rattle.decoder.specs.Run.{run_from, run_of, counted_of, next_of}

-- bytes at an address, of which the front is read, a whole run, or the instruction at a place of a run, or instructions are counted
pub data Question : Type 0 where
  front : List ℕ → ℕ → Question
  run : List ℕ → ℕ → Question
  next : List ℕ → ℕ → ℕ → Question
  count : List ℕ → ℕ → Question

pub data Told : Type 0 where
  all : List Answer → Told
  counted : Result ℕ Refusal → Told

abbrev only : Answer → Told
only d = all (d ∷ [])

abbrev ask : Page → Question → Told
ask page (front l at) = only (decode_of l (origin at page))
ask page (run l at) = all (run_of l (origin at page))
ask page (next l at n) = only (next_of l (origin at page) n)
ask page (count l at) = counted (counted_of (run_of l (origin at page)))

abbrev asked : List Question
asked =
    -- the run of 01's text
    run (0xA6 ∷ 0x84 ∷ 0x39 ∷ []) 0x0100
    ∷ next (0xA6 ∷ 0x84 ∷ 0x39 ∷ []) 0x0100 2
    -- LDA: 0,X, 15,Y, -16,U, -17,U, 128,S, [5,X], five-bit zero, t,PCR twice; $FF direct and extended
    ∷ front (0xA6 ∷ 0x84 ∷ []) 0 ∷ front (0xA6 ∷ 0x2F ∷ []) 0 ∷ front (0xA6 ∷ 0x50 ∷ []) 0
    ∷ front (0xA6 ∷ 0xC8 ∷ 0xEF ∷ []) 0 ∷ front (0xA6 ∷ 0xE9 ∷ 0x00 ∷ 0x80 ∷ []) 0 ∷ front (0xA6 ∷ 0x98 ∷ 0x05 ∷ []) 0
    ∷ front (0xA6 ∷ 0x00 ∷ []) 0
    ∷ front (0xA6 ∷ 0x8C ∷ 0x7F ∷ []) 0x0100 ∷ front (0xA6 ∷ 0x8D ∷ 0x00 ∷ 0x7F ∷ []) 0x0100
    ∷ front (0x96 ∷ 0xFF ∷ []) 0 ∷ front (0xB6 ∷ 0x00 ∷ 0xFF ∷ []) 0
    -- its PC forms with the open bits set: of one byte and of two, then indirect and backwards
    ∷ front (0xA6 ∷ 0xAC ∷ 0x7F ∷ []) 0x0100 ∷ front (0xA6 ∷ 0xCC ∷ 0x7F ∷ []) 0x0100 ∷ front (0xA6 ∷ 0xEC ∷ 0x7F ∷ []) 0x0100
    ∷ front (0xA6 ∷ 0xAD ∷ 0x00 ∷ 0x7F ∷ []) 0x0100 ∷ front (0xA6 ∷ 0xCD ∷ 0x00 ∷ 0x7F ∷ []) 0x0100 ∷ front (0xA6 ∷ 0xED ∷ 0x00 ∷ 0x7F ∷ []) 0x0100
    ∷ front (0xA6 ∷ 0xBC ∷ 0x80 ∷ []) 0x0100 ∷ front (0xA6 ∷ 0xDC ∷ 0x80 ∷ []) 0x0100 ∷ front (0xA6 ∷ 0xFC ∷ 0x80 ∷ []) 0x0100
    ∷ front (0xA6 ∷ 0xBD ∷ 0xFF ∷ 0x00 ∷ []) 0x0100 ∷ front (0xA6 ∷ 0xDD ∷ 0xFF ∷ 0x00 ∷ []) 0x0100 ∷ front (0xA6 ∷ 0xFD ∷ 0xFF ∷ 0x00 ∷ []) 0x0100
    -- BRA at 0100 to 0181, 0182, 0082, 0081; at the end of memory to itself, and around
    ∷ front (0x20 ∷ 0x7F ∷ []) 0x0100 ∷ front (0x16 ∷ 0x00 ∷ 0x7F ∷ []) 0x0100
    ∷ front (0x20 ∷ 0x80 ∷ []) 0x0100 ∷ front (0x16 ∷ 0xFF ∷ 0x7E ∷ []) 0x0100
    ∷ front (0x20 ∷ 0xFE ∷ []) 0xFFFE ∷ front (0x20 ∷ 0x00 ∷ []) 0xFFFE
    -- immediates of both sizes; LDY [$1234], five bytes; LDA A,X and ,--Y
    ∷ front (0x86 ∷ 0xFF ∷ []) 0 ∷ front (0x11 ∷ 0x83 ∷ 0x12 ∷ 0x34 ∷ []) 0
    ∷ front (0x10 ∷ 0xAE ∷ 0x9F ∷ 0x12 ∷ 0x34 ∷ []) 0 ∷ front (0xA6 ∷ 0x86 ∷ []) 0 ∷ front (0xA6 ∷ 0xA3 ∷ []) 0
    -- PSHS of all, PSHU S, TFR A,DP
    ∷ front (0x34 ∷ 0xFF ∷ []) 0 ∷ front (0x36 ∷ 0x40 ∷ []) 0 ∷ front (0x1F ∷ 0x8B ∷ []) 0
    -- undefined: a code, a second prefix, a postbyte, extended indirect with register bits, registers of two sizes
    ∷ front (0x01 ∷ []) 0 ∷ front (0x10 ∷ 0x10 ∷ []) 0 ∷ front (0x11 ∷ 0x10 ∷ []) 0 ∷ front (0xA6 ∷ 0x87 ∷ []) 0
    ∷ front (0xA6 ∷ 0xBF ∷ 0x12 ∷ 0x34 ∷ []) 0 ∷ front (0xA6 ∷ 0xDF ∷ 0x12 ∷ 0x34 ∷ []) 0 ∷ front (0xA6 ∷ 0xFF ∷ 0x12 ∷ 0x34 ∷ []) 0
    ∷ front (0x1E ∷ 0x18 ∷ []) 0
    -- cut short: no bytes, a lone prefix, a code, a postbyte, one with open bits; past the end of a run
    ∷ front [] 0 ∷ front (0x10 ∷ []) 0 ∷ front (0x11 ∷ []) 0 ∷ front (0xA6 ∷ []) 0 ∷ front (0xA6 ∷ 0x89 ∷ 0x00 ∷ []) 0
    ∷ front (0xA6 ∷ 0xAC ∷ []) 0 ∷ front (0xA6 ∷ 0xFD ∷ 0x00 ∷ []) 0
    ∷ next (0x12 ∷ []) 0 1
    -- beyond 65535, before all else; up to it; a run of nothing; a refused one is the last
    ∷ front (0x12 ∷ 0x12 ∷ []) 0xFFFF ∷ front (0x01 ∷ 0x12 ∷ []) 0xFFFF ∷ front (0x12 ∷ []) 0xFFFF
    ∷ run (0x12 ∷ 0x12 ∷ []) 0xFFFF ∷ run [] 0xFFFF ∷ run (0x12 ∷ 0x01 ∷ 0x12 ∷ []) 0
    ∷ []

-- LDA direct between two NOPs
abbrev between : List ℕ
between = 0x12 ∷ 0x96 ∷ 0x05 ∷ 0x12 ∷ []

-- asked under each of three pages
abbrev paged : List Question
paged =
    -- LDA direct, its code alone, the code of LDY direct, its prefix alone; LDA extended
    front (0x96 ∷ 0x05 ∷ []) 0 ∷ front (0x96 ∷ []) 0 ∷ front (0x10 ∷ 0x9E ∷ []) 0 ∷ front (0x10 ∷ []) 0
    ∷ front (0xB6 ∷ 0x20 ∷ 0x05 ∷ []) 0
    -- beyond 65535
    ∷ front (0x96 ∷ 0x05 ∷ []) 0xFFFF
    -- a run with a direct code in its middle: whole, at that code and behind it, counted
    ∷ run between 0 ∷ next between 0 1 ∷ next between 0 3 ∷ count between 0
    ∷ []

abbrev answered : List Told
answered =
    all (answer 2 54 (Offset X false 0) ∷ answer 1 128 Inherent ∷ [])
    ∷ only (answer 1 128 Inherent)
    ∷ only (answer 2 54 (Offset X false 0)) ∷ only (answer 2 54 (Offset Y false 15)) ∷ only (answer 2 54 (Offset U false 0xFFF0))
    ∷ only (answer 3 54 (Offset U false 0xFFEF)) ∷ only (answer 4 54 (Offset S false 128)) ∷ only (answer 3 54 (Offset X true 5))
    ∷ only (answer 2 54 (Offset X false 0))
    ∷ only (answer 3 54 (Counter false 0x0182)) ∷ only (answer 4 54 (Counter false 0x0183))
    ∷ only (answer 2 54 (Memory 0xFF)) ∷ only (answer 3 54 (Memory 0xFF))
    ∷ only (answer 3 54 (Counter false 0x0182)) ∷ only (answer 3 54 (Counter false 0x0182)) ∷ only (answer 3 54 (Counter false 0x0182))
    ∷ only (answer 4 54 (Counter false 0x0183)) ∷ only (answer 4 54 (Counter false 0x0183)) ∷ only (answer 4 54 (Counter false 0x0183))
    ∷ only (answer 3 54 (Counter true 0x0083)) ∷ only (answer 3 54 (Counter true 0x0083)) ∷ only (answer 3 54 (Counter true 0x0083))
    ∷ only (answer 4 54 (Counter true 0x0004)) ∷ only (answer 4 54 (Counter true 0x0004)) ∷ only (answer 4 54 (Counter true 0x0004))
    ∷ only (answer 2 80 (Branch 0x0181)) ∷ only (answer 3 96 (Branch 0x0182))
    ∷ only (answer 2 80 (Branch 0x0082)) ∷ only (answer 3 96 (Branch 0x0081))
    ∷ only (answer 2 80 (Branch 0xFFFE)) ∷ only (answer 2 80 (Branch 0))
    ∷ only (answer 2 54 (Immediate 0xFF)) ∷ only (answer 4 121 (Immediate 0x1234))
    ∷ only (answer 5 116 (Address 0x1234)) ∷ only (answer 2 54 (Accumulator X false A)) ∷ only (answer 2 54 (Step Y false 4))
    ∷ only (answer 2 138 (Push 0x3BB)) ∷ only (answer 2 140 (Push 0x40)) ∷ only (answer 2 137 (Pair A DP))
    ∷ only (Err Undefined) ∷ only (Err Undefined) ∷ only (Err Undefined) ∷ only (Err Undefined)
    ∷ only (Err Undefined) ∷ only (Err Undefined) ∷ only (Err Undefined)
    ∷ only (Err Undefined)
    ∷ only (Err CutShort) ∷ only (Err CutShort) ∷ only (Err CutShort) ∷ only (Err CutShort) ∷ only (Err CutShort)
    ∷ only (Err CutShort) ∷ only (Err CutShort)
    ∷ only (Err CutShort)
    ∷ only (Err Beyond) ∷ only (Err Beyond) ∷ only (answer 1 124 Inherent)
    ∷ only (Err Beyond) ∷ all [] ∷ all (answer 1 124 Inherent ∷ Err Undefined ∷ [])
    ∷ []

-- under a known page, where the byte 05 stands for that address
abbrev known : ℕ → List Told
known address =
    only (answer 2 54 (Memory address)) ∷ only (Err CutShort) ∷ only (Err CutShort) ∷ only (Err CutShort)
    ∷ only (answer 3 54 (Memory 0x2005))
    ∷ only (Err Beyond)
    ∷ all (answer 1 124 Inherent ∷ answer 2 54 (Memory address) ∷ answer 1 124 Inherent ∷ [])
    ∷ only (answer 2 54 (Memory address)) ∷ only (answer 1 124 Inherent)
    ∷ counted (Ok 3)
    ∷ []

abbrev unknown : List Told
unknown =
    only (Err Undefined) ∷ only (Err Undefined) ∷ only (Err Undefined) ∷ only (Err CutShort)
    ∷ only (answer 3 54 (Memory 0x2005))
    ∷ only (Err Beyond)
    ∷ all (answer 1 124 Inherent ∷ Err Undefined ∷ []) ∷ only (Err Undefined) ∷ only (answer 1 124 Inherent)
    ∷ counted (Err Undefined)
    ∷ []

pub cases :
    map (ask (Known 0)) (asked ++ paged) ++ map (ask (Known 0x20)) paged ++ map (ask Unknown) paged
    ≡ answered ++ known 0x0005 ++ known 0x2005 ++ unknown
unfolding decode_of run_of counted_of next_of run_from front_of coded_of joined operand_of indexed_at indexed_as registers_at numbered_at numbered_of number_of distance_of own_of shifted outside target_of direct_of unseen row_of table_of page0 page10 page11 is_wide is_long number_at shape_of high_of direct_only address_only registers_of pair_of other_of size_of extended pick
cases = refl

-- ---- a kind from its number and values
abbrev kind_of : Parts → Option Kind
kind_of p =
    pick (eqb p.kind 1) (Some Inherent)
    (pick (eqb p.kind 2) (Some (Immediate p.number))
    (pick (eqb p.kind 3) (Some (Memory p.number))
    (pick (eqb p.kind 4) (Some (Branch p.number))
    (pick (eqb p.kind 5) (Some (Push p.registers))
    (pick (eqb p.kind 6) (Some (Pair p.first p.second))
    (pick (eqb p.kind 7) (Some (Offset p.first p.indirect p.number))
    (pick (eqb p.kind 8) (Some (Counter p.indirect p.number))
    (pick (eqb p.kind 9) (Some (Accumulator p.first p.indirect p.second))
    (pick (eqb p.kind 10) (Some (Step p.first p.indirect p.step))
    (pick (eqb p.kind 11) (Some (Address p.number))
    None))))))))))

pub parts_tell : (k : Kind) → kind_of (parts_of k) ≡ Some k
unfolding pick
parts_tell Inherent = refl
parts_tell (Immediate n) = refl
parts_tell (Memory a) = refl
parts_tell (Branch t) = refl
parts_tell (Push rs) = refl
parts_tell (Pair s d) = refl
parts_tell (Offset r ind n) = refl
parts_tell (Counter ind t) = refl
parts_tell (Accumulator r ind a) = refl
parts_tell (Step r ind k) = refl
parts_tell (Address a) = refl

-- an indexed operand has the same number of its kind where its postbyte is read and in the instruction's meaning
pub kinds_alike : (a : Addressing) (from : Origin) → get_or (values_of_addressing a) 0 0 ≡ (parts_of (resolved a from)).kind
kinds_alike (addressing.Offset r ind n) from = refl
kinds_alike (addressing.Counter ind n) from = refl
kinds_alike (addressing.Accumulator r ind a) from = refl
kinds_alike (addressing.Step r ind k) from = refl
kinds_alike (addressing.Address a) from = refl
