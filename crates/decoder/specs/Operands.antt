-- The operand after a code, by the sheet: which bytes are its own, and what they mean.
-- "14 as soon as the bytes present are undefined, else 15".
use Rattle.std.specs.Prelude.{ℕ, ◌+◌, Bool, ◌||◌, List, eqb, ltb, leb, length, get_or, Result, Ok, Err}
use Rattle.ground.specs.Choice.{pick}
use Rattle.ground.specs.declared.refusals.Refusal.{Refusal}
use Rattle.ground.specs.declared.refusals.Refusal.TheVariants.{Undefined, CutShort}
use Rattle.ground.specs.Words.{low, word}
use Rattle.values.specs.Widths.{extended}
use Rattle.rows.specs.Forms as forms
use Rattle.postbytes.specs.declared.Shape.{Shape}
use Rattle.postbytes.specs.declared.Addressing.{Addressing}
use Rattle.postbytes.specs.declared.Addressing.TheVariants as addressing
use Rattle.postbytes.specs.declared.Pair as pair
use Rattle.postbytes.specs.Registers.{U, S}
use Rattle.postbytes.specs.ListsRead.{registers_of, pair_of}
use Rattle.postbytes.specs.Reading.{shape_of, extra_of, fill_of}
use Rattle.decoder.specs.declared.Origin.{Origin}
use Rattle.decoder.specs.declared.operands.Rest.{Rest}
use Rattle.decoder.specs.declared.operands.Reading.{Reading}
use Rattle.decoder.specs.declared.Kind.{Kind}
use Rattle.decoder.specs.declared.Kind.TheVariants.{Inherent, Immediate, Memory, Branch, Push, Pair, Offset, Counter, Accumulator, Step, Address}
use Rattle.decoder.specs.Origin.{shifted, target_of, direct_of, unseen}
use Rattle.decoder.specs.Meaning.{reading}

-- some bytes: how many there are, and the first three
abbrev pub rest_of : List ℕ → Rest
rest_of l = record { left = length l; first = get_or l 0 0; second = get_or l 1 0; third = get_or l 2 0 }

-- the number in the first bytes, so many of them: none, one, or two, high byte first
unfoldable pub number_of : (size : ℕ) → Rest → ℕ
number_of size r = pick (eqb size 0) 0 (pick (eqb size 1) r.first (word r.first r.second))

-- the distance of a branch: one byte is sign-extended
unfoldable pub distance_of : (size n : ℕ) → ℕ
distance_of size n = pick (eqb size 1) (extended 8 (low n)) n

-- a number by its form; inherent has none
unfoldable pub numbered_of : (form size n : ℕ) → Origin → Kind
numbered_of form size n after =
    pick (eqb form forms.immediate) (Immediate n)
    (pick (eqb form forms.direct) (Memory (direct_of after n))
    (pick (eqb form forms.extended) (Memory n)
    (pick (eqb form forms.relative) (Branch (target_of (shifted after size) (distance_of size n)))
    Inherent)))

-- the operand that is a number of so many bytes, after the code; what is unseen is so before its bytes are there
unfoldable pub numbered_at : (form size : ℕ) → Rest → Origin → Result Reading Refusal
numbered_at form size r after =
    pick (unseen form after) (Err Undefined)
    (pick (ltb r.left size) (Err CutShort) (reading size (numbered_of form size (number_of size r) after)))

-- what a postbyte means: "offset from PC and PCRelative are one kind; every PC form .. has its target"
abbrev pub resolved : Addressing → Origin → Kind
resolved (addressing.Offset r ind n) next = Offset r ind n
resolved (addressing.Counter ind n) next = Counter ind (target_of next n)
resolved (addressing.Accumulator r ind a) next = Accumulator r ind a
resolved (addressing.Step r ind k) next = Step r ind k
resolved (addressing.Address a) next = Address a

-- a postbyte and the bytes that the sheet gives it
unfoldable pub indexed_as : Result Shape Refusal → Rest → Origin → Result Reading Refusal
indexed_as (Ok s) r after =
    pick (ltb r.left (1 + extra_of s)) (Err CutShort)
    (reading (1 + extra_of s) (resolved (fill_of s r.second r.third) (shifted after (1 + extra_of s))))
indexed_as (Err refusal) r after = Err refusal

unfoldable pub indexed_at : Rest → Origin → Result Reading Refusal
indexed_at r after = pick (eqb r.left 0) (Err CutShort) (indexed_as (shape_of r.first) r after)

-- EXG and TFR; the other operations with a list of registers push or pull
abbrev pub is_pair : ℕ → Bool
is_pair o = eqb o 136 || eqb o 137

-- PSHS and PULS work on S, PSHU and PULU on U
unfoldable pub own_of : ℕ → ℕ
own_of o = pick (leb 140 o) U S

-- "14 for other EXG/TFR codes or unequal sizes"
abbrev pub paired_as : Result pair.Pair Refusal → Result Reading Refusal
paired_as (Ok p) = reading 1 (Pair p.source p.destination)
paired_as (Err refusal) = Err refusal

-- "Decoding reads every push list"; "registers (a set for pushes)"
unfoldable pub registers_at : ℕ → Rest → Result Reading Refusal
registers_at o r =
    pick (eqb r.left 0) (Err CutShort)
    (pick (is_pair o) (paired_as (pair_of r.first))
    (reading 1 (Push (registers_of (own_of o) r.first))))

-- the operand of an operation in a form: a postbyte, a list of registers, or a number of so many bytes
unfoldable pub operand_of : (o form size : ℕ) → Rest → Origin → Result Reading Refusal
operand_of o form size r after =
    pick (eqb form forms.indexed) (indexed_at r after)
    (pick (eqb form forms.register) (registers_at o r)
    (numbered_at form size r after))
