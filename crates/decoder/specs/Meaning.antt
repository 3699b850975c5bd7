-- 01, "Meaning": "Operation .., addressing kind, then only what that form uses". The number and the values of each kind, and the decoder's answers.
use Rattle.std.specs.Prelude.{ℕ, ◌+◌, Bool, false, Result, Ok, Err}
use Rattle.ground.specs.declared.refusals.Refusal.{Refusal}
use Rattle.decoder.specs.declared.Kind.{Kind}
use Rattle.decoder.specs.declared.Kind.TheVariants.{Inherent, Immediate, Memory, Branch, Push, Pair, Offset, Counter, Accumulator, Step, Address}
use Rattle.decoder.specs.declared.operands.Reading.{Reading}
use Rattle.decoder.specs.declared.Decoded.{Decoded}
use Rattle.decoder.specs.declared.Parts.{Parts}

-- a kind's number, then indirect, step, a set of registers, one or two registers in order, and a number
abbrev pub parts : (kind : ℕ) (indirect : Bool) (step registers first second number : ℕ) → Parts
parts kind indirect step registers first second number =
    record { kind = kind; indirect = indirect; step = step; registers = registers; first = first; second = second; number = number }

-- the kinds as docs/ROWS.md numbers them; what a kind does not use is 0
abbrev pub parts_of : Kind → Parts
parts_of Inherent = parts 1 false 0 0 0 0 0
parts_of (Immediate number) = parts 2 false 0 0 0 0 number
parts_of (Memory address) = parts 3 false 0 0 0 0 address
parts_of (Branch target) = parts 4 false 0 0 0 0 target
parts_of (Push registers) = parts 5 false 0 registers 0 0 0
parts_of (Pair source destination) = parts 6 false 0 0 source destination 0
parts_of (Offset register indirect offset) = parts 7 indirect 0 0 register 0 offset
parts_of (Counter indirect target) = parts 8 indirect 0 0 0 0 target
parts_of (Accumulator register indirect accumulator) = parts 9 indirect 0 0 register accumulator 0
parts_of (Step register indirect step) = parts 10 indirect step 0 register 0 0
parts_of (Address address) = parts 11 false 0 0 0 0 address

-- what the decoder answers: an instruction, or why there is none
abbrev pub Answer : Type 0
Answer = Result Decoded Refusal

-- an operand of so many bytes
abbrev pub reading : (size : ℕ) → Kind → Result Reading Refusal
reading size kind = Ok (record { size = size; kind = kind })

-- an instruction of so many bytes
abbrev pub answer : (length operation : ℕ) → Kind → Answer
answer length operation kind = Ok (record { length = length; meaning = record { operation = operation; kind = kind } })

-- an operation with its operand, after a code of so many bytes
unfoldable pub joined : (code o : ℕ) → Result Reading Refusal → Answer
joined code o (Ok r) = answer (code + r.size) o r.kind
joined code o (Err e) = Err e
