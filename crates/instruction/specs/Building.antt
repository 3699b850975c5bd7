-- 01, "A kept instruction is taken by value and handed back": making one, and building it.
use Rattle.std.specs.Prelude.{ℕ, Bool, false, ◌&&◌, ◌||◌, not, List, [], ◌++◌, Option, Some, None, Result, Ok, Err, ⊤, eqb, ltb, length, take, drop}
use Rattle.ground.specs.Choice.{pick}
use Rattle.ground.specs.Refusals.{number_of}
use Rattle.ground.specs.declared.refusals.Refusal.{Refusal}
use Rattle.ground.specs.declared.refusals.Refusal.TheVariants as refusal
use Rattle.values.specs.declared.pages.Page.{Page}
use Rattle.values.specs.declared.pages.Page.TheVariants.{Unknown}
use Rattle.rows.specs.Forms.{direct}
use Rattle.postbytes.specs.Registers.{DP}
use Rattle.postbytes.specs.Lists.{among}
use Rattle.instruction.specs.declared.Operand.{Operand}
use Rattle.instruction.specs.declared.Values.{Values}
use Rattle.instruction.specs.declared.Record.{Record}
use Rattle.instruction.specs.declared.Instruction.{Instruction}
use Rattle.instruction.specs.declared.Chosen.{Chosen}
use Rattle.instruction.specs.declared.Built.{Built}
use Rattle.instruction.specs.declared.Refused.{Refused}
use Rattle.instruction.specs.declared.Placed.{Placed}
use Rattle.instruction.specs.Names.{mode_extended, exg, tfr, puls, pulu}
use Rattle.instruction.specs.Records.{recognised, lawful, sound}
use Rattle.instruction.specs.Forms.{form_of, lacks, needs_value}
use Rattle.instruction.specs.Choosing.{register_at, choose_of}
use Rattle.instruction.specs.Bytes.{laid_of}

unfoldable pub no_values : Values
no_values = record { given = false; unsigned = record { number = 0; width = 0 }; signed = record { number = 0; width = 0 } }

-- ---- make
-- the mark is set where Extended mode becomes Direct
unfoldable pub instruction_of : Operand → ℕ → Instruction
instruction_of o form =
    record { operand = o; form = form; trial = eqb o.mode mode_extended && eqb form direct; widened = false }

-- 1, then 2
unfoldable pub made_as : Operand → ℕ → Result Instruction Refusal
made_as o form = pick (lacks o form) (Err refusal.NoSuchMode) (Ok (instruction_of o form))

unfoldable pub make_of : Record → Result Instruction Refusal
make_of r =
    pick (recognised r.operand && lawful r.values)
    (made_as r.operand (form_of r.operand r.values r.page))
    (Err refusal.Unknown)

-- 1 and 2 as they are told before any value is evaluated: a value chooses between Direct and Extended alone, and a row has both or none
unfoldable pub operand_refusal : Operand → Option Refusal
operand_refusal o = pick (recognised o) (pick (lacks o (form_of o no_values Unknown)) (Some refusal.NoSuchMode) None) (Some refusal.Unknown)

-- ---- build
-- 1, 2 and 3, in this order
unfoldable pub early_of : Instruction → Values → Result ⊤ Refusal
early_of i v =
    pick (sound i v)
    (pick (lacks i.operand i.form) (Err refusal.NoSuchMode)
    (pick (needs_value i.operand.mode i.form && not v.given) (Err refusal.ValueMissing) (Ok tt)))
    (Err refusal.Unknown)

-- "DP is dirtied by TFR to DP, and by EXG, PULS, PULU naming DP"; "An operation that dirtied the page now makes it unknown."
unfoldable pub dirties_of : Operand → Bool
dirties_of o =
    pick (eqb o.operation tfr) (eqb (register_at o 1) DP)
    (pick (eqb o.operation exg || (eqb o.operation puls || eqb o.operation pulu)) (among DP (take o.count o.registers)) false)

-- "It keeps its mode, its trial mark and a widening."
unfoldable pub accepted_of : Instruction → Chosen → ℕ → Built
accepted_of i c address = record {
  instruction = record { operand = i.operand; form = c.form; trial = c.trial; widened = c.widened };
  bytes = (laid_of c address).bytes;
  length = (laid_of c address).length;
  dirties = dirties_of i.operand;
}

abbrev pub finished_of : Instruction → Result Chosen Refusal → ℕ → Result Built Refusal
finished_of i (Ok c) address = Ok (accepted_of i c address)
finished_of i (Err n) address = Err n

-- what 1, 2 and 3 let through
abbrev pub after : {A : Type 0} → Result ⊤ Refusal → Result A Refusal → Result A Refusal
after (Ok passed) later = later
after (Err n) later = Err n

-- what a build comes to, beside whose refusal nothing is told
unfoldable pub tried_of : Instruction → Values → Page → ℕ → Result Built Refusal
tried_of i v page address = after (early_of i v) (finished_of i (choose_of i v page address) address)

-- a refusal hands the instruction back unchanged
abbrev pub refused_with : Instruction → Refusal → Refused
refused_with i n = record { instruction = i; refusal = n }

abbrev pub handing : Instruction → Result Built Refusal → Result Built Refused
handing i (Ok b) = Ok b
handing i (Err n) = Err (refused_with i n)

unfoldable pub build_of : Instruction → Values → Page → ℕ → Result Built Refused
build_of i v page address = handing i (tried_of i v page address)

-- a fresh instruction, made and built from one record; a refusal has nothing to hand back
abbrev pub fresh_from : Result Instruction Refusal → Record → ℕ → Result Built Refusal
fresh_from (Ok i) r address = tried_of i r.values r.page address
fresh_from (Err n) r address = Err n

unfoldable pub fresh_of : Record → ℕ → Result Built Refusal
fresh_of r address = fresh_from (make_of r) r address

-- ---- what is told of an answer that may be a refusal
-- the number of the refusal, 0 where there is none
abbrev pub told : {A : Type 0} → Result A Refusal → ℕ
told (Ok a) = 0
told (Err n) = number_of n

-- the bytes of a build and how many they are, none beside a refusal; and whether it dirties the page
abbrev pub bytes_in : Built → List ℕ
bytes_in b = take b.length b.bytes

abbrev pub bytes_told : Result Built Refusal → List ℕ
bytes_told (Ok b) = bytes_in b
bytes_told (Err n) = []

abbrev pub size_told : Result Built Refusal → ℕ
size_told (Ok b) = b.length
size_told (Err n) = 0

abbrev pub dirties_told : Result Built Refusal → Bool
dirties_told (Ok b) = b.dirties
dirties_told (Err n) = false

-- ---- into a lent buffer
-- 9 comes last, and leaves the instruction and the buffer as they were
unfoldable pub placed_as : Instruction → Built → ℕ → Result Placed Refused
placed_as i b room =
    pick (ltb room b.length) (Err (refused_with i refusal.NoRoom))
    (Ok (record { instruction = b.instruction; length = b.length; dirties = b.dirties }))

abbrev pub placed_of : Instruction → Result Built Refused → ℕ → Result Placed Refused
placed_of i (Ok b) room = placed_as i b room
placed_of i (Err x) room = Err x

unfoldable pub stored_of : Built → List ℕ → List ℕ
stored_of b d = pick (ltb (length d) b.length) d (bytes_in b ++ drop b.length d)

abbrev pub buffer_of : Result Built Refused → List ℕ → List ℕ
buffer_of (Ok b) d = stored_of b d
buffer_of (Err x) d = d
