-- The bytes of an instruction, as values of 8 bits, are its bytes again.
-- Assumes nothing.
use mathlib.Core.Path.{◌≡◌, sym, ap, ◌∙◌}
use mathlib.Core.Bool.{Bool}
use mathlib.Core.List.{List}
use Prim.Native.Nat.{ℕ}
use Rattle.std.specs.Prelude.{None, Result, Ok, Err}
use Rattle.ground.specs.declared.refusals.Refusal.{Refusal}
use Rattle.values.specs.declared.pages.Page.{Page}
use Rattle.records.specs.Fine.{Bytes}
use Rattle.records.specs.Objects.{data_of}
use Rattle.records.proofs.ByteRows.{byte_data}
use Rattle.instruction.specs.declared.Values.{Values}
use Rattle.instruction.specs.Building.{fresh_of, bytes_told}
use Rattle.entries.proofs.Small.{fresh_bytes}
use Rattle.statements.specs.declared.Statement.TheVariants.{Instruction}
use Rattle.statements.specs.declared.Entry.{Entry}
use Rattle.statements.specs.Asking.{asked_of}
use Rattle.statements.proofs.Told.{built_fresh, made_built, effect_made}
use Rattle.statements.specs.Effects.{made_of, effect_of, record_of, built_of}
use Rattle.statements.specs.Objects.{values_of}

-- each is below 256
pub built_small : (e : Entry) (a : Result Values Refusal) (page : Page) (here : ℕ) → Bytes (bytes_told (built_of e a page here))
built_small e (Ok v) page here = fresh_bytes (record_of e (Ok v) page) here
built_small e (Err why) page here = tt

-- an instruction's bytes are those of its build, with its values evaluated
pub instruction_bytes :
    (ns ls : List ℕ) (node : ℕ) (e : Entry) (items : List ℕ) (here : ℕ) (page : Page) →
    data_of (values_of (Instruction node) e items ns ls here page) ≡ bytes_told (built_of e (asked_of ns ls node here) page here)
instruction_bytes ns ls node e items here page =
    byte_data (bytes_told (built_of e (asked_of ns ls node here) page here)) (built_small e (asked_of ns ls node here) page here)

-- accepted, they are those of the fresh build of its record
pub accepted_bytes :
    (ns ls : List ℕ) (node : ℕ) (e : Entry) (items : List ℕ) (here : ℕ) (page : Page) (ill : Bool) →
    (effect_of (Instruction node) e items ns ls here page ill).refusal ≡ None →
    data_of (values_of (Instruction node) e items ns ls here page) ≡ bytes_told (fresh_of (record_of e (asked_of ns ls node here) page) here)
accepted_bytes ns ls node e items here page ill z =
    let a = asked_of ns ls node here in
    let built = (made_built e a ill page here (effect_made e (made_of e a ill page here) z).1).0 in
    instruction_bytes ns ls node e items here page ∙ ap bytes_told (built ∙ sym (built_fresh e a page here built))
