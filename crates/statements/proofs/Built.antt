-- What an instruction's build has: at most five bytes, as many as it says; none where it is refused.
-- Assumes nothing.
use mathlib.Core.Path.{refl}
use Prim.Native.Nat.{ℕ}
use native.Mathlib.Omega.{arith}
use Rattle.std.specs.Prelude.{Result, Ok, Err}
use Rattle.ground.specs.declared.refusals.Refusal.{Refusal}
use Rattle.values.specs.declared.pages.Page.{Page}
use Rattle.instruction.specs.declared.Values.{Values}
use Rattle.instruction.proofs.Padded.{Told, fresh_told}
use Rattle.statements.specs.declared.Entry.{Entry}
use Rattle.statements.specs.Effects.{record_of, built_of}

pub built_told : (e : Entry) (page : Page) (here : ℕ) (a : Result Values Refusal) → Told (built_of e a page here)
built_told e page here (Ok v) = fresh_told (record_of e (Ok v) page) here
built_told e page here (Err why) = record { size = refl; most = omega arith }
