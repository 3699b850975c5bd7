-- A run of bytes, read from its start: instruction after instruction, the first that is refused the last.
use Rattle.std.specs.Prelude.{ℕ, zero, suc, ◌+◌, ◌-◌, List, [], ◌∷◌, length, drop, Option, Some, None, Result, Ok, Err}
use Rattle.ground.specs.Choice.{pick}
use Rattle.ground.specs.declared.refusals.Refusal.{Refusal}
use Rattle.ground.specs.declared.refusals.Refusal.TheVariants.{Beyond}
use Rattle.decoder.specs.declared.Origin.{Origin}
use Rattle.decoder.specs.Origin.{shifted, outside}
use Rattle.decoder.specs.Meaning.{Answer}
use Rattle.decoder.specs.Front.{front_of}

-- an instruction, and what follows so many bytes; a refusal is the last
abbrev pub before : Answer → (ℕ → List Answer) → List Answer
before (Ok d) after = Ok d ∷ after d.length
before (Err e) after = Err e ∷ []

-- the instructions after the first k bytes, which are the end of one that was read
unfoldable pub run_from : ℕ → List ℕ → Origin → List Answer
run_from k [] from = []
run_from zero (b ∷ l) from = before (front_of (b ∷ l) from) (λ n. run_from (n - 1) l (shifted from 1))
run_from (suc k) (b ∷ l) from = run_from k l (shifted from 1)

-- of a run 18 is asked first, over all its bytes; one of no bytes has no instructions
unfoldable pub run_of : List ℕ → Origin → List Answer
run_of l from = pick (outside l from) (Err Beyond ∷ []) (run_from 0 l from)

-- the refusal among some answers
abbrev pub refusal_in : List Answer → Option Refusal
refusal_in [] = None
refusal_in (Ok d ∷ ds) = refusal_in ds
refusal_in (Err e ∷ ds) = Some e

-- how long the instructions are together
abbrev pub total_of : List Answer → ℕ
total_of [] = 0
total_of (Ok d ∷ ds) = d.length + total_of ds
total_of (Err e ∷ ds) = total_of ds

-- so many, unless there is a refusal
abbrev pub counted_as : Option Refusal → ℕ → Result ℕ Refusal
counted_as None n = Ok n
counted_as (Some e) n = Err e

-- how many instructions, or the refusal among them
unfoldable pub counted_of : List Answer → Result ℕ Refusal
counted_of ds = counted_as (refusal_in ds) (length ds)

-- the instruction that begins at a place of a run
unfoldable pub next_of : List ℕ → Origin → ℕ → Answer
next_of l from at = pick (outside l from) (Err Beyond) (front_of (drop at l) (shifted from at))
