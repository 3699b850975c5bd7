-- An answer loses nothing in 01's number for it and what it answers: no two refusals have one number, and none has 0.
-- Assumes nothing.
use mathlib.Core.Path.{◌≡◌, ◌∙◌, refl, sym, ap}
use mathlib.Core.List.{List, [], ◌∷◌}
use Prim.Native.Nat.{ℕ, ◌-◌}
use native.Mathlib.Omega.{arith}
use lib.Dec.{eqb}
use lib.ListN.{get_or}
use Rattle.std.specs.Prelude.{Result, Ok, Err}
use Rattle.std.specs.Result.{result_unwrap_or}
use Rattle.ground.specs.Choice.{pick}
use Rattle.ground.specs.Refusals.{number_of}
use Rattle.ground.specs.declared.refusals.Refusal.{Refusal}
use Rattle.ground.specs.declared.refusals.Refusal.TheVariants.{Unknown, NoSuchMode, ValueMissing, BadRegister, SingleStepIndirect, BadWidth, DirectNotAllowed, BranchTooFar, NoRoom, BadLabel, TooDeep, SegmentRepeated, NotSettled, Undefined, CutShort, BrokenText, OverLimit, Beyond}
use Rattle.rows.specs.declared.Code.{Code}
use Rattle.rows.specs.declared.Named.{Named}
use Rattle.rows.specs.Lookup.{refusal_of, values_of, values_of_named}

-- in 01's order
abbrev refusals : List Refusal
refusals =
    Unknown ∷ NoSuchMode ∷ ValueMissing ∷ BadRegister ∷ SingleStepIndirect ∷ BadWidth ∷ DirectNotAllowed ∷ BranchTooFar ∷ NoRoom ∷ BadLabel ∷ TooDeep
    ∷ SegmentRepeated ∷ NotSettled ∷ Undefined ∷ CutShort ∷ BrokenText ∷ OverLimit ∷ Beyond ∷ []

-- the answer with 01's number, and with what is answered where that is 0
abbrev answer_from : {A : Type 0} → ℕ → A → Result A Refusal
answer_from n a = pick (eqb n 0) (Ok a) (Err (get_or refusals (n - 1) Unknown))

refusal_told : {A : Type 0} (a : A) (r : Refusal) → answer_from (number_of r) a ≡ Err r
unfolding pick
refusal_told a Unknown = refl
refusal_told a NoSuchMode = refl
refusal_told a ValueMissing = refl
refusal_told a BadRegister = refl
refusal_told a SingleStepIndirect = refl
refusal_told a BadWidth = refl
refusal_told a DirectNotAllowed = refl
refusal_told a BranchTooFar = refl
refusal_told a NoRoom = refl
refusal_told a BadLabel = refl
refusal_told a TooDeep = refl
refusal_told a SegmentRepeated = refl
refusal_told a NotSettled = refl
refusal_told a Undefined = refl
refusal_told a CutShort = refl
refusal_told a BrokenText = refl
refusal_told a OverLimit = refl
refusal_told a Beyond = refl

pub answer_told : {A : Type 0} (other : A) (a : Result A Refusal) → answer_from (refusal_of a) (result_unwrap_or a other) ≡ a
unfolding pick
answer_told other (Ok a) = refl
answer_told other (Err r) = refusal_told other r

pub same_number : (r s : Refusal) → number_of r ≡ number_of s → r ≡ s
same_number r s e =
    let d : ◌≡◌ {A = Result ℕ Refusal} (Err r) (Err s) = sym (refusal_told 0 r) ∙ ap (λ (n : ℕ). answer_from n 0) e ∙ refusal_told 0 s in
    cc

-- ---- with its values
abbrev coded_from : ℕ → List ℕ → Result Code Refusal
coded_from n values = answer_from n (record { page = get_or values 0 0; code = get_or values 1 0 })

pub coded_told : (a : Result Code Refusal) → coded_from (refusal_of a) (values_of a) ≡ a
unfolding pick
coded_told (Ok c) = refl
coded_told (Err r) = refusal_told (record { page = 0; code = 0 }) r

abbrev named_from : ℕ → List ℕ → Result Named Refusal
named_from n values = answer_from n (record { operation = get_or values 0 0; form = get_or values 1 0 })

pub named_told : (a : Result Named Refusal) → named_from (refusal_of a) (values_of_named a) ≡ a
unfolding pick
named_told (Ok n) = refl
named_told (Err r) = refusal_told (record { operation = 0; form = 0 }) r
