-- What is known of an answer once it is known to be accepted, or refused.
-- Assumes nothing.
use mathlib.Core.Path.{◌≡◌, refl, sym, ap, subst, ◌∙◌}
use Rattle.std.specs.Prelude.{Result, Ok, Err, IfOk, IfErr}
use Rattle.ground.specs.declared.refusals.Refusal.{Refusal}
use Rattle.instruction.specs.declared.Instruction.{Instruction}
use Rattle.instruction.specs.declared.Built.{Built}
use Rattle.instruction.specs.declared.Refused.{Refused}
use Rattle.instruction.specs.Building.{handing}
use Rattle.instruction.specs.Sequences.{told_of}

pub of_ok : {A E : Type 0} (P : A → Type 0) {r : Result A E} {x : A} → IfOk r P → r ≡ Ok x → P x
of_ok {A} {E} P h e = subst (λ (y : Result A E). IfOk y P) e h

pub of_err : {A E : Type 0} (P : E → Type 0) {r : Result A E} {x : E} → IfErr r P → r ≡ Err x → P x
of_err {A} {E} P h e = subst (λ (y : Result A E). IfErr y P) e h

-- what is handed back tells what a build came to
pub told_alike : (i : Instruction) (x : Result Built Refusal) → told_of (handing i x) ≡ x
told_alike i (Ok b) = refl
told_alike i (Err n) = refl

pub back : (i : Instruction) (x : Result Built Refusal) {y : Result Built Refused} → handing i x ≡ y → x ≡ told_of y
back i x e = sym (told_alike i x) ∙ ap told_of e

-- what holds of what a build came to, where it is accepted, holds of what is handed back
pub handed_ok : (P : Built → Type 0) (i : Instruction) (x : Result Built Refusal) → IfOk x P → IfOk (handing i x) P
handed_ok P i (Ok b) h = h
handed_ok P i (Err n) h = tt
