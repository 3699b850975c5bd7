-- 1 and 2 do not hang on the values: a value chooses between Direct and Extended alone, and a row has both or none. So what is told of an operand
-- before any value is evaluated is what making it with lawful values refuses.
-- Assumes nothing.
use mathlib.Core.Path.{◌≡◌, refl, sym, ap}
use mathlib.Core.Bool.{Bool, true, false, not, ◌&&◌, ◌||◌}
use Prim.Native.Nat.{ℕ}
use lib.Dec.{eqb}
use Rattle.std.specs.Prelude.{Result, Ok, Err, Option, Some, None}
use Rattle.ground.specs.Choice.{pick}
use Rattle.ground.specs.declared.refusals.Refusal.{Refusal}
use Rattle.ground.specs.declared.refusals.Refusal.TheVariants as refusal
use Rattle.values.specs.declared.pages.Page.{Page}
use Rattle.values.specs.declared.pages.Page.TheVariants.{Unknown}
use Rattle.rows.specs.Forms.{direct, extended, relative}
use Rattle.rows.specs.Lookup.{has_form_of}
use Rattle.instruction.specs.declared.Operand.{Operand}
use Rattle.instruction.specs.declared.Values.{Values}
use Rattle.instruction.specs.declared.Record.{Record}
use Rattle.instruction.specs.declared.Instruction.{Instruction}
use Rattle.instruction.specs.Names.{mode_register, mode_extended}
use Rattle.instruction.specs.Records.{recognised, lawful}
use Rattle.instruction.specs.Forms.{becomes_direct, extended_form, form_of, strays, lacks}
use Rattle.instruction.specs.Building.{no_values, instruction_of, made_as, make_of, operand_refusal}
use Rattle.instruction.proofs.Rows.{direct_extended}

-- what a test says of the parts of a choice it says of the choice
of_choice : (g : ℕ → Bool) (t : Bool) {a b c d : ℕ} → g a ≡ g c → g b ≡ g d → g (pick t a b) ≡ g (pick t c d)
unfolding pick
of_choice g true x y = x
of_choice g false x y = y

of_either : (g : ℕ → Bool) (t u : Bool) (a b : ℕ) → g a ≡ g b → g (pick t a b) ≡ g (pick u a b)
unfolding pick
of_either g true true a b e = refl
of_either g true false a b e = e
of_either g false true a b e = sym e
of_either g false false a b e = refl

pub lacks_alike : (o : Operand) → lacks o direct ≡ lacks o extended
unfolding lacks strays
lacks_alike o = ap (λ (t : Bool). not t || false) (direct_extended o.operation)

pub lacks_same : (o : Operand) (v w : Values) (page other : Page) → lacks o (form_of o v page) ≡ lacks o (form_of o w other)
unfolding form_of extended_form
lacks_same o v w page other =
    of_choice (lacks o) (eqb o.mode mode_register) refl
    (of_choice (lacks o) (eqb o.mode mode_extended)
    (of_choice (lacks o) o.indirect refl
    (of_choice (lacks o) (not (has_form_of o.operation extended) && has_form_of o.operation relative) refl
    (of_either (lacks o) (becomes_direct o v page) (becomes_direct o w other) direct extended (lacks_alike o))))
    refl)

abbrev pub refusal_in : Result Instruction Refusal → Option Refusal
refusal_in (Ok i) = None
refusal_in (Err n) = Some n

-- with lawful values, making refuses as the operand alone does
pub make_refusal : (r : Record) → lawful r.values ≡ true → refusal_in (make_of r) ≡ operand_refusal r.operand
unfolding make_of made_as operand_refusal pick
make_refusal r h =
    rw (h, lacks_same r.operand r.values no_values r.page Unknown)
    (from (recognised r.operand) (lacks r.operand (form_of r.operand no_values Unknown)) (instruction_of r.operand (form_of r.operand r.values r.page)))
  where
    from :
        (k t : Bool) (i : Instruction) →
        refusal_in (pick (k && true) (pick t (Err refusal.NoSuchMode) (Ok i)) (Err refusal.Unknown))
        ≡ pick k (pick t (Some refusal.NoSuchMode) None) (Some refusal.Unknown)
    from false t i = refl
    from true true i = refl
    from true false i = refl
