-- A fresh build comes to what is chosen for the form that its record asks for: accepted, with that form, marks and bytes; or, after 1 to 3, with the refusal of the choice.
-- Assumes nothing.
use mathlib.Core.Path.{◌≡◌, sym, ◌∙◌}
use mathlib.Core.Bool.{true}
use Prim.Native.Nat.{ℕ, ◌+◌, ◌<◌}
use Rattle.std.specs.Prelude.{Result, Ok, Err, IfOk, ⊤}
use Rattle.ground.specs.declared.refusals.Refusal.{Refusal}
use Rattle.ground.specs.declared.refusals.Refusal.TheVariants.{ValueMissing}
use Rattle.ground.specs.Refusals.{number_of}
use Rattle.ground.specs.Words.{plus}
use Rattle.rows.specs.Lookup.{has_form_of}
use Rattle.instruction.specs.declared.Record.{Record}
use Rattle.instruction.specs.declared.Instruction.{Instruction}
use Rattle.instruction.specs.declared.Chosen.{Chosen}
use Rattle.instruction.specs.declared.Built.{Built}
use Rattle.instruction.specs.Forms.{form_of}
use Rattle.instruction.specs.Choosing.{choose_of}
use Rattle.instruction.specs.Bytes.{operand_bytes, code_size, laid_at, laid_of}
use Rattle.instruction.specs.Building.{instruction_of, accepted_of, tried_of, fresh_of}
use Rattle.instruction.proofs.Rows.{has_code}
use Rattle.instruction.proofs.Ready.{fresh_tried}
use Rattle.instruction.proofs.Fits.{Early, early_leaves, Fits, Builds, build_chosen}
use Rattle.instruction.proofs.Results.{of_ok}
use Rattle.instruction.proofs.Seven.{late_choice}
use Rattle.instruction.proofs.Sizes.{code_length}
use Rattle.why.specs.Reasons.{code_bytes}

-- the instruction that a record makes, and what is chosen for it
abbrev pub makes : Record → Instruction
makes r = instruction_of r.operand (form_of r.operand r.values r.page)

abbrev pub chosen_of : Record → ℕ → Result Chosen Refusal
chosen_of r address = choose_of (makes r) r.values r.page address

-- ---- accepted
pub record Accepts (r : Record) (address : ℕ) (b : Built) : Type 0 where
  pub choice : Chosen
  pub early : Early (makes r) r.values
  pub chosen : chosen_of r address ≡ Ok choice
  pub fits : Fits r.operand r.page address choice
  pub built : b ≡ accepted_of (makes r) choice address

-- what holds of all that is chosen and laid down holds of a fresh build
pub accepted : (r : Record) (address : ℕ) (P : Built → Type 0) → ((b : Built) → Accepts r address b → P b) → IfOk (fresh_of r address) P
unfolding instruction_of
accepted r address P h = rw (fresh_tried r address) (go (tried_of (makes r) r.values r.page address) (build_chosen (makes r) r.values r.page address))
  where
    go : (t : Result Built Refusal) → IfOk t (Builds (makes r) r.values r.page address) → IfOk t P
    go (Ok b) k = h b (record { choice = k.choice; early = k.early; chosen = k.chosen; fits = k.fits; built = k.built })
    go (Err n) k = tt

-- ---- refused later than 3
pub refused_late :
    (r : Record) (address : ℕ) (m : Refusal) → number_of ValueMissing < number_of m → fresh_of r address ≡ Err m →
    Early (makes r) r.values × (chosen_of r address ≡ Err m)
refused_late r address m late e =
    let d = late_choice (makes r) r.values r.page address m late (sym (fresh_tried r address) ∙ e) in
    (of_ok (λ (_ : ⊤). Early (makes r) r.values) (early_leaves (makes r) r.values) d.0, d.1)

-- ---- its length
-- what is laid is the code, and the operand's bytes behind it
pub laid_length :
    (c : Chosen) (address : ℕ) →
    has_form_of c.operation c.form ≡ true →
    (laid_of c address).length ≡ code_bytes c.operation c.form + (operand_bytes c.operation c.form c.argument (plus address (code_bytes c.operation c.form))).length
unfolding laid_of laid_at code_bytes
laid_length c address h =
    let k = has_code c.operation c.form h in
    rw k.coded (code_length k.page k.code (operand_bytes c.operation c.form c.argument (plus address (code_size k.page))))
