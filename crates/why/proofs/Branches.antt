-- The distance that is told of a branch is the one that decided: a short branch stayed short exactly if it is in range, and out of range it was made long, or is 8.
-- Assumes nothing.
use mathlib.Core.Path.{◌≡◌, sym, ap, subst, ◌∙◌}
use mathlib.Core.Bool.{Bool, false, not}
use Prim.Native.Nat.{ℕ}
use native.Mathlib.Omega.{arith}
use borrow.Author.Tests.{eq-eqb}
use Rattle.std.specs.Prelude.{Result, Ok, Err, IfOk}
use Rattle.ground.specs.Choice.{pick}
use Rattle.ground.specs.declared.refusals.Refusal.{Refusal}
use Rattle.ground.specs.declared.refusals.Refusal.TheVariants.{BranchTooFar}
use Rattle.ground.specs.Refusals.{number_of}
use Rattle.ground.specs.Words.{plus, minus}
use Rattle.ground.proofs.Choices.{by_test}
use Rattle.rows.specs.Forms.{extended, relative}
use Rattle.rows.specs.Lookup.{has_form_of}
use Rattle.rows.specs.Sizes.{number_size_of}
use Rattle.postbytes.specs.Writing.{near_of}
use Rattle.instruction.specs.declared.Record.{Record}
use Rattle.instruction.specs.declared.Chosen.{Chosen}
use Rattle.instruction.specs.declared.Built.{Built}
use Rattle.instruction.specs.declared.Argument.TheVariants.{Target}
use Rattle.instruction.specs.Names.{mode_extended}
use Rattle.instruction.specs.Forms.{form_of}
use Rattle.instruction.specs.Choosing.{settled, long_branch, branch_of, choose_of}
use Rattle.instruction.specs.Bytes.{code_size}
use Rattle.instruction.specs.Building.{instruction_of, accepted_of, told}
use Rattle.instruction.proofs.Results.{of_ok}
use Rattle.instruction.proofs.Rows.{has_code, branch_size, short_page, branch_only}
use Rattle.instruction.proofs.Formed.{branch_form}
use Rattle.why.specs.Reasons.{code_bytes, branch_distance, branch_reason, extended_reason, reason_for}
use Rattle.why.specs.Exactly.{IsBranch, is_near, BranchTold, BranchDecided}
use Rattle.why.proofs.Fresh.{makes, chosen_of, Accepts, accepted, refused_late}

module _ (r : Record) (address : ℕ) (b : IsBranch r.operand) where
  abbrev operation : ℕ
  operation = r.operand.operation

  -- its row has no address
  no_address : has_form_of operation extended ≡ false
  no_address = branch_only operation b.row

  is_relative : form_of r.operand r.values r.page ≡ relative
  is_relative =
      branch_form r.operand
      (record { mode = eq-eqb r.operand.mode mode_extended b.mode; straight = b.straight; rows = rw (no_address, b.row) }) r.values r.page

  branch_chosen : chosen_of r address ≡ branch_of (makes r) r.values address
  unfolding instruction_of choose_of pick
  branch_chosen = rw is_relative

  -- ---- a short one: the code has one byte, and the distance has one
  short_code : number_size_of operation relative ≡ 1 → code_bytes operation relative ≡ 1
  unfolding code_bytes code_size pick
  short_code s =
      let k = has_code operation relative b.row in
      rw (k.coded, short_page operation k.page k.code k.coded s)

  near_alike : number_size_of operation relative ≡ 1 → is_near r address ≡ near_of (minus r.values.unsigned.number (plus address 2))
  unfolding branch_distance
  near_alike s = rw (short_code s, s)

  short_chosen :
      number_size_of operation relative ≡ 1 →
      chosen_of r address
      ≡ pick (is_near r address) (Ok (settled (makes r) relative (Target r.values.unsigned.number)))
      (pick r.operand.widening (Ok (long_branch (makes r) r.values)) (Err BranchTooFar))
  unfolding instruction_of branch_of pick
  short_chosen s = branch_chosen ∙ rw (near_alike s, s)

  -- ---- a long one
  long_chosen : number_size_of operation relative ≡ 2 → chosen_of r address ≡ Ok (settled (makes r) relative (Target r.values.unsigned.number))
  unfolding instruction_of branch_of pick
  long_chosen s = branch_chosen ∙ rw s

  -- an accepted one is widened as what was chosen
  widened_as : (w : Bool) → IfOk (chosen_of r address) (λ c. c.widened ≡ w) → (b : Built) → Accepts r address b → b.instruction.widened ≡ w
  unfolding accepted_of
  widened_as w h b k = ap (λ (x : Built). x.instruction.widened) k.built ∙ of_ok (λ (c : Chosen). c.widened ≡ w) h k.chosen

  long_turned : number_size_of operation relative ≡ 2 → IfOk (chosen_of r address) (λ c. c.widened ≡ false)
  unfolding instruction_of
  long_turned s = rw (long_chosen s)

  Turned : Result Chosen Refusal → Type 0
  Turned x = IfOk x (λ c. c.widened ≡ not (is_near r address))

  short_turned : number_size_of operation relative ≡ 1 → Turned (chosen_of r address)
  unfolding Turned instruction_of long_branch
  short_turned s =
      subst Turned (sym (short_chosen s))
      (by_test Turned (is_near r address) (λ n. rw n) (λ n. by_test Turned r.operand.widening (λ _. rw n) (λ _. tt)))

  Far : Result Chosen Refusal → Type 0
  Far c = told c ≡ number_of BranchTooFar → (is_near r address ≡ false) × (r.operand.widening ≡ false)

  -- a long one is never 8
  short_far : Far (chosen_of r address)
  unfolding Far long_branch
  short_far z =
      let s = branch_size operation b.row (λ two. omega (arith, z, ap (λ (c : Result Chosen Refusal). told c) (long_chosen two))) in
      subst Far (sym (short_chosen s))
      (by_test Far (is_near r address) (λ _ y. absurd (omega arith))
      (λ n. by_test Far r.operand.widening (λ _ y. absurd (omega arith)) (λ w _. (n, w)))) z

  branch_told : BranchTold r address
  unfolding reason_for extended_reason branch_reason Turned Far instruction_of pick
  branch_told = record {
    reason = rw (b.mode, b.straight, no_address, b.row);
    short = accepted r address (λ (b : Built). number_size_of operation relative ≡ 1 → b.instruction.widened ≡ not (is_near r address))
        (λ b k s. widened_as (not (is_near r address)) (short_turned s) b k);
    long = accepted r address (λ (b : Built). number_size_of operation relative ≡ 2 → b.instruction.widened ≡ false) (λ b k s. widened_as false (long_turned s) b k);
    far = λ z. short_far (ap (λ (c : Result Chosen Refusal). told c) (refused_late r address BranchTooFar (omega arith) z).1);
  }

pub branch_decided : BranchDecided
branch_decided r address b = branch_told r address b
