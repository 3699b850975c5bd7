-- Each build of an instruction that was made, after any other builds, answers as a fresh one with the same values and page; a widened branch aside. What is
-- kept is of a form that never hangs on the values, or of Direct or Extended, which a build chooses anew.
-- Assumes nothing.
use mathlib.Core.Path.{◌≡◌, ◌∙◌, refl, sym, ap}
use mathlib.Core.Bool.{true, false, true≢false}
use mathlib.Core.Logic.{⊎_elim}
use Prim.Native.Nat.{ℕ}
use Rattle.std.specs.Prelude.{Result, Ok, Err, ⊤}
use Rattle.ground.specs.Choice.{pick}
use Rattle.ground.specs.declared.refusals.Refusal.{Refusal}
use Rattle.values.specs.declared.pages.Page.{Page}
use Rattle.rows.specs.Forms.{direct, extended}
use Rattle.instruction.specs.declared.Operand.{Operand}
use Rattle.instruction.specs.declared.Values.{Values}
use Rattle.instruction.specs.declared.Instruction.{Instruction}
use Rattle.instruction.specs.declared.Chosen.{Chosen}
use Rattle.instruction.specs.declared.Built.{Built}
use Rattle.instruction.specs.Records.{sound}
use Rattle.instruction.specs.Forms.{form_of, needs_value}
use Rattle.instruction.specs.Choosing.{choose_of}
use Rattle.instruction.specs.Building.{instruction_of, early_of, accepted_of, finished_of, after, tried_of, build_of}
use Rattle.instruction.specs.Sequences.{Present, built_with, kept_after, told_of, fresh_with, AsFresh}
use Rattle.instruction.proofs.Results.{told_alike}
use Rattle.instruction.proofs.Before.{lacks_alike}
use Rattle.instruction.proofs.Ready.{fresh_tried}
use Rattle.instruction.proofs.Formed.{is_memory, Free, one_of_two}
use Rattle.instruction.proofs.Kept.{plain, Kept, steady, free, long, anew, is_extended, one_of, chosen_anew, made_lasts}

-- ---- what a build hands out hangs on the operand, on 1 to 3, and on what is chosen
abbrev pub out_of : Operand → Result ⊤ Refusal → Result Chosen Refusal → ℕ → Result Built Refusal
out_of o n c address = after n (finished_of (plain o 0) c address)

pub handed_out :
    (i : Instruction) (v : Values) (page : Page) (address : ℕ) →
    tried_of i v page address ≡ out_of i.operand (early_of i v) (choose_of i v page address) address
unfolding tried_of accepted_of
handed_out i v page address = go (early_of i v) (choose_of i v page address)
  where
    go : (n : Result ⊤ Refusal) (c : Result Chosen Refusal) → after n (finished_of i c address) ≡ out_of i.operand n c address
    go (Ok passed) (Ok c) = refl
    go (Ok passed) (Err n) = refl
    go (Err n) c = refl

-- ---- a free form
module _ (o : Operand) (fr : Free o) (i : Instruction) (m : is_memory i.form ≡ true) (e : i.operand ≡ o) (w : i.widened ≡ false) where
  -- 1, 2 and 3 as Extended has them
  early_extended : (v : Values) → early_of i v ≡ early_of (plain o extended) v
  unfolding early_of sound needs_value pick
  early_extended v = ⊎_elim (λ (d : i.form ≡ direct). rw (d, e, lacks_alike o, is_extended o fr i m e w)) (λ (d : i.form ≡ extended). rw (d, e)) (one_of o fr i m e w)

  -- so what it hands out hangs on the operand alone
  free_out :
      (v : Values) (page : Page) (address : ℕ) →
      tried_of i v page address ≡ out_of o (early_of (plain o extended) v) (Ok (anew o fr i m e w v page)) address
  free_out v page address = rw (handed_out i v page address, early_extended v, chosen_anew o fr i m e w v page address, e)

-- ---- each build as a fresh one
kept_fresh : (o : Operand) (i : Instruction) → Kept o i → i.widened ≡ false → (p : Present) → told_of (built_with i p) ≡ fresh_with o p
unfolding build_of instruction_of
kept_fresh o i k short p =
    told_alike i (tried_of i p.values p.page p.address) ∙ go k ∙ sym (fresh_tried (record { operand = o; page = p.page; values = p.values }) p.address)
  where
    v : Values
    v = p.values

    page : Page
    page = p.page

    go : Kept o i → tried_of i v page p.address ≡ tried_of (instruction_of o (form_of o v page)) v page p.address
    go (steady f s e) = ap (λ (j : Instruction). tried_of j v page p.address) (e ∙ sym (rw (s.always v page, s.unmarked)))
    go (free f m e w) = free_out o f i m e w v page p.address ∙ sym (free_out o f (instruction_of o (form_of o v page)) (one_of_two o f v page) refl refl v page p.address)
    go (long b e) = absurd (true≢false (sym (ap (λ (j : Instruction). j.widened) e) ∙ short))

pub as_fresh : AsFresh
as_fresh r i ps p z short = kept_fresh r.operand (kept_after i ps) ((made_lasts r i z).kept ps) short p
