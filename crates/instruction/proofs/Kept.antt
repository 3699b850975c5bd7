-- What is kept of an instruction that was made, after any builds: its steady form, unmarked; or Direct or Extended where a build chooses anew; or, of a short
-- branch that may be made long, the long one.
-- Assumes nothing.
use mathlib.Core.Path.{◌≡◌, ◌∙◌, refl, sym, ap, subst}
use mathlib.Core.Bool.{Bool, true, false, ◌&&◌}
use mathlib.Core.List.{List, [], ◌∷◌}
use mathlib.Core.Logic.{◌⊎◌, inl, inr, ⊎_elim}
use Prim.Native.Nat.{ℕ, ◌<◌}
use lib.Dec.{eqb, ltb}
use borrow.Author.Tests.{eqb-true}
use Rattle.std.specs.Prelude.{Result, Ok, Err, IfOk, ⊤}
use Rattle.ground.specs.Choice.{pick}
use Rattle.ground.specs.declared.refusals.Refusal.{Refusal}
use Rattle.ground.proofs.Choices.{by_pick}
use Rattle.ground.proofs.Tests.{both_first}
use Rattle.values.specs.declared.pages.Page.{Page}
use Rattle.values.specs.declared.pages.Page.TheVariants.{Unknown}
use Rattle.values.specs.Pages.{reaches}
use Rattle.rows.specs.Forms.{direct, extended, relative}
use Rattle.rows.specs.Sizes.{number_size_of}
use Rattle.instruction.specs.declared.Operand.{Operand}
use Rattle.instruction.specs.declared.Values.{Values}
use Rattle.instruction.specs.declared.Record.{Record}
use Rattle.instruction.specs.declared.Instruction.{Instruction}
use Rattle.instruction.specs.declared.Chosen.{Chosen}
use Rattle.instruction.specs.Names.{mode_extended}
use Rattle.instruction.specs.Records.{recognised, lawful, sound}
use Rattle.instruction.specs.Forms.{becomes_direct, form_of, lacks}
use Rattle.instruction.specs.Choosing.{forced_wide, leaves_direct, stays_direct, directly_of, anew_as, anew_of, address_of, long_branch, branch_of, choose_of}
use Rattle.instruction.specs.Building.{no_values, instruction_of, make_of, early_of, accepted_of, finished_of, after, tried_of, handing, build_of}
use Rattle.instruction.specs.Sequences.{Present, built_with, instruction_in, kept_after, long_kept}
use Rattle.instruction.proofs.Before.{lacks_same}
use Rattle.instruction.proofs.Ready.{lacking_none, made_whole, made_ready}
use Rattle.instruction.proofs.Choice.{not_strange, choice}
use Rattle.instruction.proofs.Formed.{is_memory, Steady, Free, Formed, is_steady, is_free, one_of_two, formed, IsBranch, relative_branch}

-- unmarked and not widened
abbrev pub plain : Operand → ℕ → Instruction
plain o f = record { operand = o; form = f; trial = false; widened = false }

-- a short branch that may be made long
pub record MayWiden (o : Operand) : Type 0 where
  pub branch : IsBranch o
  pub short : eqb (number_size_of o.operation relative) 2 ≡ false
  pub allowed : o.widening ≡ true

pub data Kept (o : Operand) (i : Instruction) : Type 0 where
  steady : (f : ℕ) → Steady o f → i ≡ plain o f → Kept o i
  free : Free o → is_memory i.form ≡ true → i.operand ≡ o → i.widened ≡ false → Kept o i
  long : MayWiden o → i ≡ long_kept o → Kept o i

-- what is kept of a choice
abbrev chosen_for : Operand → Chosen → Instruction
chosen_for o c = record { operand = o; form = c.form; trial = c.trial; widened = c.widened }

abbrev Next : Operand → Result Chosen Refusal → Type 0
Next o c = IfOk c (λ k. Kept o (chosen_for o k))

-- ---- a steady form is kept, unmarked, or it is a branch that was made long
module _ (o : Operand) (f : ℕ) (st : Steady o f) (v : Values) (page : Page) (address : ℕ) where
  -- Direct is of mode Direct, and off trial
  address_next : is_memory f ≡ true → Next o (address_of (plain o f) v page)
  unfolding address_of directly_of stays_direct leaves_direct pick
  address_next m =
      let q = (st.memory m).1 in
      let stays : Kept o (plain o direct) = steady f st (ap (plain o) (sym (eqb-true f direct q))) in
      rw ((st.memory m).0, q)
      (by_pick (Next o) (becomes_direct o v page) stays
      (by_pick (Next o) (reaches page v.unsigned.number) (by_pick (Next o) (forced_wide (plain o f) v page) tt stays) tt))

  steady_next : recognised o ≡ true → f < 7 → Next o (choose_of (plain o f) v page address)
  unfolding long_branch
  steady_next known =
      choice (plain o f) v page address (Next o) (λ n t. tt)
      (λ form a q. steady f st (ap (plain o) (sym (eqb-true f form q))))
      (λ q s a. long (record { branch = relative_branch o no_values Unknown (st.always no_values Unknown ∙ eqb-true f relative q); short = s; allowed = a }) refl)
      address_next (not_strange o known)

-- ---- a free form is chosen anew
module _ (o : Operand) (fr : Free o) (i : Instruction) (m : is_memory i.form ≡ true) (e : i.operand ≡ o) (w : i.widened ≡ false) where
  abbrev pub anew : Values → Page → Chosen
  anew v page = anew_of (plain o 0) v page

  pub is_extended : o.mode ≡ mode_extended
  is_extended = eqb-true o.mode mode_extended fr.mode

  pub one_of : (i.form ≡ direct) ⊎ (i.form ≡ extended)
  one_of = go (eqb i.form direct) refl
    where
      go : (t : Bool) → eqb i.form direct ≡ t → (i.form ≡ direct) ⊎ (i.form ≡ extended)
      go true q = inl (eqb-true i.form direct q)
      go false q = inr (eqb-true i.form extended (rw q at m))

  pub chosen_anew : (v : Values) (page : Page) (address : ℕ) → choose_of i v page address ≡ Ok (anew v page)
  unfolding choose_of address_of anew_of anew_as pick
  chosen_anew v page address = ⊎_elim (λ (d : i.form ≡ direct). rw (d, e, is_extended, w)) (λ (d : i.form ≡ extended). rw (d, e, is_extended, w)) one_of

  free_next : (v : Values) (page : Page) (address : ℕ) → Next o (choose_of i v page address)
  unfolding anew_of anew_as
  free_next v page address =
      rw (chosen_anew v page address)
      (free fr (by_pick (λ (k : ℕ). is_memory k ≡ true) (becomes_direct o v page) refl refl) refl refl)

-- ---- a branch that was made long is made so again
pub chosen_long : (o : Operand) → MayWiden o → (v : Values) (page : Page) (address : ℕ) → choose_of (long_kept o) v page address ≡ Ok (long_branch (long_kept o) v)
unfolding choose_of branch_of pick
chosen_long o b v page address = rw b.short

-- ---- each build
module _ (o : Operand) (known : recognised o ≡ true) (has : (v : Values) (page : Page) → lacks o (form_of o v page) ≡ false) where
  -- a refused one leaves it as it was
  on_from : (i : Instruction) (p : Present) → i.operand ≡ o → Kept o i → Next o (choose_of i p.values p.page p.address) → Kept o (instruction_in (built_with i p))
  unfolding build_of tried_of accepted_of
  on_from i p e k next = go (early_of i p.values) (choose_of i p.values p.page p.address) next
    where
      go : (n : Result ⊤ Refusal) (c : Result Chosen Refusal) → Next o c → Kept o (instruction_in (handing i (after n (finished_of i c p.address))))
      go (Ok passed) (Ok c) next = subst (λ (x : Operand). Kept o (chosen_for x c)) (sym e) next
      go (Ok passed) (Err n) next = k
      go (Err n) c next = k

  small_form : (f : ℕ) → Steady o f → f < 7
  small_form f s = lacking_none o f (subst (λ (k : ℕ). lacks o k ≡ false) (s.always no_values Unknown) (has no_values Unknown))

  kept_on : (i : Instruction) (p : Present) → Kept o i → Kept o (instruction_in (built_with i p))
  unfolding long_branch
  kept_on i p (steady f s e) =
      subst (λ (j : Instruction). Kept o (instruction_in (built_with j p))) (sym e)
      (on_from (plain o f) p refl (steady f s refl) (steady_next o f s p.values p.page p.address known (small_form f s)))
  kept_on i p (free f m e w) = on_from i p e (free f m e w) (free_next o f i m e w p.values p.page p.address)
  kept_on i p (long b e) =
      subst (λ (j : Instruction). Kept o (instruction_in (built_with j p))) (sym e)
      (on_from (long_kept o) p refl (long b refl) (rw (chosen_long o b p.values p.page p.address) (long b refl)))

  after_kept : (ps : List Present) (i : Instruction) → Kept o i → Kept o (kept_after i ps)
  unfolding kept_after
  after_kept [] i k = k
  after_kept (p ∷ ps) i k = after_kept ps (instruction_in (built_with i p)) (kept_on i p k)

  made_kept : (v : Values) (page : Page) → Kept o (instruction_of o (form_of o v page))
  unfolding instruction_of
  made_kept v page = go (formed o)
    where
      go : Formed o → Kept o (instruction_of o (form_of o v page))
      go (is_steady f s) = steady f s (rw (s.always v page, s.unmarked))
      go (is_free f) = free f (one_of_two o f v page) refl refl

-- ---- of a record that makes an instruction
pub record Lasts (r : Record) (i : Instruction) : Type 0 where
  pub known : recognised r.operand ≡ true
  pub has : (v : Values) (page : Page) → lacks r.operand (form_of r.operand v page) ≡ false
  pub kept : (ps : List Present) → Kept r.operand (kept_after i ps)

pub made_lasts : (r : Record) (i : Instruction) → make_of r ≡ Ok i → Lasts r i
unfolding instruction_of sound
made_lasts r i z =
    let o = r.operand in
    let form = form_of o r.values r.page in
    let whole = made_whole r i z in
    let ready = rw whole at (made_ready r i z) in
    let known : recognised o ≡ true = both_first (recognised o) (ltb form 7 && lawful r.values) ready.0 in
    let has : (v : Values) (page : Page) → lacks o (form_of o v page) ≡ false = λ v page. lacks_same o v r.values page r.page ∙ ready.1 in
    record {
      known = known;
      has = has;
      kept = λ ps. after_kept o known has ps i (subst (Kept o) (sym whole) (made_kept o known has r.values r.page));
    }
