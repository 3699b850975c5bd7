-- A widened branch: only a short branch that may be made long becomes one; it stays so; and each build of it answers as a fresh one of the long branch.
-- Assumes nothing.
use mathlib.Core.Path.{◌≡◌, ◌∙◌, refl, sym, ap, subst}
use mathlib.Core.Bool.{Bool, true, false, not, ◌&&◌, false≢true}
use mathlib.Core.List.{List}
use Prim.Native.Nat.{ℕ}
use native.Mathlib.Omega.{arith}
use lib.Dec.{eqb, ltb}
use borrow.Author.Tests.{eqb-true, eqb-false, ne_eqb, not-true}
use Rattle.std.specs.Prelude.{Result, Ok, Err, IfOk, ⊤}
use Rattle.ground.specs.Choice.{pick}
use Rattle.ground.specs.declared.refusals.Refusal.{Refusal}
use Rattle.ground.specs.declared.refusals.Refusal.TheVariants.{ValueMissing}
use Rattle.ground.specs.declared.refusals.Refusal.TheVariants as refusal
use Rattle.ground.proofs.Tests.{both_first, both_second}
use Rattle.values.specs.declared.pages.Page.{Page}
use Rattle.ground.specs.declared.refusals.Refusal.{Refusal}
use Rattle.rows.specs.declared.Code.{Code}
use Rattle.rows.specs.Forms.{extended, relative}
use Rattle.rows.specs.Sheet.{table_of, page0, page10, page11}
use Rattle.rows.specs.Lookup.{merged_of, placed, has_form_of, known_of, code_of}
use Rattle.rows.specs.Sizes.{number_size_of, long_of}
use Rattle.rows.proofs.Codes.{has_form_known}
use Rattle.rows.proofs.Lengths.{number_has_form, long_of_short}
use Rattle.postbytes.specs.Lists.{strange_list}
use Rattle.instruction.specs.declared.Operand.{Operand}
use Rattle.instruction.specs.declared.Values.{Values}
use Rattle.instruction.specs.declared.Record.{Record}
use Rattle.instruction.specs.declared.Instruction.{Instruction}
use Rattle.instruction.specs.declared.Chosen.{Chosen}
use Rattle.instruction.specs.declared.Argument.{Argument}
use Rattle.instruction.specs.declared.Argument.TheVariants.{Target}
use Rattle.instruction.specs.Names.{mode_extended, exg, tfr, puls, pulu}
use Rattle.instruction.specs.Records.{stepped, recognised, lawful, sound}
use Rattle.instruction.specs.Forms.{form_of, strays, lacks, needs_value}
use Rattle.instruction.specs.Choosing.{settled, long_branch, branch_of, choose_of}
use Rattle.instruction.specs.Bytes.{laid_at, laid_of}
use Rattle.instruction.specs.Building.{instruction_of, make_of, early_of, dirties_of, accepted_of, finished_of, after, tried_of, handing, build_of}
use Rattle.instruction.specs.Sequences.{Present, built_with, instruction_in, kept_after, fresh_with, OnlyShortWidens, NeverWidened, StaysLong, lengthened, long_kept, handing_back, LongAfter}
use Rattle.instruction.proofs.Rows.{branch_size, branch_only, operation_small}
use Rattle.instruction.proofs.Ready.{fresh_tried}
use Rattle.instruction.proofs.Fits.{Early, early_leaves}
use Rattle.instruction.proofs.Choice.{not_strange, choice, address_choice}
use Rattle.instruction.proofs.Formed.{branch_form}
use Rattle.instruction.proofs.Kept.{plain, MayWiden, Kept, steady, free, long, chosen_long, made_lasts}
use Rattle.instruction.proofs.AsFresh.{handed_out}

-- ---- it stays so
pub stays_long : StaysLong
unfolding build_of tried_of accepted_of long_branch
stays_long i p w = go (early_of i v) (early_leaves i v) (choose_of i v p.page p.address) widens
  where
    v : Values
    v = p.values

    Q : Result Chosen Refusal → Type 0
    Q c = IfOk c (λ k. k.widened ≡ true)

    widens : Early i v → Q (choose_of i v p.page p.address)
    widens left =
        choice i v p.page p.address Q (λ n t. tt) (λ _ _ _. w) (λ _ _ _. refl)
        (λ _. address_choice i v p.page Q (λ _ _ _. w) (λ _ _ _ _. tt) (λ _ _ _ _. tt))
        (not_strange i.operand left.known) left.small

    go :
        (n : Result ⊤ Refusal) → IfOk n (λ _. Early i v) →
        (c : Result Chosen Refusal) → (Early i v → Q c) →
        (instruction_in (handing i (after n (finished_of i c p.address)))).widened ≡ true
    go (Ok passed) left (Ok c) q = q left
    go (Ok passed) left (Err n) q = w
    go (Err n) left c q = w

-- ---- what is widened is kept as the long one
kept_long : (o : Operand) (i : Instruction) → Kept o i → i.widened ≡ true → MayWiden o × (i ≡ long_kept o)
kept_long o i (steady f s e) w = absurd (false≢true (sym (ap (λ (j : Instruction). j.widened) e) ∙ w))
kept_long o i (free f m e n) w = absurd (false≢true (sym n ∙ w))
kept_long o i (long b e) w = (b, e)

after_long :
    (r : Record) (i : Instruction) (ps : List Present) →
    make_of r ≡ Ok i →
    (kept_after i ps).widened ≡ true →
    MayWiden r.operand × (kept_after i ps ≡ long_kept r.operand)
after_long r i ps z = kept_long r.operand (kept_after i ps) ((made_lasts r i z).kept ps)

module _ (o : Operand) (b : MayWiden o) where
  has_relative : has_form_of o.operation relative ≡ true
  has_relative = both_second (not (has_form_of o.operation extended)) (has_form_of o.operation relative) b.branch.rows

  lacks_extended : has_form_of o.operation extended ≡ false
  lacks_extended = not-true (has_form_of o.operation extended) (both_first (not (has_form_of o.operation extended)) (has_form_of o.operation relative) b.branch.rows)

  is_short : number_size_of o.operation relative ≡ 1
  is_short = branch_size o.operation has_relative (eqb-false (number_size_of o.operation relative) 2 b.short)

pub only_short_widens : OnlyShortWidens
only_short_widens r i ps z w =
    let b = (after_long r i ps z w).0 in
    (branch_form r.operand b.branch r.values r.page, (is_short r.operand b, b.allowed))

pub never_widened : NeverWidened
never_widened r i ps z h = go (kept_after i ps).widened refl
  where
    go : (t : Bool) → (kept_after i ps).widened ≡ t → (kept_after i ps).widened ≡ false
    go false q = q
    go true q = absurd (false≢true (sym (lacks_extended r.operand (after_long r i ps z q).0) ∙ h))

-- ---- it answers as the long branch
-- a branch leaves the page as it is
branch_clean : (o : Operand) → has_form_of o.operation relative ≡ true → dirties_of o ≡ false
unfolding dirties_of has_form_of placed merged_of table_of page0 page10 page11 pick
branch_clean o h = rw (other tfr refl, other exg refl, other puls refl, other pulu refl)
  where
    other : (k : ℕ) → has_form_of k relative ≡ false → eqb o.operation k ≡ false
    other k n = ne_eqb o.operation k (λ e. false≢true (sym n ∙ subst (λ (m : ℕ). has_form_of m relative ≡ true) e h))

-- bytes do not hang on the widening
abbrev branching : ℕ → Argument → Bool → Chosen
branching operation a widened = record { operation = operation; form = relative; trial = false; widened = widened; argument = a }

laid_alike : (operation : ℕ) (a : Argument) (address : ℕ) → laid_of (branching operation a true) address ≡ laid_of (branching operation a false) address
unfolding laid_of laid_at
laid_alike operation a address = go (code_of operation relative)
  where
    go : (c : Result Code Refusal) → laid_at c (branching operation a true) address ≡ laid_at c (branching operation a false) address
    go (Ok k) = refl
    go (Err r) = refl

-- 1, 2 and 3 of a branch
early_branch :
    (o : Operand) (widened : Bool) (v : Values) →
    recognised o ≡ true → has_form_of o.operation relative ≡ true →
    early_of (record { operand = o; form = relative; trial = false; widened = widened }) v
    ≡ pick (lawful v) (pick (needs_value o.mode relative && not v.given) (Err ValueMissing) (Ok tt)) (Err refusal.Unknown)
unfolding early_of sound lacks strays pick
early_branch o widened v known has = rw (known, has)

module _ (o : Operand) (known : recognised o ≡ true) (b : MayWiden o) where
  long_size : number_size_of (long_of o.operation) relative ≡ 2
  long_size = long_of_short o.operation (operation_small o.operation relative (has_relative o b)) (is_short o b)

  long_has : has_form_of (long_of o.operation) relative ≡ true
  long_has = number_has_form (long_of o.operation) relative (omega (arith, long_size))

  long_known : recognised (lengthened o) ≡ true
  unfolding recognised stepped
  long_known =
      rw (has_form_known (long_of o.operation) relative long_has)
      (both_second (known_of o.operation) (ltb o.mode 8 && (not (strange_list o.registers o.count) && stepped o)) known)

  long_formed : (v : Values) (page : Page) → form_of (lengthened o) v page ≡ relative
  long_formed =
      branch_form (lengthened o)
      (record { mode = b.branch.mode; straight = b.branch.straight; rows = rw (branch_only (long_of o.operation) long_has, long_has) })

  -- the long branch, made
  abbrev fresh : Instruction
  fresh = plain (lengthened o) relative

  fresh_chosen : (v : Values) (page : Page) (address : ℕ) → choose_of fresh v page address ≡ Ok (settled fresh relative (Target v.unsigned.number))
  unfolding choose_of branch_of pick
  fresh_chosen v page address = rw long_size

  long_made : (p : Present) → fresh_with (lengthened o) p ≡ tried_of fresh p.values p.page p.address
  unfolding instruction_of
  long_made p =
      fresh_tried (record { operand = lengthened o; page = p.page; values = p.values }) p.address
      ∙ ap (λ (f : ℕ). tried_of (instruction_of (lengthened o) f) p.values p.page p.address) (long_formed p.values p.page)
      ∙ rw (eqb-true o.mode mode_extended b.branch.mode)

  -- after 1, 2 and 3
  answers_alike :
      (n : Result ⊤ Refusal) (v : Values) (address : ℕ) →
      handing (long_kept o) (after n (Ok (accepted_of (long_kept o) (long_branch (long_kept o) v) address)))
      ≡ handing_back (long_kept o) (after n (Ok (accepted_of (plain (lengthened o) 0) (settled fresh relative (Target v.unsigned.number)) address)))
  unfolding accepted_of long_branch
  answers_alike (Ok passed) v address =
      rw (laid_alike (long_of o.operation) (Target v.unsigned.number) address, branch_clean o (has_relative o b), branch_clean (lengthened o) long_has)
  answers_alike (Err n) v address = refl

  long_answers : (p : Present) → built_with (long_kept o) p ≡ handing_back (long_kept o) (fresh_with (lengthened o) p)
  unfolding build_of tried_of long_branch
  long_answers p =
      let v = p.values in
      rw (
        long_made p,
        handed_out fresh v p.page p.address,
        chosen_long o b v p.page p.address,
        fresh_chosen v p.page p.address,
        early_branch o true v known (has_relative o b),
        early_branch (lengthened o) false v long_known long_has,
      )
      (answers_alike (pick (lawful v) (pick (needs_value o.mode relative && not v.given) (Err ValueMissing) (Ok tt)) (Err refusal.Unknown)) v p.address)

pub long_after : LongAfter
long_after r i ps p z w =
    let x = after_long r i ps z w in
    (x.1, ap (λ (j : Instruction). built_with j p) x.1 ∙ long_answers r.operand (made_lasts r i z).known x.0 p)
