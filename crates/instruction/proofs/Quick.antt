-- A build looks its row up once. What it chose has a code exactly if the instruction's own row has its form, so that a code that was found tells 1 and 2 of the row.
-- Assumes nothing.
use mathlib.Core.Path.{◌≡◌, refl, sym, ap, ◌∙◌}
use mathlib.Core.Bool.{Bool, true, false, not, ◌&&◌, ◌||◌, and-false}
use Prim.Native.Nat.{ℕ, ◌<◌}
use native.Mathlib.Omega.{arith}
use lib.Dec.{eqb, ltb}
use borrow.Author.Tests.{eqb-true, eqb-false, ltb-true, not-true}
use Rattle.std.specs.Prelude.{Result, is_ok, Ok, Err, IfOk, ⊤}
use Rattle.std.specs.Result.{result_map_both}
use Rattle.ground.specs.Choice.{pick}
use Rattle.ground.specs.declared.refusals.Refusal.{Refusal}
use Rattle.ground.proofs.Tests.{both_first, both_second}
use Rattle.values.specs.declared.pages.Page.{Page}
use Rattle.rows.specs.declared.Code.{Code}
use Rattle.rows.specs.Forms.{direct, extended, relative}
use Rattle.rows.specs.Lookup.{merged_of, has_form_of, code_of}
use Rattle.rows.specs.Sizes.{number_size_of, long_of}
use Rattle.rows.proofs.Codes.{has_form_code, has_form_known}
use Rattle.rows.proofs.Laws.{code_merged}
use Rattle.rows.proofs.Lengths.{number_has_form, long_of_other}
use Rattle.postbytes.specs.Lists.{strange_list}
use Rattle.instruction.specs.declared.Values.{Values}
use Rattle.instruction.specs.declared.Instruction.{Instruction}
use Rattle.instruction.specs.declared.Chosen.{Chosen}
use Rattle.instruction.specs.declared.Laid.{Laid}
use Rattle.instruction.specs.declared.Built.{Built}
use Rattle.instruction.specs.declared.Refused.{Refused}
use Rattle.instruction.specs.declared.Outcome.{Outcome}
use Rattle.instruction.specs.Records.{recognised, lawful, sound}
use Rattle.instruction.specs.Forms.{strays, lacks, needs_value}
use Rattle.instruction.specs.Choosing.{long_branch, choose_of}
use Rattle.instruction.specs.Bytes.{laid_at, laid_of}
use Rattle.instruction.specs.Building.{early_of, dirties_of, accepted_of, finished_of, after, tried_of, refused_with, handing, build_of}
use Rattle.instruction.specs.Sequences.{told_of}
use Rattle.instruction.specs.Quick.{regular, matched, misses, valued, fit, CodeTells, without_operand, outcome_of, with_outcome}
use Rattle.instruction.proofs.Results.{of_ok}
use Rattle.instruction.proofs.Rows.{direct_extended}
use Rattle.instruction.proofs.Formed.{is_memory}
use Rattle.instruction.proofs.Choice.{regular_named, choice, address_choice}

-- ---- the rows of what is chosen
-- a row has both memory forms or none
memory_row : (o f : ℕ) → is_memory f ≡ true → has_form_of o f ≡ has_form_of o extended
memory_row o f m = go (eqb f direct) refl
  where
    go : (t : Bool) → eqb f direct ≡ t → has_form_of o f ≡ has_form_of o extended
    go true q = ap (has_form_of o) (eqb-true f direct q) ∙ direct_extended o
    go false q = ap (has_form_of o) (eqb-true f extended (rw q at m))

-- only a branch has a long branch
long_row : (o : ℕ) → o < 256 → has_form_of (long_of o) relative ≡ true → has_form_of o relative ≡ true
long_row o small h = go (eqb (number_size_of o relative) 1) refl
  where
    go : (t : Bool) → eqb (number_size_of o relative) 1 ≡ t → has_form_of o relative ≡ true
    go true q = number_has_form o relative (omega (arith, eqb-true (number_size_of o relative) 1 q))
    go false q =
        has_form_code o relative
        ∙ ap is_ok (sym (code_merged o relative))
        ∙ sym (has_form_code (merged_of o) relative)
        ∙ ap (λ (k : ℕ). has_form_of k relative) (sym (long_of_other o small (eqb-false (number_size_of o relative) 1 q)))
        ∙ h

chosen_row :
    (i : Instruction) (v : Values) (page : Page) (address : ℕ) → i.operand.operation < 256 →
    strange_list i.operand.registers i.operand.count ≡ false → i.form < 7 →
    IfOk (choose_of i v page address) (λ c. has_form_of c.operation c.form ≡ true → has_form_of i.operand.operation i.form ≡ true)
unfolding long_branch
chosen_row i v page address small =
    let o = i.operand.operation in
    let P : Result Chosen Refusal → Type 0 = λ r. IfOk r (λ c. has_form_of c.operation c.form ≡ true → has_form_of o i.form ≡ true) in
    choice i v page address P (λ n t. tt)
    (λ form _ q h. ap (has_form_of o) (eqb-true i.form form q) ∙ h)
    (λ q _ _ h. ap (has_form_of o) (eqb-true i.form relative q) ∙ long_row o small h)
    (λ m. address_choice i v page P (λ form _ n h. memory_row o i.form m ∙ sym (memory_row o form n) ∙ h) (λ _ _ _ _. tt) (λ _ _ _ _. tt))

-- ---- what fits
lawful_valued : (i : Instruction) (v : Values) → valued i v ≡ true → lawful v ≡ true
unfolding valued lawful matched pick
lawful_valued i v = go v.given
  where
    go : (t : Bool) → pick t (matched v) (not (needs_value i.operand.mode i.form)) ≡ true → (not t || matched v) ≡ true
    go true h = h
    go false h = refl

present_valued : (i : Instruction) (v : Values) → valued i v ≡ true → misses i v ≡ false
unfolding valued misses pick
present_valued i v = go v.given
  where
    n : Bool
    n = needs_value i.operand.mode i.form

    go : (t : Bool) → pick t (matched v) (not n) ≡ true → (n && not t) ≡ false
    go true h = and-false n
    go false h = rw (not-true n h)

record Fit (i : Instruction) (v : Values) : Type 0 where
  fields : regular i.operand ≡ true
  small : ltb i.form 7 ≡ true
  right : lawful v ≡ true
  straight : strays i.operand.mode i.form ≡ false
  present : misses i v ≡ false

fit_leaves : (i : Instruction) (v : Values) → fit i v ≡ true → Fit i v
unfolding fit
fit_leaves i v h =
    let s = strays i.operand.mode i.form in
    let a = both_second (regular i.operand) (ltb i.form 7 && (valued i v && not s)) h in
    let b = both_second (ltb i.form 7) (valued i v && not s) a in
    let c = both_first (valued i v) (not s) b in
    record {
      fields = both_first (regular i.operand) (ltb i.form 7 && (valued i v && not s)) h;
      small = both_first (ltb i.form 7) (valued i v && not s) a;
      right = lawful_valued i v c;
      straight = not-true s (both_second (valued i v) (not s) b);
      present = present_valued i v c;
    }

-- the code of what is chosen tells of the instruction's row
pub code_tells :
    (i : Instruction) (v : Values) (page : Page) (address : ℕ) {chosen : Result Chosen Refusal} (c : Chosen) {coded : Result Code Refusal} {found : Bool} →
    i.operand.operation < 256 →
    chosen ≡ choose_of i v page address →
    chosen ≡ Ok c →
    coded ≡ code_of c.operation c.form →
    found ≡ is_ok coded →
    CodeTells i v found
code_tells i v page address c small ec eo ed ef f k =
    let fits = fit_leaves i v f in
    of_ok (λ (x : Chosen). has_form_of x.operation x.form ≡ true → has_form_of i.operand.operation i.form ≡ true)
    (chosen_row i v page address small (regular_named i.operand fits.fields) (ltb-true i.form 7 fits.small)) (sym ec ∙ eo)
    (has_form_code c.operation c.form ∙ ap is_ok (sym ed) ∙ sym ef ∙ k)

-- then none of 1, 2 and 3 is left
pub fit_early : (i : Instruction) (v : Values) → fit i v ≡ true → has_form_of i.operand.operation i.form ≡ true → early_of i v ≡ Ok tt
unfolding early_of sound recognised regular lacks misses pick
fit_early i v f h =
    let fits = fit_leaves i v f in
    rw (has_form_known i.operand.operation i.form h, fits.fields, fits.small, fits.right, h, fits.straight, fits.present)

pub nothing_wrong : (i : Instruction) (v : Values) {fits found : Bool} → CodeTells i v found → fits ≡ fit i v → (fits && found) ≡ true → early_of i v ≡ Ok tt
nothing_wrong i v {fits} {found} tells e h =
    let f = sym e ∙ both_first fits found h in
    fit_early i v f (tells f (both_second fits found h))

-- ---- the first refusal, of 1, 2 and 3 and then of the choice, is the build's
module _ (i : Instruction) (v : Values) (page : Page) (address : ℕ) where
  pub none_first : (c : Chosen) → after (early_of i v) (choose_of i v page address) ≡ Ok c → build_of i v page address ≡ Ok (accepted_of i c address)
  unfolding build_of tried_of
  none_first c = go (early_of i v) (choose_of i v page address)
    where
      go :
          (n : Result ⊤ Refusal) (k : Result Chosen Refusal) →
          after n k ≡ Ok c →
          handing i (after n (finished_of i k address)) ≡ Ok (accepted_of i c address)
      go (Ok passed) (Ok k) e = let same : k ≡ c = cc in ap {B = Result Built Refused} (λ (x : Chosen). Ok (accepted_of i x address)) same
      go (Ok passed) (Err n) e = absurd (cc)
      go (Err n) k e = absurd (cc)

  pub some_first : (n : Refusal) → after (early_of i v) (choose_of i v page address) ≡ Err n → build_of i v page address ≡ Err (refused_with i n)
  unfolding build_of tried_of
  some_first n = go (early_of i v) (choose_of i v page address)
    where
      refused : {A : Type 0} {m : Refusal} → ◌≡◌ {A = Result A Refusal} (Err m) (Err n) → ◌≡◌ {A = Result Built Refused} (Err (refused_with i m)) (Err (refused_with i n))
      refused {A} {m} e = let same : m ≡ n = cc in ap {B = Result Built Refused} (λ (x : Refusal). Err (refused_with i x)) same

      go :
          (m : Result ⊤ Refusal) (k : Result Chosen Refusal) →
          after m k ≡ Err n →
          handing i (after m (finished_of i k address)) ≡ Err (refused_with i n)
      go (Ok passed) (Ok k) e = absurd (cc)
      go (Ok passed) (Err m) e = refused e
      go (Err m) k e = refused e

-- ---- what a build comes to
pub accepted_outcome :
    (i : Instruction) (k : Chosen) (address : ℕ) {coded : Result Code Refusal} {laid : Laid} {dirties : Bool} →
    coded ≡ code_of k.operation k.form →
    laid ≡ laid_at coded k address →
    dirties ≡ dirties_of i.operand →
    record { form = k.form; trial = k.trial; widened = k.widened; bytes = laid.bytes; length = laid.length; dirties = dirties }
    ≡ without_operand (accepted_of i k address)
unfolding accepted_of laid_of
accepted_outcome i k address e f g = cc

-- a build changes nothing of the operand
Whole : Instruction → Built → Type 0
Whole i b = with_outcome i (without_operand b) ≡ b

with_whole : (i : Instruction) (v : Values) (page : Page) (address : ℕ) → IfOk (tried_of i v page address) (Whole i)
unfolding tried_of accepted_of Whole
with_whole i v page address = go (early_of i v) (choose_of i v page address)
  where
    go : (n : Result ⊤ Refusal) (c : Result Chosen Refusal) → IfOk (after n (finished_of i c address)) (Whole i)
    go (Ok passed) (Ok c) = refl
    go (Ok passed) (Err n) = tt
    go (Err n) c = tt

-- an outcome of a build, accepted or refused, tells the build
pub accepted_whole :
    (i : Instruction) (v : Values) (page : Page) (address : ℕ) (out : Outcome) →
    Ok out ≡ outcome_of (tried_of i v page address) →
    Ok (with_outcome i out) ≡ tried_of i v page address
unfolding Whole
accepted_whole i v page address out = go (tried_of i v page address) (with_whole i v page address)
  where
    go : (t : Result Built Refusal) → IfOk t (Whole i) → Ok out ≡ outcome_of t → Ok (with_outcome i out) ≡ t
    go (Ok b) w e = let same : out ≡ without_operand b = cc in ap {B = Result Built Refusal} Ok (ap (with_outcome i) same ∙ w)
    go (Err n) w e = absurd (cc)

pub refused_whole :
    (i : Instruction) (v : Values) (page : Page) (address : ℕ) (n : Refusal) →
    Err n ≡ outcome_of (tried_of i v page address) →
    Err n ≡ tried_of i v page address
refused_whole i v page address n = go (tried_of i v page address)
  where
    go : (t : Result Built Refusal) → Err n ≡ outcome_of t → Err n ≡ t
    go (Ok b) e = absurd (cc)
    go (Err m) e = cc

-- so that what is handed back loses nothing in what it comes to and the instruction
pub with_outcome_lem :
    (i : Instruction) (v : Values) (page : Page) (address : ℕ) →
    handing i (result_map_both (with_outcome i) (λ n. n) (outcome_of (told_of (build_of i v page address)))) ≡ build_of i v page address
unfolding build_of Whole
with_outcome_lem i v page address = go (tried_of i v page address) (with_whole i v page address)
  where
    go :
        (t : Result Built Refusal) →
        IfOk t (Whole i) →
        handing i (result_map_both (with_outcome i) (λ n. n) (outcome_of (told_of (handing i t)))) ≡ handing i t
    go (Ok b) w = ap {B = Result Built Refused} Ok w
    go (Err n) w = refl
