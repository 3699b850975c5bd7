-- An accepted build has at least its row's smallest size, and at most five bytes: a form's code and number are that row's, a postbyte has at least its
-- own byte, and a short branch made long only grows.
-- Assumes nothing.
use mathlib.Core.Path.{◌≡◌, refl, sym, ap, subst, ◌∙◌}
use mathlib.Core.Bool.{Bool, true, false, ◌||◌}
use mathlib.Core.List.{List, [], ◌∷◌}
use mathlib.Core.Logic.{◌⊎◌, inl, inr}
use Prim.Native.Nat.{ℕ, zero, suc, ◌+◌, ◌<◌, ◌≤◌}
use native.Mathlib.Nat.{min-le_left, min-le_right}
use native.Mathlib.Omega.{arith}
use lib.Dec.{T, eqb}
use borrow.Author.Tests.{eqb-true, eqb-false}
use Rattle.std.proofs.lemmas.Result.{IfOk-at_ok}
use Rattle.std.specs.Prelude.{Ok}
use Rattle.ground.specs.Choice.{pick}
use Rattle.ground.specs.Words.{plus, minus}
use Rattle.ground.proofs.Choices.{pick_true, pick_false, by_test, by_pick}
use Rattle.ground.proofs.Ranges.{below}
use Rattle.values.specs.declared.pages.Page.{Page}
use Rattle.rows.specs.Forms.{immediate, direct, indexed, extended, relative, register}
use Rattle.rows.specs.Lookup.{coded, has_form_of, code_of, forms}
use Rattle.rows.specs.Sizes.{any_of, number_at, of_code, number_size_of, least_at, lesser, least_among, smallest_size_of}
use Rattle.rows.proofs.Laws.{code_form}
use Rattle.rows.proofs.Bytes.{number_size_small}
use Rattle.rows.proofs.Lengths.{number_has_form, long_of_short}
use Rattle.postbytes.specs.declared.Encoded.{Encoded}
use Rattle.postbytes.specs.Writing.{encode_of, near_of, relative_of}
use Rattle.postbytes.specs.Meanings.{meaning_of}
use Rattle.postbytes.proofs.Round.{Back, read_back}
use Rattle.instruction.specs.declared.Operand.{Operand}
use Rattle.instruction.specs.declared.Values.{Values}
use Rattle.instruction.specs.declared.Instruction.{Instruction}
use Rattle.instruction.specs.declared.Chosen.{Chosen}
use Rattle.instruction.specs.declared.Laid.{Laid}
use Rattle.instruction.specs.declared.Argument.{Argument}
use Rattle.instruction.specs.declared.Argument.TheVariants.{Nothing, Number, Target, Indexed, Relative, Registers}
use Rattle.instruction.specs.Bytes.{nothing, number_bytes, operand_bytes, code_size, behind_code, laid_at, laid_of}
use Rattle.instruction.specs.Building.{accepted_of, tried_of, build_of}
use Rattle.instruction.proofs.Padded.{build_five, Five}
use Rattle.instruction.specs.declared.Built.{Built}
use Rattle.instruction.proofs.Results.{of_ok, back}
use Rattle.instruction.proofs.Rows.{Has, has_code, number_at_lem, operation_small, short_page}
use Rattle.instruction.proofs.Fits.{unwraps, ArgumentFits, Widens, Fits, build_chosen, Builds}

-- ---- the smallest size is at most the least of each row
lesser_left : (a b : ℕ) → 0 < a → (0 < lesser a b) × (lesser a b ≤ a)
lesser_left zero b h = absurd (omega arith)
lesser_left (suc a) zero h = (omega arith, omega arith)
lesser_left (suc a) (suc b) h = (omega arith, omega (arith, min-le_left a b))

lesser_right : (a b : ℕ) → 0 < b → (0 < lesser a b) × (lesser a b ≤ b)
lesser_right zero b h = (h, omega arith)
lesser_right (suc a) zero h = absurd (omega arith)
lesser_right (suc a) (suc b) h = (omega arith, omega (arith, min-le_right a b))

abbrev least_in : ℕ → ℕ → ℕ
least_in o form = of_code (least_at form) (code_of o form)

least_among_lem :
    (o form : ℕ) (fs : List ℕ) → T (any_of form fs) → 0 < least_in o form → (0 < least_among o fs) × (least_among o fs ≤ least_in o form)
least_among_lem o form [] t h = absurd t
least_among_lem o form (f ∷ fs) t h = from (least_among_lem o form fs) (eqb form f) refl t
  where
    from :
        (T (any_of form fs) → 0 < least_in o form → (0 < least_among o fs) × (least_among o fs ≤ least_in o form)) →
        (b : Bool) →
        eqb form f ≡ b →
        T (b || any_of form fs) →
        (0 < lesser (least_in o f) (least_among o fs)) × (lesser (least_in o f) (least_among o fs) ≤ least_in o form)
    from next true q _ =
        let e : least_in o f ≡ least_in o form = ap (least_in o) (sym (eqb-true form f q)) in
        let l = lesser_left (least_in o f) (least_among o fs) (omega arith) in
        (l.0, omega (arith, l.1))
    from next false q u =
        let n = next u h in
        let l = lesser_right (least_in o f) (least_among o fs) n.0 in
        (l.0, omega (arith, l.1, n.1))

-- a row's code has one byte or two
prefixed : ℕ → ℕ
prefixed page = pick (eqb page 0x00) 1 2

prefixed_some : (page : ℕ) → 1 ≤ prefixed page
unfolding prefixed
prefixed_some page = by_pick (λ (n : ℕ). 1 ≤ n) (eqb page 0x00) (omega arith) (omega arith)

pub smallest_least : (o form p c : ℕ) → code_of o form ≡ coded p c → smallest_size_of o ≤ least_at form p c
unfolding smallest_size_of least_at prefixed
smallest_least o form p c e =
    let l : least_in o form ≡ least_at form p c = ap (of_code (least_at form)) e in
    let s = prefixed_some p in
    let m = least_among_lem o form forms (below (λ (f : ℕ). any_of f forms) 7 tt form (code_form o form p c e)) (omega arith) in
    omega (arith, m.1)

-- ---- and the least of the chosen row is at most what is laid
behind_length : (p c : ℕ) (e : Encoded) → (behind_code p c e).length ≡ prefixed p + e.length
unfolding behind_code prefixed pick
behind_length p c e =
    by_test (λ (l : Laid). l.length ≡ prefixed p + e.length) (eqb p 0x00) (λ q. rw q) (λ q. rw q)

-- the same by the size of a code, as the definitions name it
pub code_length : (p c : ℕ) (e : Encoded) → (behind_code p c e).length ≡ code_size p + e.length
unfolding prefixed code_size
code_length p c e = behind_length p c e

pub number_length : (size n : ℕ) → size ≤ 2 → (number_bytes size n).length ≡ size
unfolding number_bytes
number_length size n h =
    let P : Encoded → Type 0 = λ e. e.length ≡ size in
    by_test P (eqb size 1) (λ q. sym (eqb-true size 1 q))
    (λ q. by_test P (eqb size 2) (λ r. sym (eqb-true size 2 r))
    (λ r. let a = eqb-false size 1 q in let b = eqb-false size 2 r in omega arith))

-- a postbyte, or the bytes of a number
least : ℕ → ℕ → ℕ → ℕ
least form p c = pick (eqb form indexed || eqb form register) 1 (number_at form p c)

number_least : (o form p c n : ℕ) → code_of o form ≡ coded p c → (eqb form indexed || eqb form register) ≡ false → least form p c ≤ (number_bytes (number_size_of o form) n).length
unfolding least
number_least o form p c n e h =
    let a : least form p c ≡ number_at form p c = pick_false _ _ h in
    omega (arith, number_at_lem o form p c e, number_length (number_size_of o form) n (number_size_small o form), a)

postbyte_least : (form p c n : ℕ) → (eqb form indexed || eqb form register) ≡ true → 1 ≤ n → least form p c ≤ n
unfolding least
postbyte_least form p c n h k =
    let a : least form p c ≡ 1 = pick_true _ _ h in
    omega arith

relative_some : (target after : ℕ) (ind : Bool) → 1 ≤ (relative_of target after ind).length
unfolding relative_of
relative_some target after ind =
    by_pick (λ (e : Encoded). 1 ≤ e.length) (near_of (minus target (plus after 2))) (omega arith) (omega arith)

argument_least :
    (operand : Operand) (page : Page) (address o form p c : ℕ) (a : Argument) (after : ℕ) →
    code_of o form ≡ coded p c →
    ArgumentFits operand page address o form a →
    least form p c ≤ (operand_bytes o form a after).length
unfolding operand_bytes least number_at pick
argument_least operand page address o form p c Nothing after e f = rw f (omega arith)
argument_least operand page address o form p c (Number n) after e f = from f.formed
  where
    from : (form ≡ immediate) ⊎ ((form ≡ direct) ⊎ (form ≡ extended)) → least form p c ≤ (number_bytes (number_size_of o form) n).length
    from (inl q) = number_least o form p c n e (rw q)
    from (inr (inl q)) = number_least o form p c n e (rw q)
    from (inr (inr q)) = number_least o form p c n e (rw q)
argument_least operand page address o form p c (Target t) after e f = number_least o form p c _ e (rw f.formed)
argument_least operand page address o form p c (Indexed index) after e f =
    postbyte_least form p c _ (rw f.formed) (IfOk-at_ok (λ b. Back b (meaning_of index)) (unwraps (encode_of index) nothing f.accepted) (read_back index) []).some
argument_least operand page address o form p c (Relative t ind) after e f =
    postbyte_least form p c _ (rw f.formed) (relative_some t after ind)
argument_least operand page address o form p c (Registers b) after e f = postbyte_least form p c 1 (rw f.formed) (omega arith)

laid_least : (operand : Operand) (page : Page) (address : ℕ) (c : Chosen) (p k : ℕ) → code_of c.operation c.form ≡ coded p k → Fits operand page address c → least_at c.form p k ≤ (laid_of c address).length
unfolding laid_of laid_at least_at prefixed least
laid_least operand page address c p k e f =
    rw e
    (let b = operand_bytes c.operation c.form c.argument (plus address (code_size p)) in
    omega (arith, behind_length p k b, argument_least operand page address c.operation c.form p k c.argument (plus address (code_size p)) e f.argument))

-- a branch has its code and its distance
branch_least : (o p c : ℕ) → code_of o relative ≡ coded p c → least_at relative p c ≡ prefixed p + number_size_of o relative
unfolding least_at prefixed pick
branch_least o p c e = ap (λ (n : ℕ). pick (eqb p 0x00) 1 2 + n) (sym (number_at_lem o relative p c e))

chosen_size : (operand : Operand) (page : Page) (address : ℕ) (c : Chosen) → Fits operand page address c → smallest_size_of operand.operation ≤ (laid_of c address).length
unfolding prefixed pick
chosen_size operand page address c f = from f.operation
  where
    k : Has c.operation c.form
    k = has_code c.operation c.form f.row

    laid : least_at c.form k.page k.code ≤ (laid_of c address).length
    laid = laid_least operand page address c k.page k.code k.coded f

    from : (c.operation ≡ operand.operation) ⊎ Widens operand.operation c → smallest_size_of operand.operation ≤ (laid_of c address).length
    from (inl e) =
        let s : smallest_size_of operand.operation ≤ least_at c.form k.page k.code =
        subst (λ (o : ℕ). smallest_size_of o ≤ least_at c.form k.page k.code) e (smallest_least c.operation c.form k.page k.code k.coded) in
        omega (arith, laid)
    from (inr w) =
        let o = operand.operation in
        let h : has_form_of o relative ≡ true = number_has_form o relative (omega (arith, w.short)) in
        let j = has_code o relative h in
        let short : least_at relative j.page j.code ≡ 2 =
        branch_least o j.page j.code j.coded
        ∙ ap (λ (n : ℕ). prefixed j.page + n) w.short
        ∙ ap (λ (n : ℕ). prefixed n + 1) (short_page o j.page j.code j.coded w.short) in
        let d : code_of c.operation relative ≡ coded k.page k.code = ap (code_of c.operation) (sym w.formed) ∙ k.coded in
        let two : number_size_of c.operation relative ≡ 2 = ap (λ (n : ℕ). number_size_of n relative) w.long ∙ long_of_short o (operation_small o relative h) w.short in
        let l : least_at relative k.page k.code ≤ (laid_of c address).length = subst (λ (g : ℕ). least_at g k.page k.code ≤ (laid_of c address).length) w.formed laid in
        omega (arith, smallest_least o relative j.page j.code j.coded, branch_least c.operation k.page k.code d, prefixed_some k.page)

-- from the row's smallest size to five
pub size_between :
    (i : Instruction) (v : Values) (page : Page) (address : ℕ) (b : Built) →
    build_of i v page address ≡ Ok b →
    (smallest_size_of i.operand.operation ≤ b.length) × (b.length ≤ 5)
unfolding accepted_of build_of
size_between i v page address b e =
    let k = of_ok (Builds i v page address) (build_chosen i v page address) (back i (tried_of i v page address) e) in (
      rw k.built (chosen_size i.operand page address k.choice k.fits),
      (of_ok (λ (x : Built). Five x.bytes x.length) (build_five i v page address) e).most,
    )
