-- The cells that the code puts together are those of the definitions.
-- Assumes nothing.
use mathlib.Core.Path.{◌≡◌, refl, sym}
use mathlib.Core.Bool.{Bool, true, false, ◌&&◌}
use mathlib.Core.List.{List, [], ◌∷◌, ◌++◌}
use Prim.Native.Nat.{ℕ}
use native.Mathlib.Omega.{arith}
use lib.ListN.{get_or}
use Rattle.std.specs.Prelude.{Result, Ok, Err}
use Rattle.ground.specs.declared.refusals.Refusal.{Refusal}
use Rattle.ground.specs.Refusals.{unknown, number_of}
use Rattle.ground.proofs.Choices.{pick_true, pick_false}
use Rattle.values.specs.declared.Value.{Value}
use Rattle.values.specs.declared.pages.Page.{Page}
use Rattle.answers.specs.Said.{Said, said}
use Rattle.answers.proofs.Laws.{Answers, refused, said_as}
use Rattle.answers.specs.Sizes.{size_cells, flag_cell}
use Rattle.decoder.specs.declared.Decoded.{Decoded}
use Rattle.decoder.specs.declared.Parts.{Parts}
use Rattle.decoder.specs.Origin.{origin}
use Rattle.decoder.specs.Meaning as decoded
use Rattle.decoder.specs.Meaning.{parts_of}
use Rattle.decoder.specs.Front.{decode_of}
use Rattle.decoder.specs.Run.{run_of, next_of, counted_of}
use Rattle.expressions.specs.declared.Evaluated.{Evaluated}
use Rattle.instruction.specs.declared.Instruction.{Instruction}
use Rattle.instruction.specs.declared.Values.{Values}
use Rattle.instruction.specs.declared.Built.{Built}
use Rattle.instruction.specs.Building.{build_of, told}
use Rattle.std.specs.Prelude.{Result, Ok}
use Rattle.ground.specs.declared.refusals.Refusal.{Refusal}
use Rattle.instruction.specs.declared.Refused.{Refused}
use Rattle.ground.proofs.Refused.{refused_number}
use Rattle.reader.specs.declared.Read.{Read}
use Rattle.joltwagon.specs.Decoding.{part_cells, decoded_said, counted_said}
use Rattle.joltwagon.specs.Evaluating.{value_cells, evaluated_said, value_said}
use Rattle.joltwagon.specs.Texts.{read_said}
use Rattle.joltwagon.specs.Kept.{kept_cells}
use Rattle.joltwagon.specs.Instructing.{front_cells, built_said, of_row}

pub decoded_said_lem :
    (d : Decoded) {p : Parts} {f : ℕ} → p ≡ parts_of d.meaning.kind → f ≡ flag_cell p.indirect →
    said 0 (d.length ∷ d.meaning.operation ∷ p.kind ∷ f ∷ p.step ∷ p.registers ∷ p.first ∷ p.second ∷ p.number ∷ [])
    ≡ decoded_said (Ok d)
unfolding decoded_said part_cells
decoded_said_lem d e g = rw (g, e)

pub counted_said_lem : (count : ℕ) {n : List ℕ} → n ≡ size_cells count → said 0 n ≡ counted_said (Ok count)
unfolding counted_said
counted_said_lem count g = rw g

pub refusal_told : {s : Said} (e : Refusal) (d : List ℕ) {r : ℕ} → r ≡ number_of e → said (number_of e) [] ≡ s → Answers s r d d
refusal_told e d q p = rw q (said_as d p (refused (said (number_of e) []) d (refused_number e)))

pub evaluated_said_lem :
    {r : Result Evaluated Refusal} {e : Evaluated} → r ≡ Ok e →
    said 0 (e.unsigned.number ∷ e.unsigned.width ∷ e.signed.number ∷ e.signed.width ∷ []) ≡ evaluated_said r
unfolding evaluated_said value_cells
evaluated_said_lem e = rw e

pub value_said_lem : {r : Result Value Refusal} {v : Value} → r ≡ Ok v → said 0 (v.number ∷ v.width ∷ []) ≡ value_said r
unfolding value_said value_cells
value_said_lem e = rw e

pub evaluated_refused : {r : Result Evaluated Refusal} {why : Refusal} {n : ℕ} → r ≡ Err why → n ≡ number_of why → said n [] ≡ evaluated_said r
unfolding evaluated_said
evaluated_refused e f = rw (e, f)

pub value_refused : {r : Result Value Refusal} {why : Refusal} {n : ℕ} → r ≡ Err why → n ≡ number_of why → said n [] ≡ value_said r
unfolding value_said
value_refused e f = rw (e, f)

pub read_said_lem :
    {q : Result Read Refusal} {r : Read} {m n : List ℕ} → Ok r ≡ q → m ≡ size_cells r.bytes → n ≡ size_cells r.runs →
    said 0 (m ++ n) ≡ read_said q
unfolding read_said
read_said_lem e g h = rw (g, h, ← e)

-- a refusal is answered by its number, and leaves everything
pub refused_told : (n : Refusal) (d : List ℕ) → Answers (said (number_of n) []) (number_of n) d d
refused_told n d = refused (said (number_of n) []) d (refused_number n)

pub built_refusal : (b : Result Built Refusal) → (built_said b).refusal ≡ told b
built_refusal (Ok b) = refl
built_refusal (Err n) = refl

pub front_by_cell :
    (b : Built) {b₀ b₁ b₂ b₃ b₄ f : ℕ} →
    b₀ ≡ get_or b.bytes 0 0 →
    b₁ ≡ get_or b.bytes 1 0 →
    b₂ ≡ get_or b.bytes 2 0 →
    b₃ ≡ get_or b.bytes 3 0 →
    b₄ ≡ get_or b.bytes 4 0 →
    f ≡ flag_cell b.dirties →
    b.length ∷ b₀ ∷ b₁ ∷ b₂ ∷ b₃ ∷ b₄ ∷ f ∷ [] ≡ front_cells b
unfolding front_cells
front_by_cell b s₀ s₁ s₂ s₃ s₄ t = cc

pub kept_by_cell :
    (i : Instruction) {a b d r₀ r₁ r₂ r₃ r₄ r₅ r₆ r₇ e f : ℕ} →
    a ≡ flag_cell i.operand.indirect →
    b ≡ flag_cell i.operand.forced →
    d ≡ flag_cell i.operand.widening →
    r₀ ≡ get_or i.operand.registers 0 0 →
    r₁ ≡ get_or i.operand.registers 1 0 →
    r₂ ≡ get_or i.operand.registers 2 0 →
    r₃ ≡ get_or i.operand.registers 3 0 →
    r₄ ≡ get_or i.operand.registers 4 0 →
    r₅ ≡ get_or i.operand.registers 5 0 →
    r₆ ≡ get_or i.operand.registers 6 0 →
    r₇ ≡ get_or i.operand.registers 7 0 →
    e ≡ flag_cell i.trial →
    f ≡ flag_cell i.widened →
    i.operand.operation
    ∷ i.operand.mode
    ∷ a
    ∷ b
    ∷ i.operand.step
    ∷ d
    ∷ i.operand.count
    ∷ r₀
    ∷ r₁
    ∷ r₂
    ∷ r₃
    ∷ r₄
    ∷ r₅
    ∷ r₆
    ∷ r₇
    ∷ i.form
    ∷ e
    ∷ f
    ∷ []
    ≡ kept_cells i
unfolding kept_cells
kept_by_cell i p q r s₀ s₁ s₂ s₃ s₄ s₅ s₆ s₇ t u = cc

-- what is no row is refused by 1; what is one is answered
pub no_row : {t : Bool} (s : Said) (d : List ℕ) → t ≡ false → Answers (of_row t s) unknown d d
unfolding of_row
no_row s d e = said_as d (sym (pick_false s (said unknown []) e)) (refused (said unknown []) d (λ z. omega arith))

pub row : {t : Bool} (s : Said) (d : List ℕ) {r : ℕ} {f : List ℕ} → t ≡ true → Answers s r d f → Answers (of_row t s) r d f
unfolding of_row
row s d e = said_as d (sym (pick_true s (said unknown []) e))

-- what the calls told, of the definitions
pub both_told : {a b x y : Bool} {t : Bool} → a ≡ x → b ≡ y → (a && b) ≡ t → (x && y) ≡ t
both_told p q e = rw (p, q) at e

pub build_told :
    {b : Result Built Refused} {i j : Instruction} {v w : Values} {p q : Page} (address : ℕ) → b ≡ build_of i v p address → i ≡ j → v ≡ w → p ≡ q →
    b ≡ build_of j w q address
build_told address e f g h = cc

-- what was read, under the page of a number
pub decode_told :
    {d : decoded.Answer} {p q : Page} (bytes : List ℕ) (address : ℕ) → d ≡ decode_of bytes (origin address p) → p ≡ q → d ≡ decode_of bytes (origin address q)
decode_told bytes address e f = cc

pub next_told :
    {d : decoded.Answer} {p q : Page} (bytes : List ℕ) (address at : ℕ) → d ≡ next_of bytes (origin address p) at → p ≡ q → d ≡ next_of bytes (origin address q) at
next_told bytes address at e f = cc

pub count_told :
    {c : Result ℕ Refusal} {p q : Page} (bytes : List ℕ) (address : ℕ) → c ≡ counted_of (run_of bytes (origin address p)) → p ≡ q →
    c ≡ counted_of (run_of bytes (origin address q))
count_told bytes address e f = cc
