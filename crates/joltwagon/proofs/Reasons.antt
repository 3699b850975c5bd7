-- The reason behind a build, and the field beside a refusal.
-- Assumes nothing.
use mathlib.Core.Path.{◌≡◌, refl, sym, ap, ◌∙◌}
use mathlib.Core.Bool.{Bool, true, false, ◌||◌, not}
use mathlib.Core.List.{List, [], ◌∷◌, ◌++◌}
use Prim.Native.Nat.{ℕ, ◌≤◌}
use native.Mathlib.Omega.{arith}
use borrow.Author.Tests.{eqb-true, eqb-false, ne_eqb}
use lib.Dec.{eqb, leb}
use lib.ListN.{length, replicate}
use Rattle.std.specs.Prelude.{Result, Ok, Err, IfErr, is_ok}
use Rattle.ground.specs.Choice.{pick}
use Rattle.ground.specs.declared.refusals.Refusal.{Refusal}
use Rattle.ground.specs.Refusals.{unknown, branch_too_far, no_room, number_of}
use Rattle.ground.proofs.Choices.{pick_true, pick_false, by_test, by_pick}
use Rattle.answers.specs.Said.{Said, said, refusal_of, beside, lent_after, cells_after}
use Rattle.answers.specs.Sizes.{flag_cell}
use Rattle.answers.proofs.Laws.{Answers, refused, said_as}
use Rattle.instruction.specs.declared.Record.{Record}
use Rattle.instruction.specs.declared.Built.{Built}
use Rattle.instruction.specs.Building.{told}
use Rattle.ground.proofs.Refused.{refused_number}
use Rattle.instruction.proofs.Refuses.{fresh_small}
use Rattle.entries.specs.Entries.{entry_of}
use Rattle.why.specs.declared.Field.{Field}
use Rattle.why.specs.declared.Field.TheVariants.{Operation, Mode, Indirect, Forced, Step, Widening, Registers, Page, Values}
use Rattle.why.specs.declared.Reason.{Reason}
use Rattle.why.specs.declared.Parts.{Parts}
use Rattle.why.specs.declared.Explained.{Explained}
use Rattle.why.specs.Numbers.{field_number, parts_of}
use Rattle.why.specs.Fields.{field_of}
use Rattle.why.specs.Reasons.{address_reason, branch_reason, relative_reason, offset_reason, extended_reason, reason_for}
use Rattle.why.specs.Explaining.{answer_of, reason_as, explained_of}
use Rattle.joltwagon.specs.Kept.{kept_cells}
use Rattle.joltwagon.specs.Instructing.{front_cells, built_said, of_row, assemble_said}
use Rattle.joltwagon.specs.Explaining.{reason_cells, explained_said, why_said, field_told}
use Rattle.joltwagon.proofs.Spoken as spoken
use Rattle.joltwagon.proofs.Spoken.{built_refusal}

pub reason_by_cell :
    (p : Parts) {f u e n : ℕ} →
    f ≡ flag_cell p.forced →
    u ≡ flag_cell p.unknown →
    e ≡ flag_cell p.elsewhere →
    n ≡ flag_cell p.near →
    p.kind ∷ f ∷ u ∷ e ∷ p.number ∷ n ∷ p.bits ∷ [] ≡ reason_cells p
unfolding reason_cells
reason_by_cell p q r s t = cc

-- ---- the build, handed out into an answer of its own
abbrev room : List ℕ
room = replicate 25 0

module _ (b : Result Built Refusal) {r : ℕ} {l : List ℕ} (a : Answers (built_said b) r room l) where
  own_refusal : r ≡ told b
  unfolding refusal_of front_cells kept_cells pick
  own_refusal = a.value ∙ from b
    where
      from : (x : Result Built Refusal) → refusal_of (built_said x) (length room) ≡ told x
      from (Ok x) = refl
      from (Err n) = by_test (λ (k : ℕ). k ≡ number_of n) (eqb (number_of n) 0) (λ t. sym (eqb-true _ _ t)) (λ _. refl)

  own_cells : told b ≡ 0 → l ≡ (built_said b).cells
  unfolding refusal_of lent_after cells_after front_cells kept_cells pick
  own_cells z = a.answer_after ∙ from b z
    where
      from : (x : Result Built Refusal) → told x ≡ 0 → cells_after (built_said x) room ≡ (built_said x).cells
      from (Ok x) y = refl
      from (Err n) y = absurd (refused_number n y)

-- of what is refused, the cells do not count
refused_alike : (s t : Said) (d : List ℕ) {r : ℕ} {e : List ℕ} → s.refusal ≡ t.refusal → (t.refusal ≡ 0 → ⊥) → Answers s r d e → Answers t r d e
refused_alike s t d p h a =
    let was = refused s d (λ z. h (sym p ∙ z)) in
    let is = refused t d h in
    record { value = a.value ∙ sym was.value ∙ p ∙ is.value; answer_after = a.answer_after ∙ sym was.answer_after ∙ is.answer_after }

-- a return with something told beside its refusal, and the slice after it
abbrev Tells : Said → (field r : ℕ) (d e : List ℕ) → Type 0
Tells s field r d e = record { value : r ≡ beside (refusal_of s (length d)) field; answer_after : e ≡ cells_after s d }

-- handed on with the reason behind it
explained_said_lem :
    (e : Explained) {n : ℕ} {build reason : List ℕ} → n ≡ told e.built → build ≡ (built_said e.built).cells → reason ≡ reason_cells (parts_of e.reason) →
    said n (build ++ reason) ≡ explained_said e
unfolding explained_said
explained_said_lem e p q r = rw (p, q, r)

module _ (e : Explained) (d : List ℕ) {n r : ℕ} {build reason d' : List ℕ} (a : Answers (built_said e.built) n room build) where
  by_outcome :
      (t : Bool) → eqb (told e.built) 0 ≡ t → reason ≡ reason_cells (parts_of e.reason) → Answers (said n (build ++ reason)) r d d' →
      Answers (explained_said e) r d d'
  unfolding explained_said
  by_outcome true t q h = said_as d (explained_said_lem e (own_refusal e.built a) (own_cells e.built a (eqb-true _ _ t)) q) h
  by_outcome false t q h = refused_alike (said n (build ++ reason)) (explained_said e) d (own_refusal e.built a) (eqb-false _ _ t) h

  pub explained :
      {x : ℕ} {p : Parts} → p ≡ parts_of e.reason → reason ≡ reason_cells p → Answers (said n (build ++ reason)) r d d' → x ≡ beside r p.field →
      Tells (explained_said e) (parts_of e.reason).field x d d'
  explained {x} {p} q f h t =
      let s = by_outcome (eqb (told e.built) 0) refl (f ∙ ap reason_cells q) h in
      record { value = t ∙ ap (λ (k : ℕ). beside k p.field) s.value ∙ ap (λ (k : Parts). beside (refusal_of (explained_said e) (length d)) k.field) q; answer_after = s.answer_after }

-- ---- the row
module _ (row : List ℕ) (address : ℕ) (d : List ℕ) {r : ℕ} where
  pub no_row : leb 21 (length row) ≡ false → r ≡ beside unknown 0 → Tells (why_said row address) (field_told row address) r d d
  unfolding why_said field_told
  no_row t e =
      let s = spoken.no_row (explained_said (explained_of row address)) d t in
      record { value = e ∙ ap (λ (k : ℕ). beside k 0) s.value ∙ ap (beside (refusal_of (why_said row address) (length d))) (sym (pick_false _ _ t)); answer_after = s.answer_after }

  pub a_row :
      {x : Explained} {e : List ℕ} → leb 21 (length row) ≡ true → x ≡ explained_of row address → Tells (explained_said x) (parts_of x.reason).field r d e →
      Tells (why_said row address) (field_told row address) r d e
  unfolding why_said field_told of_row pick
  a_row t p h = rw (t, ← p) h

-- ---- what is promised of it
-- "Refusals: as the build's."
pub as_assembled : (row : List ℕ) (address : ℕ) → (why_said row address).refusal ≡ (assemble_said row address).refusal
unfolding why_said assemble_said of_row explained_said explained_of built_said
as_assembled row address =
    by_test (λ (s : Said). s.refusal ≡ (assemble_said row address).refusal) (leb 21 (length row))
    (λ t. sym (built_refusal (answer_of row address)) ∙ sym (ap (λ (s : Said). s.refusal) (pick_true _ _ t)))
    (λ t. sym (ap (λ (s : Said). s.refusal) (pick_false _ _ t)))

-- and behind its cells the reason
pub behind_the_build :
    (row : List ℕ) (address : ℕ) → leb 21 (length row) ≡ true →
    (why_said row address).cells ≡ (assemble_said row address).cells ++ reason_cells (parts_of (explained_of row address).reason)
unfolding why_said assemble_said of_row explained_said explained_of pick
behind_the_build row address t = rw t

-- of an accepted record no field is told
no_field : (r : Record) (address : ℕ) → (parts_of (reason_for r address)).field ≡ 0
unfolding reason_for extended_reason address_reason branch_reason relative_reason offset_reason
no_field r address =
    let P : Reason → Type 0 = λ x. (parts_of x).field ≡ 0 in
    by_pick P _ (by_pick P _ refl (by_pick P _ refl (by_pick P _ refl refl))) (by_pick P _ refl (by_pick P _ refl refl))

some_field : (field : Field) → eqb (field_number field) 0 ≡ false
some_field Operation = refl
some_field Mode = refl
some_field Indirect = refl
some_field Forced = refl
some_field Step = refl
some_field Widening = refl
some_field Registers = refl
some_field Page = refl
some_field Values = refl

-- a field is told exactly of a record that is refused
pub field_exactly : (row : List ℕ) (address : ℕ) → eqb (field_told row address) 0 ≡ (not (leb 21 (length row)) || is_ok (answer_of row address))
unfolding field_told explained_of
field_exactly row address =
    by_test (λ (n : ℕ). eqb n 0 ≡ (not (leb 21 (length row)) || is_ok (answer_of row address))) (leb 21 (length row))
    (λ t. rw t (from (answer_of row address)))
    (λ t. rw t)
  where
    from : (b : Result Built Refusal) → eqb (parts_of (reason_as row b address)).field 0 ≡ is_ok b
    from (Ok b) = rw (no_field (entry_of row) address)
    from (Err n) = some_field (field_of row (number_of n))

-- and so none beside 9, which is for the answer and not for the record
pub nine_tells_none : (row : List ℕ) (address n : ℕ) → refusal_of (why_said row address) n ≡ no_room → field_told row address ≡ 0
unfolding why_said field_told of_row explained_said explained_of refusal_of
nine_tells_none row address n =
    by_test (λ (m : ℕ). refusal_of (why_said row address) n ≡ no_room → m ≡ 0) (leb 21 (length row))
    (λ t. rw (pick_true (explained_said (explained_of row address)) (said unknown []) t) (from (answer_of row address) (fresh_small (entry_of row) address)))
    (λ _ _. refl)
  where
    from :
        (b : Result Built Refusal) → IfErr b (λ m. number_of m ≤ branch_too_far) →
        refusal_of (explained_said (record { built = b; reason = reason_as row b address })) n ≡ no_room → (parts_of (reason_as row b address)).field ≡ 0
    from (Ok b) s h = no_field (entry_of row) address
    from (Err m) s h = absurd (omega (arith, s, sym (pick_false _ _ (ne_eqb (number_of m) 0 (refused_number m))) ∙ h))
