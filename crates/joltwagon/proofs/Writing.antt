-- Writing a text with an answer beside it: where the answer has too few cells nothing is written, and else the buffer is the writer's.
-- Assumes nothing.
use mathlib.Core.Path.{◌≡◌, refl, ◌∙◌}
use mathlib.Core.Bool.{Bool, true, false}
use mathlib.Core.List.{List}
use Prim.Native.Nat.{ℕ, ◌<◌, ◌≤◌}
use lib.ListN.{length}
use Rattle.std.specs.Prelude.{Result, Ok, Err}
use Rattle.ground.specs.Choice.{pick}
use Rattle.ground.specs.declared.refusals.Refusal.{Refusal}
use Rattle.ground.specs.declared.refusals.Refusal.TheVariants.{Unknown, NoRoom, Beyond}
use Rattle.answers.specs.Steps.{late_of}
use Rattle.answers.proofs.Laws.{Answers}
use Rattle.records.specs.Written.{written_of, buffer_of, longest}
use Rattle.joltwagon.specs.Sizes.{size_said}
use Rattle.joltwagon.specs.Texts.{TextWritten}
use Rattle.joltwagon.proofs.Sizes.{size_late, size_late_leaves, size_leaves}

-- 9 is the last of the writer's refusals, so what comes late does not depend on the room
abbrev chosen : Bool → Bool → Bool → ℕ → Result ℕ Refusal
chosen a b c n = pick a (Err Unknown) (pick b (Err Beyond) (pick c (Err NoRoom) (Ok n)))

late_chosen : (a b c d : Bool) (n : ℕ) → late_of (size_said (chosen a b c n)).refusal ≡ late_of (size_said (chosen a b d n)).refusal
unfolding late_of size_said pick
late_chosen true b c d n = refl
late_chosen false true c d n = refl
late_chosen false false true true n = refl
late_chosen false false true false n = refl
late_chosen false false false true n = refl
late_chosen false false false false n = refl

late_written : (os vs : List ℕ) (room other : ℕ) → late_of (size_said (written_of os vs room)).refusal ≡ late_of (size_said (written_of os vs other)).refusal
unfolding written_of
late_written os vs room other = late_chosen _ _ _ _ _

module _ (os vs out d : List ℕ) where
  abbrev told : Result ℕ Refusal
  told = written_of os vs (length out)

  pub unwritten : {r : ℕ} → length d < 4 → r ≡ late_of (size_said (written_of os vs longest)).refusal → TextWritten os vs out d r out d
  unwritten {r} h e =
      let s = size_late told d h in record {
        refusal = e ∙ late_written os vs longest (length out) ∙ s.value;
        text = size_late_leaves told d (buffer_of os vs out) out h;
        cells = s.answer_after;
      }

  -- the buffer is as it was beside a refusal of the writer's own
  kept : (r : Refusal) → written_of os vs (length out) ≡ Err r → buffer_of os vs out ≡ out
  unfolding buffer_of
  kept r e = rw e

  pub written :
      {r : ℕ} {e f : List ℕ} → 4 ≤ length d → e ≡ buffer_of os vs out → Answers (size_said told) r d f →
      TextWritten os vs out d r e f
  written {r} {e} {f} h p a = record {
    refusal = a.value;
    text = size_leaves told d (buffer_of os vs out) out h kept p;
    cells = a.answer_after;
  }
