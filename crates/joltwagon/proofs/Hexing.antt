-- Statements to text with an answer beside it: where the answer has too few cells nothing is stored, and else everything lent is as `hex` leaves it.
-- Assumes nothing.
use mathlib.Core.Path.{◌≡◌, refl, sym, ap, ◌∙◌}
use mathlib.Core.Bool.{Bool, true, false}
use mathlib.Core.List.{List, []}
use Prim.Native.Nat.{ℕ, ◌<◌, ◌≤◌}
use native.Mathlib.Omega.{arith}
use borrow.Author.Tests.{lt-ltb}
use lib.Dec.{eqb, ltb}
use lib.ListN.{length}
use Rattle.ground.specs.Choice.{pick}
use Rattle.std.proofs.Common.{Result, Ok, Err, is_ok}
use Rattle.std.specs.Result.{result_and, result_err}
use Rattle.ground.specs.Refusals.{number_of}
use Rattle.ground.specs.declared.refusals.Refusal.{Refusal}
use Rattle.ground.specs.declared.refusals.Refusal.TheVariants.{Unknown, NoSuchMode, ValueMissing, BadRegister, SingleStepIndirect, BadWidth, DirectNotAllowed, BranchTooFar, NoRoom, BadLabel, TooDeep, SegmentRepeated, NotSettled, Undefined, CutShort, BrokenText, OverLimit, Beyond}
use Rattle.ground.proofs.Choices.{pick_true, pick_false}
use Rattle.answers.specs.Said as answers
use Rattle.answers.specs.Said.{Said, said, lent_after, cells_after}
use Rattle.answers.specs.Sizes.{size_cells}
use Rattle.answers.proofs.Laws.{Answers, own_leaves}
use Rattle.records.specs.Objects as records
use Rattle.records.specs.Text.{recs, text_of}
use Rattle.records.proofs.Writing.{length_text}
use Rattle.reader.specs.Answers.{onto}
use Rattle.passes.specs.Labels.{laid_over}
use Rattle.passes.specs.Walks.{Source}
use Rattle.passes.specs.Passes.{passed_of}
use Rattle.assembly.specs.declared.Hexed.{Hexed}
use Rattle.assembly.specs.Objects.{objects_of, values_of}
use Rattle.assembly.specs.Answers.{accepted_of, stored, labelled}
use Rattle.assembly.specs.Text.{settled_text, hex_length, hexed_of}
use Rattle.joltwagon.specs.Settling.{with_passes, number_in, length_said, hex_said, HexWritten}

-- the text has at least its end record
some_text : (src : Source) (l : List ℕ) → 0 < length (settled_text src l)
unfolding settled_text text_of
some_text src l = omega (arith, length_text (recs (records.objects_of (objects_of src l) (values_of src l))))

-- a refusal is no 0
pub told_not : (why : Refusal) → eqb (number_of why) 0 ≡ false
told_not Unknown = refl
told_not NoSuchMode = refl
told_not ValueMissing = refl
told_not BadRegister = refl
told_not SingleStepIndirect = refl
told_not BadWidth = refl
told_not DirectNotAllowed = refl
told_not BranchTooFar = refl
told_not NoRoom = refl
told_not BadLabel = refl
told_not TooDeep = refl
told_not SegmentRepeated = refl
told_not NotSettled = refl
told_not Undefined = refl
told_not CutShort = refl
told_not BrokenText = refl
told_not OverLimit = refl
told_not Beyond = refl

-- a refusal of the call's own says no cells, and leaves everything
err_value : (why : Refusal) (k : ℕ) → number_of why ≡ answers.refusal_of (said (number_of why) []) k
unfolding answers.refusal_of pick
err_value why k = rw (told_not why)

err_leaves : (why : Refusal) (d new x : List ℕ) → x ≡ lent_after (said (number_of why) []) d new x
unfolding lent_after
err_leaves why d new x = sym (pick_false new x (ap (λ (n : ℕ). eqb n 0) (sym (err_value why (length d))) ∙ told_not why))

-- 9 is the last of the refusals, so what comes late does not depend on the room
late_value :
    (r : Result ℕ Refusal) (t : Bool) (n k : ℕ) → k < 4 →
    number_in (result_err (result_and {U = ℕ} r (Err NoRoom))) ≡ answers.refusal_of (length_said (result_and r (pick t (Err NoRoom) (Ok n)))) k
unfolding answers.refusal_of length_said size_cells pick
late_value (Err why) t n k h = rw (told_not why)
late_value (Ok end) true n k h = refl
late_value (Ok end) false n k h = rw (lt-ltb k 4 h)

late_refuses : (r : Result ℕ Refusal) → eqb (number_in (result_err (result_and {U = ℕ} r (Err NoRoom)))) 0 ≡ false
late_refuses (Ok end) = refl
late_refuses (Err why) = told_not why

late_stays : (r : Result ℕ Refusal) → is_ok (result_and {U = ℕ} r (Err NoRoom)) ≡ false
late_stays (Ok end) = refl
late_stays (Err why) = refl

module _ (src : Source) (l x y z d : List ℕ) where
  abbrev accepted : Result ℕ Refusal
  accepted = accepted_of src l (length x) (length y)

  abbrev told : Hexed
  told = hexed_of src l (length x) (length y) (length z)

  abbrev length_in : ℕ → Result ℕ Refusal
  length_in room = hex_length src l (length x) (length y) room

  -- without any room the text is refused
  no_room_lem : length_in 0 ≡ result_and accepted (Err NoRoom)
  unfolding hex_length
  no_room_lem =
      ap (result_and accepted)
      (pick_true (Err NoRoom) (Ok (length (settled_text src l))) (lt-ltb 0 (length (settled_text src l)) (some_text src l)))

  late_return : length d < 4 → number_in (result_err (length_in 0)) ≡ answers.refusal_of (hex_said told) (length d)
  unfolding hex_said hexed_of hex_length
  late_return h =
      ap (λ (r : Result ℕ Refusal). number_in (result_err r)) no_room_lem
      ∙ late_value accepted (ltb (length z) (length (settled_text src l))) (length (settled_text src l)) (length d) h

  late_leaves : length d < 4 → (new t : List ℕ) → t ≡ lent_after (hex_said told) d new t
  unfolding lent_after
  late_leaves h new t =
      sym
      (pick_false new t
      (ap (λ (n : ℕ). eqb n 0) (sym (late_return h) ∙ ap (λ (r : Result ℕ Refusal). number_in (result_err r)) no_room_lem)
      ∙ late_refuses accepted))

  pub unwritten :
      {r : ℕ} {q : Hexed} {l' x' y' : List ℕ} → length d < 4 → q ≡ hexed_of src l (length x) (length y) 0 →
      l' ≡ labelled (is_ok (length_in 0)) src l → x' ≡ stored (is_ok (length_in 0)) (objects_of src l) x →
      y' ≡ stored (is_ok (length_in 0)) (values_of src l) y → r ≡ with_passes (number_in (result_err q.length)) q.passes →
      HexWritten src l x y z d r l' x' y' z d
  unfolding hexed_of labelled stored cells_after
  unwritten {r} {q} {l'} {x'} {y'} h p pl px py e =
      let no : is_ok (length_in 0) ≡ false = ap is_ok no_room_lem ∙ late_stays accepted in record {
        returned = rw p at e ∙ ap (λ (k : ℕ). with_passes k told.passes) (late_return h);
        labels = pl ∙ pick_false _ _ no ∙ late_leaves h (laid_over (passed_of src l).table l) l;
        objects = px ∙ pick_false _ _ no ∙ late_leaves h (onto (objects_of src l) x) x;
        values = py ∙ pick_false _ _ no ∙ late_leaves h (onto (values_of src l) y) y;
        text = late_leaves h (onto (settled_text src l) z) z;
        cells = late_leaves h _ d;
      }

  -- with cells enough everything is as `hex` leaves it
  module _
      {q : Hexed} {l' x' y' z' : List ℕ} (p : q ≡ told) (pl : l' ≡ labelled (is_ok (length_in (length z))) src l)
      (px : x' ≡ stored (is_ok (length_in (length z))) (objects_of src l) x) (py : y' ≡ stored (is_ok (length_in (length z))) (values_of src l) y)
      (pz : z' ≡ stored (is_ok (length_in (length z))) (settled_text src l) z)
    where
      length_is : q.length ≡ length_in (length z)
      unfolding hexed_of
      length_is = ap (λ (h : Hexed). h.length) p

      pub written :
          {r f n : ℕ} {d' : List ℕ} → 4 ≤ length d → q.length ≡ Ok n → Answers (said 0 (size_cells n)) f d d' → r ≡ with_passes f q.passes →
          HexWritten src l x y z d r l' x' y' z' d'
      unfolding hex_said length_said size_cells hexed_of labelled stored onto
      written {r} {f} {n} {d'} h k a e =
          let o : length_in (length z) ≡ Ok n = sym length_is ∙ k in
          let s : Said = said 0 (size_cells n) in record {
            returned = rw (p, a.value) at e ∙ rw o;
            labels = rw o (own_leaves s d (laid_over (passed_of src l).table l) l h (rw o at pl));
            objects = rw o (own_leaves s d (onto (objects_of src l) x) x h (rw o at px));
            values = rw o (own_leaves s d (onto (values_of src l) y) y h (rw o at py));
            text = rw o (own_leaves s d (onto (settled_text src l) z) z h (rw o at pz));
            cells = rw o a.answer_after;
          }

      pub refused_all :
          {r : ℕ} {why : Refusal} → q.length ≡ Err why → r ≡ with_passes (number_of why) q.passes →
          HexWritten src l x y z d r l' x' y' z' d
      unfolding hex_said length_said hexed_of labelled stored cells_after pick
      refused_all {r} {why} k e =
          let o : length_in (length z) ≡ Err why = sym length_is ∙ k in record {
            returned = rw p at e ∙ rw o (ap (λ (n : ℕ). with_passes n told.passes) (err_value why (length d)));
            labels = rw o at pl ∙ rw o (err_leaves why d (laid_over (passed_of src l).table l) l);
            objects = rw o at px ∙ rw o (err_leaves why d (onto (objects_of src l) x) x);
            values = rw o at py ∙ rw o (err_leaves why d (onto (values_of src l) y) y);
            text = rw o at pz ∙ rw o (err_leaves why d (onto (settled_text src l) z) z);
            cells = rw o (err_leaves why d _ d);
          }
