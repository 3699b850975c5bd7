-- Bytes at an address as the writer's tables say them: they are what the tables hold, the writer refuses them only for want of room, and the reader finds them
-- again as one run.
-- Assumes nothing.
use borrow.Author.Tests.{le-ltb}
use mathlib.Core.Path.{◌≡◌, refl, ap, ◌∙◌}
use mathlib.Core.Bool.{Bool, true, false}
use mathlib.Core.List.{List, [], ◌∷◌, ◌++◌, append-nil}
use Prim.Native.Nat.{ℕ, ◌+◌, ◌*◌, ◌/◌, ◌≤◌}
use native.Mathlib.Omega.{arith}
use lib.Dec.{ltb}
use lib.ListN.{length, take, drop}
use lib.Seq.{take_all}
use Rattle.ground.specs.Choice.{pick}
use Rattle.ground.specs.declared.refusals.Refusal.{Refusal}
use Rattle.ground.specs.declared.refusals.Refusal.TheVariants.{NoRoom}
use Rattle.ground.proofs.Choices.{pick_false}
use Rattle.records.specs.Objects.{With, count_of, object_of, objects_of, faulty, too_far, byte_rows}
use Rattle.records.specs.Text.{close, recs, text, text_of}
use Rattle.records.specs.Runs.{runs_of, pieces}
use Rattle.records.specs.Fine.{Bytes}
use Rattle.records.proofs.ByteRows.{byte_rows_length, byte_data, bytes_good}
use Rattle.records.specs.Written.{written_of, buffer_as, buffer_of}
use Rattle.std.specs.Prelude.{Result, Ok, Err}
use Rattle.reader.specs.Answers.{bytes_of as bytes_in, read_of, runs_in}
use Rattle.reader.proofs.Round.{written_reads, written_answers}
use Rattle.roundtrip.specs.Demand.{object_for, text_for}

-- a buffer is changed where the answer is no refusal
stored_by :
    (short : Bool) (n : ℕ) (text d : List ℕ) → buffer_as (pick short (Err NoRoom) (Ok n)) text d ≡ pick short d (text ++ drop (length text) d)
unfolding pick
stored_by true n text d = refl
stored_by false n text d = refl

module _ (address : ℕ) (bytes : List ℕ) (w : Bytes bytes) where
  all_taken : take (2 * length bytes) (byte_rows bytes) ≡ byte_rows bytes
  all_taken = take_all (2 * length bytes) (byte_rows bytes) (omega (arith, byte_rows_length bytes))

  -- one object, with those bytes
  pub one_object : objects_of (object_for address bytes) (byte_rows bytes) ≡ With address bytes ∷ []
  unfolding object_of count_of pick
  one_object = rw (all_taken, byte_data bytes w)

  pub text_object : text_for address bytes ≡ text (recs (With address bytes ∷ []))
  unfolding text_for text_of
  text_object = rw one_object

  not_faulty : faulty (object_for address bytes) (byte_rows bytes) ≡ false
  unfolding faulty count_of pick
  not_faulty =
      let n : length bytes ≤ length (byte_rows bytes) / 2 = omega (arith, byte_rows_length bytes) in
      rw (bytes_good bytes w, le-ltb (length (byte_rows bytes) / 2) (length bytes) n) refl

  module _ (near : address + length bytes ≤ 65536) where
    not_far : too_far (With address bytes ∷ []) ≡ false
    not_far = rw (le-ltb 65536 (address + length bytes) near) refl

    -- the writer refuses it only for want of room
    pub object_answers :
        (room : ℕ) →
        written_of (object_for address bytes) (byte_rows bytes) room
        ≡ pick (ltb room (length (text_for address bytes))) (Err NoRoom) (Ok (length (text_for address bytes)))
    unfolding written_of text_for
    object_answers room = pick_false _ _ not_faulty ∙ pick_false _ _ (ap too_far one_object ∙ not_far)

    pub object_written :
        (room : ℕ) → length (text_for address bytes) ≤ room →
        written_of (object_for address bytes) (byte_rows bytes) room ≡ Ok (length (text_for address bytes))
    object_written room h = object_answers room ∙ pick_false _ _ (le-ltb room (length (text_for address bytes)) h)

    pub object_buffer :
        (d : List ℕ) →
        buffer_of (object_for address bytes) (byte_rows bytes) d
        ≡ pick (ltb (length d) (length (text_for address bytes))) d (text_for address bytes ++ drop (length (text_for address bytes)) d)
    unfolding buffer_of text_for
    object_buffer d =
        let text = text_for address bytes in
        ap (λ (w : Result ℕ Refusal). buffer_as w text d) (object_answers (length d))
        ∙ stored_by (ltb (length d) (length text)) (length text) text d

    -- the run of one object
    one_run : runs_of (pieces (With address bytes ∷ [])) ≡ close address bytes []
    one_run = go bytes
      where
        go : (l : List ℕ) → runs_of (close address l []) ≡ close address l []
        go [] = refl
        go (b ∷ l) = refl

    pub object_run : runs_in (text_for address bytes) ≡ close address bytes []
    object_run = ap runs_in text_object ∙ written_reads (With address bytes ∷ []) (w, tt) not_far ∙ one_run

    pub object_read :
        (room cells : ℕ) → length bytes ≤ room → 2 ≤ cells →
        read_of (text_for address bytes) room cells ≡ Ok (record { bytes = length bytes; runs = length (close address bytes []) })
    object_read room cells h k =
        let s : length (bytes_in (runs_of (pieces (With address bytes ∷ [])))) ≡ length bytes = ap (λ rs. length (bytes_in rs)) one_run ∙ size bytes in
        let c : length (runs_of (pieces (With address bytes ∷ []))) ≡ length (close address bytes []) = ap length one_run in
        let few = runs_few bytes in
        ap (λ (t : List ℕ). read_of t room cells) text_object
        ∙ written_answers (With address bytes ∷ []) (w, tt) not_far room cells (omega arith) (omega arith)
        ∙ rw (s, c) refl
      where
        size : (l : List ℕ) → length (bytes_in (close address l [])) ≡ length l
        size [] = refl
        size (b ∷ l) = ap length (append-nil (b ∷ l))

        runs_few : (l : List ℕ) → length (close address l []) ≤ 1
        runs_few [] = omega arith
        runs_few (b ∷ l) = omega arith
