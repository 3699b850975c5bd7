-- What laying left at the front of a scratch that has room for every list, and what the writing makes of it.
-- Assumes nothing.
use mathlib.Core.Path.{◌≡◌, refl, sym, ap, ◌∙◌}
use mathlib.Core.List.{List, ◌++◌}
use Prim.Native.Nat.{ℕ, ◌≤◌, ◌<◌}
use native.Mathlib.Omega.{arith}
use lib.ListN.{length, take, drop, length-append}
use lib.Seq.{take_at, length-take-le}
use Rattle.records.specs.Written.{written_of, buffer_of}
use Rattle.std.specs.Prelude.{Result, Ok, Err}
use Rattle.ground.specs.declared.refusals.Refusal.{Refusal}
use Rattle.laying.specs.Entries.{entries_of}
use Rattle.laying.specs.Laying as laying
use Rattle.laying.specs.Laying.{lay_of, answer_of}
use Rattle.laying.specs.Exactly.{bytes_from}
use Rattle.laying.proofs.Exactly.{laid_exactly, size_exactly}
use Rattle.laying.proofs.Outcomes.{refused_of}
use Rattle.records.specs.Objects.{byte_rows}
use Rattle.roundtrip.specs.Demand.{object_for}
use Rattle.roundtrip.specs.Comparing.{all_room}
use Rattle.roundtrip.specs.LaidText.{laid_text, laid_buffer}
use Rattle.roundtrip.proofs.Written.{object_answers, object_buffer}
use Rattle.roundtrip.proofs.Demand.{Taken, laid_taken}
use Rattle.roundtrip.proofs.Equal.{room_ample}

module _ (list : List ℕ) (address : ℕ) (d : List ℕ) (room : 5120 ≤ length d) where
  abbrev outcome : Result (List ℕ) Refusal
  outcome = lay_of list address all_room

  -- ---- refused
  module _ (x : Refusal) (a : Err x ≡ answer_of (lay_of list address (length d))) where
    is_refused_lem : outcome ≡ Err x
    is_refused_lem = sym (room_ample list address (length d) room) ∙ refused_of (lay_of list address (length d)) x (sym a)

    pub text_refused : (space : ℕ) → Err x ≡ laid_text list address space
    unfolding laid_text
    text_refused space = rw is_refused_lem

    pub buffer_refused : (out : List ℕ) → out ≡ laid_buffer list address out
    unfolding laid_buffer
    buffer_refused out = rw is_refused_lem

  -- ---- laid
  module _ (n : ℕ) (a : Ok n ≡ answer_of (lay_of list address (length d))) (h : address < 65536) (e : List ℕ) (b : e ≡ laying.buffer_of (lay_of list address (length d)) d) where
    abbrev bytes : List ℕ
    bytes = bytes_from (entries_of list) address

    there : lay_of list address (length d) ≡ Ok bytes
    there = size_exactly list address (length d) (omega arith) (sym a)

    is_laid_lem : outcome ≡ Ok bytes
    is_laid_lem = sym (room_ample list address (length d) room) ∙ there

    size : n ≡ length bytes
    size = let q = ap answer_of there in cc

    stored : e ≡ bytes ++ drop (length bytes) d
    stored = b ∙ ap (λ (o : Result (List ℕ) Refusal). laying.buffer_of o d) there

    front : take n e ≡ bytes
    front = rw (stored, size) (take_at bytes (drop (length bytes) d) (length bytes) refl)

    pub front_fits : n ≤ length e
    front_fits = omega (arith, size, ap length stored, length-append bytes (drop (length bytes) d))

    -- so many bytes, and no more than the scratch has
    pub front_size : (length (take n e) ≡ n) × (n ≤ length d)
    front_size =
        let fits = ((laid_exactly list address (length d) (omega arith) bytes).0 there).1 in
        (length-take-le n e front_fits, omega (arith, size, fits.enough))

    taken : Taken list address all_room bytes
    taken = laid_taken list address all_room bytes h is_laid_lem

    abbrev objects : List ℕ
    objects = object_for address (take n e)

    abbrev values : List ℕ
    values = byte_rows (take n e)

    pub text_written : (space : ℕ) {x : Result ℕ Refusal} → x ≡ written_of objects values space → x ≡ laid_text list address space
    unfolding laid_text
    text_written space q = q ∙ rw (front, is_laid_lem) (object_answers address bytes taken.small taken.near space)

    pub buffer_written : (out : List ℕ) {x : List ℕ} → x ≡ buffer_of objects values out → x ≡ laid_buffer list address out
    unfolding laid_buffer
    buffer_written out q = q ∙ rw (front, is_laid_lem) (object_buffer address bytes taken.small taken.near out)
