-- Laid bytes put together, and one step of laying.
-- Assumes nothing.
use mathlib.Core.Path.{◌≡◌, refl, sym, ap}
use mathlib.Core.List.{List, [], ◌∷◌, ◌++◌, append_assoc}
use Prim.Native.Nat.{ℕ, ◌+◌, ◌-◌}
use lib.ListN.{length}
use Rattle.std.specs.Prelude.{Result, Ok, Err}
use Rattle.ground.specs.declared.refusals.Refusal.{Refusal}
use Rattle.instruction.specs.declared.Record.{Record}
use Rattle.instruction.specs.Building.{size_told, bytes_told}
use Rattle.laying.specs.Laying.{built_at, size_at, before, after, lay_from, answer_of}

-- ---- bytes before what follows
pub before_none : (o : Result (List ℕ) Refusal) → before [] o ≡ o
before_none (Ok rest) = refl
before_none (Err refusal) = refl

pub before_before : (xs ys : List ℕ) (o : Result (List ℕ) Refusal) → before xs (before ys o) ≡ before (xs ++ ys) o
before_before xs ys (Ok rest) = ap Ok (sym (append_assoc xs ys rest))
before_before xs ys (Err refusal) = refl

-- where there are bytes at last, there were bytes after the first
pub record Rest (xs : List ℕ) (o : Result (List ℕ) Refusal) (bytes : List ℕ) : Type 0 where
  pub rest : List ℕ
  pub outcome : o ≡ Ok rest
  pub whole : xs ++ rest ≡ bytes

pub rest_of : (xs : List ℕ) (o : Result (List ℕ) Refusal) (bytes : List ℕ) → before xs o ≡ Ok bytes → Rest xs o bytes
rest_of xs (Ok rest) bytes e = record { rest = rest; outcome = refl; whole = cc }
rest_of xs (Err refusal) bytes e = cc

-- and the instruction before them was not refused
pub record Passed (r : Result ℕ Refusal) (o : Result (List ℕ) Refusal) (bytes : List ℕ) : Type 0 where
  pub size : ℕ
  pub found : r ≡ Ok size
  pub outcome : o ≡ Ok bytes

pub passed_of : (r : Result ℕ Refusal) (o : Result (List ℕ) Refusal) (bytes : List ℕ) → after r o ≡ Ok bytes → Passed r o bytes
passed_of (Ok size) o bytes e = record { size = size; found = refl; outcome = e }
passed_of (Err refusal) o bytes e = cc

-- what is answered is told of bytes
pub record Answered (o : Result (List ℕ) Refusal) (n : ℕ) : Type 0 where
  pub bytes : List ℕ
  pub outcome : o ≡ Ok bytes
  pub size : n ≡ length bytes

pub answered_of : (o : Result (List ℕ) Refusal) (n : ℕ) → answer_of o ≡ Ok n → Answered o n
answered_of (Ok bytes) n e = record { bytes = bytes; outcome = refl; size = cc }
answered_of (Err refusal) n e = cc

pub refused_of : (o : Result (List ℕ) Refusal) (refusal : Refusal) → answer_of o ≡ Err refusal → o ≡ Err refusal
refused_of (Ok bytes) refusal e = cc
refused_of (Err n) refusal e = let same : n ≡ refusal = cc in ap Err same

-- ---- one step
module _ (entry : Record) (entries : List Record) (at room : ℕ) where
  pub step_accepted :
      {n : ℕ} →
      size_at (built_at entry at) at room ≡ Ok n →
      lay_from (entry ∷ entries) at room
      ≡ before (bytes_told (built_at entry at)) (lay_from entries (at + size_told (built_at entry at)) (room - size_told (built_at entry at)))
  unfolding lay_from
  step_accepted z = rw z

  pub step_refused : {refusal : Refusal} → size_at (built_at entry at) at room ≡ Err refusal → lay_from (entry ∷ entries) at room ≡ Err refusal
  unfolding lay_from
  step_refused z = rw z
