-- What the writer's steps do, said of the text that is still to be written. (For the contracts of inner functions.)
use Rattle.std.specs.Prelude.{◌≡◌, List, [], ◌∷◌, ℕ, ◌+◌, ◌≤◌, ◌<◌, length, take}
use Rattle.ground.specs.Stores.{put, Wrote}
use Rattle.records.specs.Line.{line}
use Rattle.records.specs.Text.{Event, recs_from, text}
use Rattle.records.specs.declared.walk.Open.{Open}

-- the present record with the array that holds its bytes
pub record Present : Type 0 where
  pub start : ℕ
  pub n : ℕ
  pub at : ℕ
  pub bytes : List ℕ

abbrev pub holding : Open → List ℕ → Present
holding s bytes = record { start = s.start; n = s.n; at = s.at; bytes = bytes }

-- the bytes of the present record
abbrev pub pending : Present → List ℕ
pending s = take s.n s.bytes

-- the line of a record, where it has bytes
abbrev pub closing : ℕ → List ℕ → List ℕ
closing a [] = []
closing a (b ∷ bs) = line 0 a (b ∷ bs)

-- the text still to be written where the events es are still to come
abbrev pub ahead : Present → List Event → List ℕ
ahead s es = text (recs_from s.start (pending s) es)

-- the present record was closed, and one at start begun
pub record Restarted (d : List ℕ) (s : Present) (start : ℕ) (r : Present) (e : List ℕ) : Type 0 where
  pub wrote : Wrote d s.at (closing s.start (pending s)) r.at e
  pub begun : r.start ≡ start
  pub none : r.n ≡ 0
  pub whole : length r.bytes ≡ 32

-- a step that takes the events which `more` puts first, up to the address next: what is ahead after it completes what was ahead before
pub record Goes (d : List ℕ) (s : Present) (more : List Event → List Event) (next : ℕ) (r : Present) (e : List ℕ) : Type 0 where
  pub size : (es : List Event) → r.at + length (ahead r es) ≡ s.at + length (ahead s (more es))
  pub buffer : (es : List Event) → put e r.at (ahead r es) ≡ put d s.at (ahead s (more es))
  pub small : r.n < 32
  pub whole : length r.bytes ≡ 32
  pub place : r.start + r.n ≡ next

-- the record that a walk begins with, whatever the array holds
abbrev pub first : List ℕ → Present
first bytes = record { start = 0; n = 0; at = 0; bytes = bytes }

-- the way from one place of a walk, with the events es ahead, to another with the events fs ahead: what is written in the end is the same
pub record Along (d : List ℕ) (s : Present) (es : List Event) (e : List ℕ) (r : Present) (fs : List Event) : Type 0 where
  pub size : r.at + length (ahead r fs) ≡ s.at + length (ahead s es)
  pub buffer : put e r.at (ahead r fs) ≡ put d s.at (ahead s es)
  pub small : r.n < 32
  pub whole : length r.bytes ≡ 32
  pub long : length e ≡ length d

-- all events es were passed, or the walk stopped past the room
pub record Passed (d : List ℕ) (s : Present) (es : List Event) (room : ℕ) (r : Present) (e : List ℕ) : Type 0 where
  pub going : r.at ≤ room → Along d s es e r [] × (r.start + r.n ≤ 65536)
  pub stopped : room < r.at → room < s.at + length (ahead s es)
  pub whole : length r.bytes ≡ 32
  pub long : length e ≡ length d

-- a walk that may stop once it is past the room: the text t is written, or it is longer than the room
pub record Walked (d t : List ℕ) (room r : ℕ) (e : List ℕ) : Type 0 where
  pub done : r ≤ room → (r ≡ length t) × (e ≡ put d 0 t)
  pub over : room < r → room < length t
