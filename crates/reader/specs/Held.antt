-- The reader of a lent text at a place, and what its calls hand out.
use Rattle.std.specs.Prelude.{ℕ, ◌≤◌, ◌<◌, List, [], ◌∷◌, length, Ok}
use Rattle.std.specs.Borrow.{Bor}
use Rattle.records.specs.Text.{Rec}
use Rattle.reader.specs.Answers.{onto}
use Rattle.reader.specs.Ahead.{RunReadIs}
use Rattle.reader.specs.declared.held.Reader.{Reader}

abbrev pub reader_at : Bor (List ℕ) → ℕ → Reader
reader_at text at = record { text = text; at = at }

-- a call at a place hands out a run, where there is room for it: its address and length, its bytes, and the place after it
pub record Hands (text : List ℕ) (at : ℕ) (p : Rec) (next : ℕ) : Type 0 where
  pub some : 0 < length p.bytes
  pub call :
      (d : List ℕ) → length p.bytes ≤ length d
      → RunReadIs text at d (Ok (record { address = p.address; bytes = length p.bytes; next = next })) (onto p.bytes d)

-- a run, and what stands at the place that its call gave
pub record HandsFirst (text : List ℕ) (at : ℕ) (p : Rec) (Later : ℕ → Type 0) : Type 0 where
  pub next : ℕ
  pub first : Hands text at p next
  pub later : Later next

-- calls from a place on, each at the place that the one before gave, hand out these runs in this order; then each says that no run is left, and stays
abbrev pub HandsOut : List ℕ → ℕ → List Rec → Type 0
HandsOut text at [] = (d : List ℕ) → RunReadIs text at d (Ok (record { address = 0; bytes = 0; next = at })) d
HandsOut text at (p ∷ ps) = HandsFirst text at p (λ next. HandsOut text next ps)
