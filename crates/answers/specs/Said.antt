-- What an exported call says, and what becomes of the slice lent for it.
use Rattle.std.specs.Prelude.{List, ◌++◌, ℕ, ◌+◌, ◌*◌, eqb, ltb, length, drop}
use Rattle.ground.specs.Choice.{pick}
use Rattle.ground.specs.Refusals.{no_room}

-- a refusal, 0 for none, and the cells of the answer
pub record Said : Type 0 where
  pub refusal : ℕ
  pub cells : List ℕ

abbrev pub said : ℕ → List ℕ → Said
said n cells = record { refusal = n; cells = cells }

-- "lent buffer too short": 9 comes last
unfoldable pub refusal_of : Said → (room : ℕ) → ℕ
refusal_of s room = pick (eqb s.refusal 0) (pick (ltb room (length s.cells)) no_room 0) s.refusal

-- a return that tells something beside its refusal, also where that is none: the refusal in the low 16 bits, the other in the high 16
abbrev pub beside : (refusal told : ℕ) → ℕ
beside refusal told = refusal + 65536 * told

-- what a lent x holds after a call with the slice d for its answer: what it comes to, and x as it was beside a refusal
unfoldable pub lent_after : Said → (d new x : List ℕ) → List ℕ
lent_after s d new x = pick (eqb (refusal_of s (length d)) 0) new x

-- the slice itself: the cells at its front, and the rest as it was
unfoldable pub cells_after : Said → List ℕ → List ℕ
cells_after s d = lent_after s d (s.cells ++ drop (length s.cells) d) d
