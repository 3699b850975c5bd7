-- Cases of the definitions, computed: what is asked, and what is answered.
-- Assumes nothing.
use mathlib.Core.Path.{◌≡◌, refl}
use mathlib.Core.List.{List, [], ◌∷◌, map}
use Prim.Native.Nat.{ℕ, zero, suc}
use Rattle.ground.specs.Choice.{pick}
use Rattle.std.proofs.Common.{Ok, Err}
use Rattle.ground.specs.declared.refusals.Refusal.TheVariants.{NoRoom, SegmentRepeated, OverLimit}
use Rattle.segments.specs.declared.Segment.{Segment}
use Rattle.segments.specs.Segments.{holds_of, inserted, counted_of, added_to, placed, table_after, left_of, right_of, segment_of}

-- n numbers, from one on
from : ℕ → ℕ → List ℕ
from first zero = []
from first (suc n) = first ∷ from (suc first) n

between : ℕ → ℕ → Segment
between l r = record { left = l; right = r }

-- with 63 starts and 0 the table is full: a new start is 17, a repeated one is 12 first, 0 again is free
full : map (added_to (from 1 64) 63) (100 ∷ 63 ∷ 0 ∷ []) ≡ Err OverLimit ∷ Err SegmentRepeated ∷ Ok 63 ∷ []
unfolding added_to counted_of holds_of pick from
full = refl

-- no place is left, or the count is beyond the table: 12 still comes first, then 9
no_place :
    map (λ (count : ℕ). map (added_to (256 ∷ 512 ∷ []) count) (512 ∷ 384 ∷ [])) (2 ∷ 9 ∷ [])
    ≡ (Err SegmentRepeated ∷ Err NoRoom ∷ []) ∷ (Err SegmentRepeated ∷ Err NoRoom ∷ []) ∷ []
unfolding added_to counted_of holds_of pick
no_place = refl

-- a start goes to its place, and what lies beyond stays; a refusal leaves the table
stored :
    table_after (256 ∷ 512 ∷ 7 ∷ 9 ∷ []) 2 384 ∷ table_after (256 ∷ 512 ∷ []) 2 384 ∷ []
    ≡ (256 ∷ 384 ∷ 512 ∷ 9 ∷ []) ∷ (256 ∷ 512 ∷ []) ∷ []
unfolding table_after placed counted_of holds_of inserted pick
stored = refl

-- both sides of each end; a table of no starts is one segment; a count beyond the table and a table out of order
ends :
    map (segment_of (256 ∷ 512 ∷ []) 2) (0 ∷ 255 ∷ 256 ∷ 511 ∷ 512 ∷ 65535 ∷ [])
    ≡ between 0 255 ∷ between 0 255 ∷ between 256 511 ∷ between 256 511 ∷ between 512 65535 ∷ between 512 65535 ∷ []
unfolding segment_of left_of right_of pick between
ends = refl

odd_tables : segment_of (256 ∷ []) 0 300 ∷ segment_of (512 ∷ 256 ∷ []) 9 300 ∷ [] ≡ between 0 65535 ∷ between 256 511 ∷ []
unfolding segment_of left_of right_of pick between
odd_tables = refl
