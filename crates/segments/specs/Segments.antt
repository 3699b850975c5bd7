-- 01, "Labels, expressions, segments": "0 is always there", so a table holds the other starts only, sorted, in its first `count` places.
use Rattle.std.specs.Prelude.{ℕ, ◌+◌, ◌-◌, min, max, Bool, List, [], ◌∷◌, ◌++◌, length, take, drop, leb, eqb, Result, Ok, Err}
use Rattle.std.specs.List.{list_any}
use Rattle.ground.specs.Choice.{pick}
use Rattle.ground.specs.declared.refusals.Refusal.{Refusal}
use Rattle.ground.specs.declared.refusals.Refusal.TheVariants.{NoRoom, SegmentRepeated, OverLimit}
use Rattle.segments.specs.declared.Segment.{Segment}

-- the start is one of these
unfoldable pub holds_of : ℕ → List ℕ → Bool
holds_of x l = list_any (λ s. eqb s x) l

-- the start put into a sorted list: the lower of the two goes first, the higher is put into the rest
unfoldable pub inserted : ℕ → List ℕ → List ℕ
inserted x [] = x ∷ []
inserted x (s ∷ ss) = min x s ∷ inserted (max x s) ss

-- adding a start other than 0: "segment start repeated", "more than .. 64 segments" (63 and 0 are 64), "lent buffer too short", and else the count after it
unfoldable pub counted_of : List ℕ → ℕ → ℕ → Result ℕ Refusal
counted_of l count x =
    pick (holds_of x (take count l)) (Err SegmentRepeated)
    (pick (leb 63 count) (Err OverLimit)
    (pick (leb (length l) count) (Err NoRoom) (Ok (count + 1))))

-- the answer to adding a start: 0 is there already
unfoldable pub added_to : List ℕ → ℕ → ℕ → Result ℕ Refusal
added_to l count x = pick (eqb x 0) (Ok count) (counted_of l count x)

-- the table after it: a refusal leaves it; else the start stands among the others, and what lies beyond is as it was
unfoldable pub placed : List ℕ → ℕ → ℕ → Result ℕ Refusal → List ℕ
placed l count x (Ok next) = inserted x (take count l) ++ drop next l
placed l count x (Err why) = l

unfoldable pub table_after : List ℕ → ℕ → ℕ → List ℕ
table_after l count x = pick (eqb x 0) l (placed l count x (counted_of l count x))

-- "the greatest start not above the address": 0 is one
unfoldable pub left_of : ℕ → List ℕ → ℕ
left_of a [] = 0
left_of a (s ∷ ss) = pick (leb s a) (max s (left_of a ss)) (left_of a ss)

-- "one less than the next start or 65535"
unfoldable pub right_of : ℕ → List ℕ → ℕ
right_of a [] = 65535
right_of a (s ∷ ss) = pick (leb s a) (right_of a ss) (min (s - 1) (right_of a ss))

abbrev pub segment_in : ℕ → List ℕ → Segment
segment_in a starts = record { left = left_of a starts; right = right_of a starts }

unfoldable pub segment_of : List ℕ → ℕ → ℕ → Segment
segment_of l count a = segment_in a (take count l)
