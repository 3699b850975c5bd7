-- Segments in a table of their own: the number of starts, then the starts. A table without the first cell is 1.
use Rattle.std.specs.Prelude.{ℕ, List, [], ◌∷◌, Result, Ok, Err}
use Rattle.std.specs.Result.{result_err}
use Rattle.ground.specs.declared.refusals.Refusal.{Refusal}
use Rattle.ground.specs.Refusals.{unknown}
use Rattle.answers.specs.Said.{Said, said}
use Rattle.segments.specs.declared.Segment.{Segment}
use Rattle.joltwagon.specs.Settling.{number_in}
use Rattle.segments.specs.Segments.{added_to, table_after, segment_of}

unfoldable pub add_refusal : List ℕ → ℕ → ℕ
add_refusal [] start = unknown
add_refusal (count ∷ starts) start = number_in (result_err (added_to starts count start))

-- the number and the starts with one more; a refusal leaves both
unfoldable pub counted_with : Result ℕ Refusal → (count : ℕ) (after : List ℕ) → List ℕ
counted_with (Ok next) count after = next ∷ after
counted_with (Err why) count after = count ∷ after

unfoldable pub segments_after : List ℕ → ℕ → List ℕ
segments_after [] start = []
segments_after (count ∷ starts) start = counted_with (added_to starts count start) count (table_after starts count start)

-- both ends
unfoldable pub ends_said : Segment → Said
ends_said s = said 0 (s.left ∷ s.right ∷ [])

unfoldable pub segment_said : List ℕ → ℕ → Said
segment_said [] address = said unknown []
segment_said (count ∷ starts) address = ends_said (segment_of starts count address)
