-- Cases of the definitions, computed: what is asked, and what is answered.
-- Assumes nothing.
use mathlib.Core.Path.{◌≡◌, refl}
use mathlib.Core.Bool.{true, false}
use mathlib.Core.List.{List, [], ◌∷◌, map}
use Prim.Native.Nat.{ℕ, zero, suc}
use lib.ListN.{replicate}
use Rattle.std.specs.Prelude.{Result, Ok, Err}
use Rattle.ground.specs.Choice.{pick}
use Rattle.ground.specs.declared.refusals.Refusal.{Refusal}
use Rattle.ground.specs.declared.refusals.Refusal.TheVariants.{BadLabel, TooDeep, OverLimit}
use Rattle.values.specs.declared.Value.{Value}
use Rattle.expressions.specs.Finding.{row_at, label_row, node_in, label_in, node_value, label_value, found, deepest}
use Rattle.expressions.specs.Answers.{value, narrow_of, value_of, evaluation, node_answer, label_answer}
use Rattle.expressions.specs.Moving.{moved_to, moved_rows, moved_table}

-- rows that negate the row before them, from row k on
negations : ℕ → ℕ → List ℕ
negations zero k = []
negations (suc n) k = 3 ∷ k ∷ 0 ∷ negations n (suc k)

-- rows that ask label k, label k + 1, ..
askers : ℕ → ℕ → List ℕ
askers zero k = []
askers (suc n) k = 1 ∷ k ∷ 0 ∷ askers n (suc k)

-- labels that node k, node k + 1, .. define, each at address 0
definitions : ℕ → ℕ → List ℕ
definitions zero k = []
definitions (suc n) k = 2 ∷ 0 ∷ k ∷ definitions n (suc k)

-- "depth 32": 31 negations and a constant are 32 nodes, one more is 33
over_a_constant :
    map (λ (i : ℕ). node_value deepest (0 ∷ 5 ∷ 0 ∷ negations 32 0) [] i 0) (31 ∷ 32 ∷ []) ≡ found 65531 false ∷ Err TooDeep ∷ []
unfolding node_value node_in row_at pick negations
over_a_constant = refl

-- 30 negations, the node that asks the label, and the step to it are 32
over_an_address :
    map (λ (i : ℕ). node_value deepest (1 ∷ 0 ∷ 0 ∷ negations 31 0) (1 ∷ 256 ∷ 0 ∷ []) i 0) (30 ∷ 31 ∷ [])
    ≡ found 256 true ∷ Err TooDeep ∷ []
unfolding node_value node_in label_in label_row row_at pick negations
over_an_address = refl

-- ten labels, each a node and two steps, and a constant are 31; eleven are 34
through_labels :
    map (λ (i : ℕ). node_value deepest (0 ∷ 5 ∷ 0 ∷ askers 11 0) (definitions 11 0) i 0) (10 ∷ 11 ∷ []) ≡ found 5 false ∷ Err TooDeep ∷ []
unfolding node_value node_in label_in label_row row_at pick askers definitions
through_labels = refl

-- a label asked from outside counts nothing itself: eleven are 32, twelve are 35
from_outside :
    map (λ (k : ℕ). label_value deepest (0 ∷ 5 ∷ 0 ∷ askers 11 0) (definitions 12 0) k) (10 ∷ 11 ∷ []) ≡ found 5 false ∷ Err TooDeep ∷ []
unfolding node_value node_in label_in label_row row_at pick askers definitions
from_outside = refl

-- some nodes, a row each
nodes : List ℕ
nodes =
    -- 0: 200; 1: the location; 2: node 1 - node 1
    0 ∷ 200 ∷ 0 ∷ 2 ∷ 0 ∷ 0 ∷ 5 ∷ 1 ∷ 1 ∷
    -- 3: - node 4; 4: 1; 5: label 0
    3 ∷ 4 ∷ 0 ∷ 0 ∷ 1 ∷ 0 ∷ 1 ∷ 0 ∷ 0 ∷
    -- 6: label 9; 7: label 1; 8: node 6 + node 7
    1 ∷ 9 ∷ 0 ∷ 1 ∷ 1 ∷ 0 ∷ 4 ∷ 6 ∷ 7 ∷
    -- 9: label 512; 10: of no kind
    1 ∷ 512 ∷ 0 ∷ 9 ∷ 0 ∷ 0 ∷ []

-- some labels, a row each
labels : List ℕ
labels =
    -- 0: node 3, which is -1; 1: node 7, which asks label 1; 2: node 1, the location, at 300
    2 ∷ 256 ∷ 3 ∷ 2 ∷ 256 ∷ 7 ∷ 2 ∷ 300 ∷ 1 ∷
    -- 3: not all there
    1 ∷ 256 ∷ []

answer : ℕ → ℕ → Result Value Refusal
answer n w = Ok (value n w)

-- 200 is 8 bits wide unsigned and 16 signed; * - * is 16; -1 is 16 unsigned, and FF in 8 signed; through a label too
unsigned_values :
    map (λ (i : ℕ). node_answer nodes labels i 4096 false) (0 ∷ 2 ∷ 3 ∷ 5 ∷ [])
    ≡ answer 200 8 ∷ answer 0 16 ∷ answer 65535 16 ∷ answer 65535 16 ∷ []
unfolding node_answer evaluation value_of narrow_of node_value node_in label_in label_row row_at pick nodes labels answer
unsigned_values = refl

signed_values :
    map (λ (i : ℕ). node_answer nodes labels i 4096 true) (0 ∷ 2 ∷ 3 ∷ 5 ∷ [])
    ≡ answer 200 16 ∷ answer 0 16 ∷ answer 255 8 ∷ answer 255 8 ∷ []
unfolding node_answer evaluation value_of narrow_of node_value node_in label_in label_row row_at pick nodes labels answer
signed_values = refl

-- an undefined label is 10, a circle 11, both in one sum 11, a label above 511 is 10, a node of no kind or not there 11
refusals :
    map (λ (i : ℕ). node_answer nodes labels i 4096 false) (6 ∷ 7 ∷ 8 ∷ 9 ∷ 10 ∷ 11 ∷ [])
    ≡ Err BadLabel ∷ Err TooDeep ∷ Err TooDeep ∷ Err BadLabel ∷ Err TooDeep ∷ Err TooDeep ∷ []
unfolding node_answer evaluation value_of narrow_of node_value node_in label_in label_row row_at pick nodes labels
refusals = refl

-- a label's own value; the location in it is the label's own address; a row that is not wholly there is undefined
label_values :
    map (λ (k : ℕ). label_answer nodes labels k) (0 ∷ 1 ∷ 2 ∷ 3 ∷ 512 ∷ [])
    ≡ answer 255 8 ∷ Err TooDeep ∷ answer 300 16 ∷ Err BadLabel ∷ Err BadLabel ∷ []
unfolding label_answer value_of narrow_of node_value label_value node_in label_in label_row row_at pick nodes labels answer
label_values = refl

-- 1,024 nodes are allowed, 1,025 are 17 before all else
limit : map (λ (n : ℕ). node_answer (replicate n 0) [] 0 0 false) (3074 ∷ 3075 ∷ []) ≡ answer 0 8 ∷ Err OverLimit ∷ []
unfolding node_answer evaluation value_of narrow_of node_value node_in row_at pick answer
limit = refl

-- both ends are moved, an undefined label and what lies outside are not, the own address of an expression label is, modulo 65536
moved :
    moved_table 256 512 65535 (1 ∷ 255 ∷ 9 ∷ 1 ∷ 256 ∷ 300 ∷ 2 ∷ 512 ∷ 300 ∷ 0 ∷ 300 ∷ 300 ∷ 1 ∷ 513 ∷ 9 ∷ 1 ∷ 300 ∷ [])
    ≡ 1 ∷ 255 ∷ 9 ∷ 1 ∷ 255 ∷ 300 ∷ 2 ∷ 511 ∷ 300 ∷ 0 ∷ 300 ∷ 300 ∷ 1 ∷ 513 ∷ 9 ∷ 1 ∷ 300 ∷ []
unfolding moved_table moved_rows moved_to pick
moved = refl
