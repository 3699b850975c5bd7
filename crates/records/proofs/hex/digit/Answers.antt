-- `records::hex::digit` meets its contract: a test that antt computes at each of the sixteen places.
-- Assumes nothing.
use mathlib.Core.Bool.{Bool}
use mathlib.Core.List.{List, [], ◌∷◌}
use Prim.Native.Nat.{ℕ}
use lib.Dec.{eqb, eqb→eq}
use lib.ListN.{get_or}
use borrow.Author.Rules.{rules}
use Rattle.ground.specs.Choice.{pick}
use Rattle.ground.proofs.Ranges.{below}
use Rattle.records.specs.Hex.{hex_of}
use Rattle.records.proofs.hex.digit.Goals as goal

abbrev digits : List ℕ
digits = 48 ∷ 49 ∷ 50 ∷ 51 ∷ 52 ∷ 53 ∷ 54 ∷ 55 ∷ 56 ∷ 57 ∷ 65 ∷ 66 ∷ 67 ∷ 68 ∷ 69 ∷ 70 ∷ []

abbrev right : ℕ → Bool
right n = eqb (get_or digits n 0) (hex_of n)

pub returns : goal.returns
unfolding hex_of pick
returns c = let n = c.args.n in eqb→eq (get_or digits n 0) (hex_of n) (below right 16 tt n (search rules))
