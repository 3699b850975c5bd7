-- When the instructions that were read are those that are meant, and how far they are.
use Rattle.std.specs.Prelude.{ℕ, suc, Bool, true, false, ◌&&◌, List, [], ◌∷◌, Ok, Err}
use Rattle.ground.specs.Choice.{pick}
use Rattle.decoder.specs.declared.Decoded.{Decoded}
use Rattle.decoder.specs.contracts.DecodedPartialEq.TheImpl as decoded
use Rattle.decoder.specs.Meaning.{Answer}

-- of one length and one meaning, by the derived comparison; and what is refused is none that is meant
abbrev pub same : Decoded → Answer → Bool
same x (Ok y) = decoded.eq-value.it y x
same x (Err e) = false

-- how many leading instructions agree: the first place that differs, counted from 0
abbrev pub agreed : List Decoded → List Answer → ℕ
agreed [] ys = 0
agreed (x ∷ xs) [] = 0
agreed (x ∷ xs) (y ∷ ys) = pick (same x y) (suc (agreed xs ys)) 0

-- all agree in their order, and nothing is left on either side
abbrev pub all_agree : List Decoded → List Answer → Bool
all_agree [] [] = true
all_agree [] (y ∷ ys) = false
all_agree (x ∷ xs) [] = false
all_agree (x ∷ xs) (y ∷ ys) = same x y && all_agree xs ys
