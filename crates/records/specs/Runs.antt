-- 01: "records whose addresses follow on, none after 65535, are one run".
use Rattle.std.specs.Prelude.{◌+◌, List, [], ◌∷◌, ◌++◌, length, eqb}
use Rattle.ground.specs.Choice.{pick}
use Rattle.records.specs.Objects.{Object, With, Without}
use Rattle.records.specs.Text.{Rec, close}

-- a piece before runs: one run with the first, where that is at the address after the piece. (No run is at 65536.)
abbrev pub join : Rec → List Rec → List Rec
join p [] = p ∷ []
join p (q ∷ qs) =
    pick
    (eqb q.address (p.address + length p.bytes))
    (record { address = p.address; bytes = p.bytes ++ q.bytes } ∷ qs)
    (p ∷ q ∷ qs)

-- the runs of pieces, each of which has bytes
abbrev pub runs_of : List Rec → List Rec
runs_of [] = []
runs_of (p ∷ ps) = join p (runs_of ps)

-- the objects that have bytes
abbrev pub pieces : List Object → List Rec
pieces [] = []
pieces (With address bytes ∷ objects) = close address bytes (pieces objects)
pieces (Without ∷ objects) = pieces objects
