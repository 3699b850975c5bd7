-- From objects to records, and from records to Intel's text.
use Rattle.std.specs.Prelude.{ℕ, ◌+◌, List, [], ◌∷◌, ◌++◌, map, length, eqb}
use Rattle.ground.specs.Choice.{pick}
use Rattle.records.specs.Line.{line}
use Rattle.records.specs.Objects.{Object, With, Without, objects_of}

pub record Rec : Type 0 where
  pub address : ℕ
  pub bytes : List ℕ

-- "Objects are walked in order, and each object's values within": an object with data starts at its address, and then come its bytes
pub data Event : Type 0 where
  Start : ℕ → Event
  Byte : ℕ → Event

-- "Objects without data (RMB, ORG) write nothing."
abbrev pub events : List Object → List Event
events [] = []
events (With address bytes ∷ objects) = Start address ∷ (map Byte bytes ++ events objects)
events (Without ∷ objects) = events objects

-- a record is written where it has bytes
abbrev pub close : ℕ → List ℕ → List Rec → List Rec
close a [] rs = rs
close a (b ∷ bs) rs = record { address = a; bytes = b ∷ bs } ∷ rs

-- the records that the events make, where the present record is at a and has the bytes p so far, so that the next address is a + length p:
-- "An object with data, even none of length, not at the next address starts a new record", "a record is closed the moment it has 32 bytes"
abbrev pub recs_from : ℕ → List ℕ → List Event → List Rec
recs_from a p [] = close a p []
recs_from a p (Start b ∷ es) = pick (eqb b (a + length p)) (recs_from a p es) (close a p (recs_from b [] es))
recs_from a p (Byte b ∷ es) =
    pick (eqb (length p + 1) 32) (close a (p ++ (b ∷ [])) (recs_from (a + 32) [] es)) (recs_from a (p ++ (b ∷ [])) es)

-- the records of objects
unfoldable pub recs : List Object → List Rec
recs objects = recs_from 0 [] (events objects)

-- a line for each record (type 00), "the end record last" (type 01)
abbrev pub text : List Rec → List ℕ
text [] = line 1 0 []
text (r ∷ rs) = line 0 r.address r.bytes ++ text rs

-- the text of the objects in two lent tables
unfoldable pub text_of : List ℕ → List ℕ → List ℕ
text_of objects values = text (recs (objects_of objects values))
