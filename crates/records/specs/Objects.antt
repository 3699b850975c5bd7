-- The objects of a program, as two lent tables say them. A row of the objects is kind (0 without data, 1 with data), address, count; a row of the values is number,
-- width. What is left over at a table's end is no row. Each object takes its count of values from those that the objects before it left.
use Rattle.std.specs.Prelude.{ℕ, ◌+◌, ◌-◌, ◌*◌, ◌/◌, Bool, false, ◌&&◌, ◌||◌, not, List, [], ◌∷◌, ◌++◌, length, take, drop, eqb, ltb}
use Rattle.ground.specs.Choice.{pick}
use Rattle.ground.specs.Words.{high, low}

-- an object with data at an address, or without data (RMB, ORG)
pub data Object : Type 0 where
  With : ℕ → List ℕ → Object
  Without : Object

-- a value of 16 bits is two bytes, the high one first; one of 8 bits is one
unfoldable pub bytes_of : ℕ → ℕ → List ℕ
bytes_of number width = pick (eqb width 16) (high number ∷ low number ∷ []) (low number ∷ [])

-- the bytes of a row of values
abbrev pub data_of : List ℕ → List ℕ
data_of [] = []
data_of (number ∷ []) = []
data_of (number ∷ width ∷ values) = bytes_of number width ++ data_of values

-- bytes as values of 8 bits
abbrev pub byte_rows : List ℕ → List ℕ
byte_rows [] = []
byte_rows (b ∷ bs) = b ∷ 8 ∷ byte_rows bs

-- how many values an object has: its count, and none without data
unfoldable pub count_of : ℕ → ℕ → ℕ
count_of kind count = pick (eqb kind 1) count 0

unfoldable pub object_of : ℕ → ℕ → List ℕ → Object
object_of kind address bytes = pick (eqb kind 1) (With address bytes) Without

-- the objects of the two tables
abbrev pub objects_of : List ℕ → List ℕ → List Object
objects_of [] values = []
objects_of (kind ∷ []) values = []
objects_of (kind ∷ address ∷ []) values = []
objects_of (kind ∷ address ∷ count ∷ rows) values =
    object_of kind address (data_of (take (2 * count_of kind count) values)) ∷ objects_of rows (drop (2 * count_of kind count) values)

-- a value's width is 8 or 16, and the number fits it
unfoldable pub fits : ℕ → ℕ → Bool
fits number width = (eqb width 8 && ltb number 256) || (eqb width 16 && ltb number 65536)

-- a value whose width is unknown or too narrow for it
abbrev pub bad_values : List ℕ → Bool
bad_values [] = false
bad_values (number ∷ []) = false
bad_values (number ∷ width ∷ values) = not (fits number width) || bad_values values

-- an object of unknown kind, or one that counts more values than are left
abbrev pub bad_objects : ℕ → List ℕ → Bool
bad_objects left [] = false
bad_objects left (kind ∷ []) = false
bad_objects left (kind ∷ address ∷ []) = false
bad_objects left (kind ∷ address ∷ count ∷ rows) =
    (ltb 1 kind || ltb left (count_of kind count)) || bad_objects (left - count_of kind count) rows

-- refusal 1: "field number unknown", a value beyond its width, or more values counted than the table has
unfoldable pub faulty : List ℕ → List ℕ → Bool
faulty objects values = bad_values values || bad_objects (length values / 2) objects

-- refusal 18: "a byte beyond 65535"
abbrev pub far : Object → Bool
far (With address bytes) = ltb 65536 (address + length bytes)
far Without = false

abbrev pub too_far : List Object → Bool
too_far [] = false
too_far (o ∷ os) = far o || too_far os
