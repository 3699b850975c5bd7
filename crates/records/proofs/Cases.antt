-- Cases of the definitions, computed: what the two tables hold, and the text that it makes or its refusal. The first text is 01's own.
-- Assumes nothing.
use mathlib.Core.Path.{◌≡◌, refl}
use mathlib.Core.List.{List, [], ◌∷◌, ◌++◌, map}
use Prim.Native.Nat.{ℕ, zero, suc}
use Prim.Native.Char.{code}
use Prim.Native.String.{String, [] as []ˢ, ◌∷◌ as ◌∷ˢ◌}
use Rattle.std.specs.Prelude.{Result, Err}
use Rattle.ground.specs.Choice.{pick}
use Rattle.ground.specs.declared.refusals.Refusal.{Refusal}
use Rattle.ground.specs.declared.refusals.Refusal.TheVariants.{Unknown, NoRoom, Beyond}
use Rattle.records.specs.Hex.{hex_of}
use Rattle.records.specs.Line.{check_of, body, line}
use Rattle.records.specs.Objects.{bytes_of, count_of, object_of, fits, faulty}
use Rattle.records.specs.Text.{recs, text_of}
use Rattle.records.specs.Written.{written_of}

abbrev pub codes : String → List ℕ
codes []ˢ = []
codes (c ∷ˢ s) = code c ∷ codes s

pub record Tables : Type 0 where
  pub objects : List ℕ
  pub values : List ℕ

-- n rows of a value
abbrev times : ℕ → ℕ → ℕ → List ℕ
times zero number width = []
times (suc n) number width = number ∷ width ∷ times n number width

abbrev pub asked : List Tables
asked =
    -- 01's example
    record { objects = 1 ∷ 256 ∷ 3 ∷ []; values = 166 ∷ 8 ∷ 132 ∷ 8 ∷ 57 ∷ 8 ∷ [] } ∷
    -- no object; what is left over is no row
    record { objects = 1 ∷ 0 ∷ []; values = 7 ∷ [] } ∷
    -- a 33rd byte inside a value of 16 bits
    record { objects = 1 ∷ 0 ∷ 17 ∷ []; values = 17 ∷ 8 ∷ times 16 8755 16 } ∷
    -- 32 bytes close the record, and the next object goes on in a new one
    record { objects = 1 ∷ 0 ∷ 16 ∷ 1 ∷ 32 ∷ 1 ∷ []; values = times 16 8755 16 ++ (17 ∷ 8 ∷ []) } ∷
    -- objects at the next address are one record, across one without data
    record { objects = 1 ∷ 16 ∷ 1 ∷ 0 ∷ 0 ∷ 9 ∷ 1 ∷ 17 ∷ 1 ∷ []; values = 1 ∷ 8 ∷ 2 ∷ 8 ∷ [] } ∷
    -- a gap starts a record
    record { objects = 1 ∷ 16 ∷ 1 ∷ 1 ∷ 18 ∷ 1 ∷ []; values = 1 ∷ 8 ∷ 2 ∷ 8 ∷ [] } ∷
    -- so does an object of no length that is not at the next address
    record { objects = 1 ∷ 16 ∷ 1 ∷ 1 ∷ 5 ∷ 0 ∷ 1 ∷ 17 ∷ 1 ∷ []; values = 1 ∷ 8 ∷ 2 ∷ 8 ∷ [] } ∷
    -- and not one at the next address
    record { objects = 1 ∷ 16 ∷ 1 ∷ 1 ∷ 17 ∷ 0 ∷ 1 ∷ 17 ∷ 1 ∷ []; values = 1 ∷ 8 ∷ 2 ∷ 8 ∷ [] } ∷
    -- after a byte at 65535 no address is next
    record { objects = 1 ∷ 65535 ∷ 1 ∷ 1 ∷ 0 ∷ 1 ∷ []; values = 1 ∷ 8 ∷ 2 ∷ 8 ∷ [] } ∷
    []

abbrev pub answered : List String
answered =
    ":03010000A6843999\n:00000001FF\n" ∷
    ":00000001FF\n" ∷
    ":200000001122332233223322332233223322332233223322332233223322332233223322B2\n:0100200033AC\n:00000001FF\n" ∷
    ":20000000223322332233223322332233223322332233223322332233223322332233223390\n:0100200011CE\n:00000001FF\n" ∷
    ":020010000102EB\n:00000001FF\n" ∷
    ":0100100001EE\n:0100120002EB\n:00000001FF\n" ∷
    ":0100100001EE\n:0100110002EC\n:00000001FF\n" ∷
    ":020010000102EB\n:00000001FF\n" ∷
    ":01FFFF000100\n:0100000002FD\n:00000001FF\n" ∷
    []

pub texts : map (λ (t : Tables). text_of t.objects t.values) asked ≡ map codes answered
unfolding text_of recs line body check_of hex_of bytes_of count_of object_of pick
texts = refl

abbrev pub tried : List Tables
tried =
    -- a kind that is unknown
    record { objects = 2 ∷ 0 ∷ 0 ∷ []; values = [] } ∷
    -- a width that is unknown
    record { objects = []; values = 1 ∷ 12 ∷ [] } ∷
    -- a value beyond its width
    record { objects = []; values = 256 ∷ 8 ∷ [] } ∷
    -- more values than there are
    record { objects = 1 ∷ 0 ∷ 2 ∷ []; values = 1 ∷ 8 ∷ [] } ∷
    -- two bytes from 65535 on
    record { objects = 1 ∷ 65535 ∷ 1 ∷ []; values = 1 ∷ 16 ∷ [] } ∷
    -- 1 before 18
    record { objects = 1 ∷ 65535 ∷ 1 ∷ 2 ∷ 0 ∷ 0 ∷ []; values = 1 ∷ 16 ∷ [] } ∷
    -- 18 before 9
    record { objects = 1 ∷ 65535 ∷ 2 ∷ []; values = 1 ∷ 8 ∷ 2 ∷ 8 ∷ [] } ∷
    -- no room for the end record's last character
    record { objects = []; values = [] } ∷
    -- a count without data counts no value; the last address may be filled
    record { objects = 0 ∷ 0 ∷ 9 ∷ 1 ∷ 65535 ∷ 1 ∷ []; values = 1 ∷ 8 ∷ [] } ∷
    []

-- refused, where there is room for 11 characters
abbrev pub told : List (Result ℕ Refusal)
told = Err Unknown ∷ Err Unknown ∷ Err Unknown ∷ Err Unknown ∷ Err Beyond ∷ Err Unknown ∷ Err Beyond ∷ Err NoRoom ∷ Err NoRoom ∷ []

pub refusals : map (λ (t : Tables). written_of t.objects t.values 11) tried ≡ told
unfolding written_of faulty fits text_of recs line body check_of hex_of bytes_of count_of object_of pick
refusals = refl
