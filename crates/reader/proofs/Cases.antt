-- Texts and what the definitions say of them: document 01's own, what its sentences allow, and each way to break its rules.
-- Assumes nothing.
use mathlib.Core.Path.{◌≡◌, refl}
use mathlib.Core.List.{List, [], ◌∷◌, ◌++◌, map}
use Prim.Native.Nat.{ℕ}
use lib.ListN.{set}
use Rattle.std.proofs.Common.{Result, Ok, Err}
use Rattle.ground.specs.declared.refusals.Refusal.{Refusal}
use Rattle.ground.specs.declared.refusals.Refusal.TheVariants.{BrokenText, Beyond, NoRoom}
use Rattle.ground.specs.Choice.{pick}
use Rattle.records.specs.Hex.{hex_of}
use Rattle.records.specs.Line.{check_of, body, line}
use Rattle.reader.specs.Digits.{digit_of, pair_of, behind}
use Rattle.reader.specs.Lines.{count_of, address_of, type_of, data_of, sound, ends_line, after_end, record_of, line_in, records_in}
use Rattle.reader.specs.Answers.{read_of, runs_in}
use Rattle.reader.specs.Twins.{lower}
use Rattle.reader.specs.declared.Read.{Read}

-- `:03010000A6843999` and `:00000001FF`
abbrev pub code : List ℕ
code = 58 ∷ 48 ∷ 51 ∷ 48 ∷ 49 ∷ 48 ∷ 48 ∷ 48 ∷ 48 ∷ 65 ∷ 54 ∷ 56 ∷ 52 ∷ 51 ∷ 57 ∷ 57 ∷ 57 ∷ []

abbrev pub end : List ℕ
end = 58 ∷ 48 ∷ 48 ∷ 48 ∷ 48 ∷ 48 ∷ 48 ∷ 48 ∷ 49 ∷ 70 ∷ 70 ∷ []

abbrev pub lf : List ℕ
lf = 10 ∷ []

abbrev pub cr : List ℕ
cr = 13 ∷ []

-- document 01's text holds one run
abbrev pub first : List ℕ
first = code ++ lf ++ end ++ lf

pub first_runs : runs_in first ≡ record { address = 256; bytes = 166 ∷ 132 ∷ 57 ∷ [] } ∷ []
unfolding runs_in records_in line_in record_of sound ends_line after_end behind count_of address_of type_of data_of pair_of digit_of lower line body check_of hex_of pick
first_runs = refl

-- 9 where a byte or a row has no room
pub no_room_lem : (read_of first 2 2 ≡ Err NoRoom) × (read_of first 3 1 ≡ Err NoRoom)
unfolding read_of records_in line_in record_of sound ends_line after_end behind count_of address_of type_of data_of pair_of digit_of lower line body check_of hex_of pick
no_room_lem = (refl, refl)

-- answers where there is room for eight bytes and two runs
abbrev pub ask : List ℕ → Result Read Refusal
ask text = read_of text 8 4

abbrev pub three : Result Read Refusal
three = Ok (record { bytes = 3; runs = 1 })

-- texts that hold one run of three bytes: the last line end missing, lower case and CR LF, two records that follow on
pub one_run :
    map ask
    (first
    ∷ (code ++ lf ++ end)
    ∷ (map lower code ++ cr ++ lf ++ end ++ lf)
    ∷ (line 0 256 (1 ∷ 2 ∷ []) ++ line 0 258 (3 ∷ []) ++ end)
    ∷ [])
    ≡ three ∷ three ∷ three ∷ three ∷ []
unfolding read_of records_in line_in record_of sound ends_line after_end behind count_of address_of type_of data_of pair_of digit_of lower line body check_of hex_of pick
one_run = refl

-- no run; two runs, for no byte comes after 65535; and a byte beyond 65535
pub other_runs :
    map ask (end ∷ (line 0 65535 (1 ∷ []) ++ line 0 0 (2 ∷ []) ++ end) ∷ (line 0 65535 (1 ∷ 2 ∷ []) ++ end) ∷ [])
    ≡ Ok (record { bytes = 0; runs = 0 }) ∷ Ok (record { bytes = 2; runs = 2 }) ∷ Err Beyond ∷ []
unfolding read_of records_in line_in record_of sound ends_line after_end behind count_of address_of type_of data_of pair_of digit_of lower line body check_of hex_of pick
other_runs = refl

-- broken texts
abbrev pub broken : List (List ℕ)
broken =
    -- nothing at all; no end record; a byte beyond 65535 before that
    []
    ∷ (code ++ lf)
    ∷ line 0 65535 (1 ∷ 2 ∷ [])
    -- a bad digit, a bad check, odd length, fewer bytes than counted
    ∷ (set code 13 71 ++ lf ++ end)
    ∷ (set code 16 65 ++ lf ++ end)
    ∷ (code ++ (48 ∷ []) ++ lf ++ end)
    ∷ (set (set code 2 52) 16 56 ++ lf ++ end)
    -- another type, a data record without data, data or an address in the end record
    ∷ (line 2 0 (1 ∷ 0 ∷ []) ++ end)
    ∷ (line 0 256 [] ++ end)
    ∷ (code ++ lf ++ line 1 0 (7 ∷ []))
    ∷ (code ++ lf ++ line 1 256 [])
    -- a blank line, a lone CR, also at the very end, a blank before the colon and after the digits
    ∷ (code ++ lf ++ lf ++ end)
    ∷ (code ++ cr ++ end)
    ∷ (code ++ lf ++ end ++ cr)
    ∷ ((32 ∷ []) ++ code ++ lf ++ end)
    ∷ (code ++ (32 ∷ []) ++ lf ++ end)
    -- a line end or a record after the end record, and no line end before it
    ∷ (code ++ lf ++ end ++ lf ++ lf)
    ∷ (end ++ lf ++ code ++ lf)
    ∷ (code ++ end)
    ∷ []

pub broken_refused : map ask broken ≡ map (λ _. Err BrokenText) broken
unfolding read_of records_in line_in record_of sound ends_line after_end behind count_of address_of type_of data_of pair_of digit_of lower line body check_of hex_of pick
broken_refused = refl
