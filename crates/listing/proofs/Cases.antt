-- Texts and their listings under a single statement: document 01's own, and each way that a listing ends.
-- Assumes nothing.
use mathlib.Core.Path.{◌≡◌, refl}
use mathlib.Core.List.{List, [], ◌∷◌, map}
use Prim.Native.Nat.{ℕ}
use Rattle.ground.specs.Choice.{pick}
use Rattle.values.specs.Widths.{extended}
use Rattle.rows.specs.Sheet.{page0, page10, page11, table_of}
use Rattle.rows.specs.Lookup.{row_of}
use Rattle.rows.specs.Sizes.{is_wide, is_long, number_at}
use Rattle.postbytes.specs.Reading.{direct_only, address_only, high_of, shape_of}
use Rattle.postbytes.specs.Lists.{other_of, size_of as register_size}
use Rattle.postbytes.specs.ListsRead.{registers_of, pair_of}
use Rattle.records.specs.Hex.{hex_of}
use Rattle.records.specs.Line.{check_of, body, line}
use Rattle.records.specs.Text.{Rec, text}
use Rattle.reader.specs.Digits.{digit_of, pair_of as digit_pair, behind}
use Rattle.reader.specs.Lines.{count_of, address_of, type_of, data_of, sound, ends_line, after_end, record_of, line_in, records_in}
use Rattle.reader.specs.Answers.{runs_in}
use Rattle.reader.proofs.Cases.{first, end}
use Rattle.decoder.specs.Origin.{shifted, outside, target_of, direct_of, unseen}
use Rattle.decoder.specs.Meaning.{joined}
use Rattle.decoder.specs.Operands.{number_of, distance_of, numbered_of, numbered_at, indexed_as, indexed_at, own_of, registers_at, operand_of}
use Rattle.decoder.specs.Front.{coded_of, front_of}
use Rattle.decoder.specs.Run.{run_from, run_of}
use Rattle.listing.specs.Lines.{line_of, place_of, decimal, last_line}
use Rattle.listing.specs.Listing.{refusal_of, lines_of, listing_of}

-- a record at an address
abbrev rec : ℕ → List ℕ → Rec
rec address bytes = record { address = address; bytes = bytes }

abbrev asked : List (List ℕ)
asked =
    -- document 01's own
    first
    -- no record: no instruction
    ∷ end
    -- no text at all
    ∷ []
    -- two runs, each from its own start; the later one stands first
    ∷ (text (rec 0x0200 (0x12 ∷ []) ∷ rec 0x0100 (0x86 ∷ 0x05 ∷ []) ∷ []))
    -- an undefined code in the first run, and nothing of the second
    ∷ (text (rec 0x0100 (0x12 ∷ 0x01 ∷ 0x12 ∷ []) ∷ rec 0x0200 (0x12 ∷ []) ∷ []))
    -- an instruction cut short after another of its run
    ∷ (text (rec 0x0100 (0x12 ∷ 0xA6 ∷ []) ∷ []))
    -- a direct code, which a page that is known lets the program read
    ∷ (text (rec 0x0100 (0x96 ∷ 0x05 ∷ []) ∷ []))
    -- a run up to the last address, and one beyond it
    ∷ (text (rec 0xFFFF (0x39 ∷ []) ∷ []))
    ∷ (text (rec 0xFFFF (0x39 ∷ 0x39 ∷ []) ∷ []))
    ∷ []

abbrev answered : List (List ℕ)
answered =
    (48 ∷ 49 ∷ 48 ∷ 48 ∷ 32 ∷ 65 ∷ 54 ∷ 32 ∷ 56 ∷ 52 ∷ 10
    ∷ 48 ∷ 49 ∷ 48 ∷ 50 ∷ 32 ∷ 51 ∷ 57 ∷ 10
    ∷ 101 ∷ 110 ∷ 100 ∷ 32 ∷ 50 ∷ 10 ∷ [])
    ∷ (101 ∷ 110 ∷ 100 ∷ 32 ∷ 48 ∷ 10 ∷ [])
    ∷ (114 ∷ 101 ∷ 102 ∷ 117 ∷ 115 ∷ 101 ∷ 100 ∷ 32 ∷ 49 ∷ 54 ∷ 10 ∷ [])
    ∷ (48 ∷ 50 ∷ 48 ∷ 48 ∷ 32 ∷ 49 ∷ 50 ∷ 10
    ∷ 48 ∷ 49 ∷ 48 ∷ 48 ∷ 32 ∷ 56 ∷ 54 ∷ 32 ∷ 48 ∷ 53 ∷ 10
    ∷ 101 ∷ 110 ∷ 100 ∷ 32 ∷ 50 ∷ 10 ∷ [])
    ∷ (48 ∷ 49 ∷ 48 ∷ 48 ∷ 32 ∷ 49 ∷ 50 ∷ 10
    ∷ 114 ∷ 101 ∷ 102 ∷ 117 ∷ 115 ∷ 101 ∷ 100 ∷ 32 ∷ 49 ∷ 52 ∷ 10 ∷ [])
    ∷ (48 ∷ 49 ∷ 48 ∷ 48 ∷ 32 ∷ 49 ∷ 50 ∷ 10
    ∷ 114 ∷ 101 ∷ 102 ∷ 117 ∷ 115 ∷ 101 ∷ 100 ∷ 32 ∷ 49 ∷ 53 ∷ 10 ∷ [])
    ∷ (48 ∷ 49 ∷ 48 ∷ 48 ∷ 32 ∷ 57 ∷ 54 ∷ 32 ∷ 48 ∷ 53 ∷ 10
    ∷ 101 ∷ 110 ∷ 100 ∷ 32 ∷ 49 ∷ 10 ∷ [])
    ∷ (70 ∷ 70 ∷ 70 ∷ 70 ∷ 32 ∷ 51 ∷ 57 ∷ 10
    ∷ 101 ∷ 110 ∷ 100 ∷ 32 ∷ 49 ∷ 10 ∷ [])
    ∷ (114 ∷ 101 ∷ 102 ∷ 117 ∷ 115 ∷ 101 ∷ 100 ∷ 32 ∷ 49 ∷ 56 ∷ 10 ∷ [])
    ∷ []

pub cases : map listing_of asked ≡ answered
unfolding listing_of lines_of refusal_of runs_in line_of place_of decimal last_line records_in line_in record_of sound ends_line after_end behind count_of address_of type_of data_of digit_pair digit_of line body check_of hex_of run_of run_from front_of coded_of joined operand_of indexed_at indexed_as registers_at numbered_at numbered_of number_of distance_of own_of shifted outside target_of direct_of unseen row_of table_of page0 page10 page11 is_wide is_long number_at shape_of high_of direct_only address_only registers_of pair_of other_of register_size extended pick
cases = refl
