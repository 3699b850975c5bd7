-- A cell that holds no number of its kind is refused 1: "operation or field number unknown, over 8 registers".
-- Assumes nothing.
use mathlib.Core.Path.{◌≡◌, refl}
use mathlib.Core.Bool.{Bool, true, false, ◌&&◌, not}
use mathlib.Core.List.{List, [], ◌∷◌}
use Prim.Native.Nat.{ℕ, ◌<◌}
use lib.Dec.{ltb, leb}
use lib.ListN.{get_or}
use borrow.Author.Tests.{lt-leb}
use Rattle.ground.specs.Choice.{pick}
use Rattle.std.specs.Prelude.{Err, Some}
use Rattle.ground.specs.declared.refusals.Refusal.TheVariants.{Unknown}
use Rattle.values.specs.declared.pages.Page.{Page}
use Rattle.values.specs.Pages.{is_page}
use Rattle.values.specs.Widths.{bits_of, valid_of}
use Rattle.rows.specs.Sheet.{page0, page10, page11, table_of}
use Rattle.rows.specs.Lookup.{merged_of, placed, has_form_of, known_of}
use Rattle.postbytes.specs.Registers.{unknown_register}
use Rattle.instruction.specs.declared.Values.{Values}
use Rattle.instruction.specs.Records.{recognised, sound}
use Rattle.instruction.specs.Building.{make_of, operand_refusal, early_of, tried_of, refused_with, build_of, fresh_of}
use Rattle.entries.specs.Entries.{nowhere, is_flag, is_page_in, flagged_in, told_in, operand_of, kept_flagged, kept_of, all_flagged, entry_of}

-- no operation, mode, register, step or width is 255, and it is over 8 registers
no_operation : known_of nowhere ≡ false
unfolding pick table_of page0 page10 page11 merged_of placed has_form_of known_of
no_operation = refl

pub nowhere_known :
    (known_of nowhere
    ∷ ltb nowhere 8
    ∷ not (unknown_register nowhere)
    ∷ leb nowhere 4
    ∷ valid_of (record { number = 0; width = nowhere })
    ∷ leb nowhere 8
    ∷ [])
    ≡ false ∷ false ∷ false ∷ false ∷ false ∷ false ∷ []
unfolding pick bits_of valid_of
nowhere_known = rw no_operation

-- a flag that is neither 0 nor 1, and a page that is none
pub unrecognised : (row : List ℕ) → recognised (told_in false row) ≡ false
unfolding told_in recognised pick
unrecognised row = rw no_operation

pub bad_flag : (row : List ℕ) (address : ℕ) → all_flagged row ≡ false → fresh_of (entry_of row) address ≡ Err Unknown
unfolding entry_of fresh_of make_of pick
bad_flag row address e = rw (e, unrecognised row)

pub bad_page : (row : List ℕ) (address : ℕ) → 256 < get_or row 15 0 → fresh_of (entry_of row) address ≡ Err Unknown
unfolding all_flagged is_page_in is_page
bad_page row address h = bad_flag row address (go (flagged_in row))
  where
    go : (flags : Bool) → (flags && (leb (get_or row 15 0) 256 && is_flag row 16)) ≡ false
    go true = rw (lt-leb (get_or row 15 0) 256 h)
    go false = refl

pub bad_operand_flag : (row : List ℕ) → flagged_in row ≡ false → operand_refusal (operand_of row) ≡ Some Unknown
unfolding operand_of operand_refusal pick
bad_operand_flag row e = rw (e, unrecognised row)

pub bad_kept_flag :
    (row : List ℕ) (v : Values) (page : Page) (address : ℕ) → kept_flagged row ≡ false →
    build_of (kept_of row) v page address ≡ Err (refused_with (kept_of row) Unknown)
unfolding kept_of build_of tried_of early_of sound pick
bad_kept_flag row v page address e = rw (e, unrecognised row)
