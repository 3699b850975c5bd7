-- 02 a: "the field that caused it". What naming a field promises: a change of that field alone removes the refusal.
use Rattle.std.specs.Prelude.{◌≡◌, Bool, true, false, ◌&&◌, List, ◌⊎◌, ℕ, ◌<◌, eqb, leb, get_or}
use Rattle.ground.specs.Refusals.{unknown, no_such_mode}
use Rattle.rows.specs.Forms.{relative}
use Rattle.rows.specs.Lookup.{has_form_of}
use Rattle.instruction.specs.Building.{told}
use Rattle.entries.specs.Entries.{byte_in, flag_in}
use Rattle.why.specs.declared.Field.{Field}
use Rattle.why.specs.declared.Field.TheVariants.{Operation, Mode, Indirect, Forced, Step, Widening, Registers, Page, Values}
use Rattle.why.specs.Fields.{field_of}
use Rattle.why.specs.Explaining.{answer_of}

-- ---- changing one field
-- whether a place of the row is a field's (docs/ROWS.md)
abbrev pub is_of : Field → ℕ → Bool
is_of Operation k = eqb k 0
is_of Mode k = eqb k 1
is_of Indirect k = eqb k 2
is_of Forced k = eqb k 3
is_of Step k = eqb k 4
is_of Widening k = eqb k 5
is_of Registers k = leb 6 k && leb k 14
is_of Page k = eqb k 15
is_of Values k = leb 16 k && leb k 20

-- rows that differ at most in a field's cells, and there has the other one cells of 16 bits
pub record AlikeBut (field : Field) (row other : List ℕ) : Type 0 where
  pub kept : (k : ℕ) → is_of field k ≡ false → get_or other k 0 ≡ get_or row k 0
  pub small : (k : ℕ) → is_of field k ≡ true → get_or other k 0 < 65536

-- ---- the refusal removed
-- the field that is named of a row
abbrev pub named_of : List ℕ → ℕ → Field
named_of row address = field_of row (told (answer_of row address))

-- another row is refused for another field, and under another number, but that a 1 may have had a second wrong field behind it
pub record Elsewhere (row other : List ℕ) (address : ℕ) : Type 0 where
  pub field : named_of other address ≡ named_of row address → ⊥
  pub number : (told (answer_of row address) ≡ unknown) ⊎ (told (answer_of other address) ≡ told (answer_of row address) → ⊥)

-- a row that differs in the named field alone, and is accepted or refused for something else
pub record Mended (row : List ℕ) (address : ℕ) : Type 0 where
  pub other : List ℕ
  pub alike : AlikeBut (named_of row address) row other
  pub rid : (told (answer_of other address) ≡ 0) ⊎ Elsewhere row other address

-- ---- the one exception
-- a branch that is indirect: it has no indirect form, and no mode but Extended, so that two fields are wrong at once
pub record IndirectBranch (row : List ℕ) : Type 0 where
  pub branch : has_form_of (byte_in row 0) relative ≡ true
  pub indirect : flag_in row 2 ≡ true

-- every refused row can be mended in the field that is named, but for the mode of an indirect branch
abbrev pub CanMend : Type 0
CanMend =
    (row : List ℕ) (address : ℕ) →
    (told (answer_of row address) ≡ 0 → ⊥) →
    (named_of row address ≡ Mode → IndirectBranch row → ⊥) →
    Mended row address

-- which no mode helps: 1 or 2, whatever it is
abbrev pub NoModeHelps : Type 0
NoModeHelps =
    (row other : List ℕ) (address : ℕ) →
    IndirectBranch row →
    AlikeBut Mode row other →
    (told (answer_of other address) ≡ unknown) ⊎ (told (answer_of other address) ≡ no_such_mode)
