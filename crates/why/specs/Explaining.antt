-- 02 a: "for a record and its answer": the fresh build of a record's row, and why it answers so. "Refusals: as the build's."
use Rattle.std.specs.Prelude.{ℕ, List, Result, Ok, Err}
use Rattle.ground.specs.declared.refusals.Refusal.{Refusal}
use Rattle.ground.specs.Refusals.{number_of}
use Rattle.instruction.specs.declared.Built.{Built}
use Rattle.instruction.specs.Building.{fresh_of}
use Rattle.entries.specs.Entries.{entry_of}
use Rattle.why.specs.declared.Reason.{Reason}
use Rattle.why.specs.declared.Reason.TheVariants.{Refused}
use Rattle.why.specs.declared.Explained.{Explained}
use Rattle.why.specs.Fields.{field_of}
use Rattle.why.specs.Reasons.{reason_for}

-- the fresh build of a row
abbrev pub answer_of : List ℕ → ℕ → Result Built Refusal
answer_of row address = fresh_of (entry_of row) address

-- of an accepted build its record's reason, of a refused one its field
abbrev pub reason_as : List ℕ → Result Built Refusal → ℕ → Reason
reason_as row (Ok b) address = reason_for (entry_of row) address
reason_as row (Err n) address = Refused (field_of row (number_of n))

unfoldable pub explained_of : List ℕ → ℕ → Explained
explained_of row address = record { built = answer_of row address; reason = reason_as row (answer_of row address) address }
