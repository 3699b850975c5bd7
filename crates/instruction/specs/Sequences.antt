-- 02 n: "in any sequence of builds, after each accepted one, mode and bytes are those of a fresh one with the same values and page. A widened branch still
-- stays long. .. Refusals: 7 only where the parser mode is Direct." 02 e: the page of each build is unknown or known.
use Rattle.std.specs.Prelude.{◌≡◌, true, false, List, [], ◌∷◌, ◌++◌, Result, Ok, Err, ◌⊎◌, ℕ, ◌<◌}
use Rattle.ground.specs.declared.refusals.Refusal.{Refusal}
use Rattle.ground.specs.declared.refusals.Refusal.TheVariants.{BadWidth, DirectNotAllowed}
use Rattle.values.specs.declared.pages.Page.{Page}
use Rattle.values.specs.declared.pages.Page.TheVariants.{Known}
use Rattle.values.specs.Pages.{reaches}
use Rattle.rows.specs.Forms.{direct, extended, relative}
use Rattle.rows.specs.Lookup.{has_form_of}
use Rattle.rows.specs.Sizes.{number_size_of, long_of}
use Rattle.instruction.specs.declared.Operand.{Operand}
use Rattle.instruction.specs.declared.Values.{Values}
use Rattle.instruction.specs.declared.Record.{Record}
use Rattle.instruction.specs.declared.Instruction.{Instruction}
use Rattle.instruction.specs.declared.Built.{Built}
use Rattle.instruction.specs.declared.Refused.{Refused}
use Rattle.instruction.specs.Names.{mode_direct}
use Rattle.instruction.specs.Records.{with_operation}
use Rattle.instruction.specs.Forms.{form_of}
use Rattle.instruction.specs.Building.{make_of, early_of, refused_with, build_of, fresh_of}

-- what a build takes anew
pub record Present : Type 0 where
  pub values : Values
  pub page : Page
  pub address : ℕ

abbrev pub built_with : Instruction → Present → Result Built Refused
built_with i p = build_of i p.values p.page p.address

-- the instruction that a build hands back, accepted or refused
abbrev pub instruction_in : Result Built Refused → Instruction
instruction_in (Ok b) = b.instruction
instruction_in (Err x) = x.instruction

-- a kept instruction after builds, one after the other; a refused one leaves it as it was
unfoldable pub kept_after : Instruction → List Present → Instruction
kept_after i [] = i
kept_after i (p ∷ ps) = kept_after (instruction_in (built_with i p)) ps

-- a build but for the instruction that is handed back beside a refusal
abbrev pub told_of : Result Built Refused → Result Built Refusal
told_of (Ok b) = Ok b
told_of (Err x) = Err x.refusal

-- a fresh one of an operand
abbrev pub fresh_with : Operand → Present → Result Built Refusal
fresh_with o p = fresh_of (record { operand = o; page = p.page; values = p.values }) p.address

-- each build of an instruction that was made, after any builds, answers as a fresh one: bytes, form, mark, page and refusal; a widened branch aside
abbrev pub AsFresh : Type 0
AsFresh =
    (r : Record) (i : Instruction) (ps : List Present) (p : Present) →
    make_of r ≡ Ok i →
    (kept_after i ps).widened ≡ false →
    told_of (built_with (kept_after i ps) p) ≡ fresh_with r.operand p

-- a build that is refused, among others, changes nothing and spoils nothing after it: any kept instruction comes out as if it had not been asked for
abbrev pub SpoilsNothing : Type 0
SpoilsNothing =
    (i : Instruction) (ps : List Present) (p : Present) (qs : List Present) (x : Refused) →
    built_with (kept_after i ps) p ≡ Err x →
    kept_after i (ps ++ (p ∷ qs)) ≡ kept_after i (ps ++ qs)

-- ---- a widened branch
-- nothing is ever widened but a short branch that may be made long
abbrev pub OnlyShortWidens : Type 0
OnlyShortWidens =
    (r : Record) (i : Instruction) (ps : List Present) →
    make_of r ≡ Ok i →
    (kept_after i ps).widened ≡ true →
    (form_of r.operand r.values r.page ≡ relative) × ((number_size_of r.operand.operation relative ≡ 1) × (r.operand.widening ≡ true))

-- "on a row with Extended": never, whatever the mode, so of these rows AsFresh says it of every build
abbrev pub NeverWidened : Type 0
NeverWidened =
    (r : Record) (i : Instruction) (ps : List Present) →
    make_of r ≡ Ok i →
    has_form_of r.operand.operation extended ≡ true →
    (kept_after i ps).widened ≡ false

-- "A widened branch still stays long": any kept instruction that is widened is so after a build, accepted or refused
abbrev pub StaysLong : Type 0
StaysLong = (i : Instruction) (p : Present) → i.widened ≡ true → (instruction_in (built_with i p)).widened ≡ true

-- the operand of the long branch
abbrev pub lengthened : Operand → Operand
lengthened o = with_operation (long_of o.operation) o

-- the short branch as it is kept once it is long
abbrev pub long_kept : Operand → Instruction
long_kept o = record { operand = o; form = relative; trial = false; widened = true }

-- an answer that hands that instruction back
abbrev pub handing_back : Instruction → Result Built Refusal → Result Built Refused
handing_back i (Ok b) = Ok (record { instruction = i; bytes = b.bytes; length = b.length; dirties = b.dirties })
handing_back i (Err n) = Err (refused_with i n)

-- once widened, what is kept does not change any more, and each build answers as a fresh one of the long branch: bytes, page and refusal
abbrev pub LongAfter : Type 0
LongAfter =
    (r : Record) (i : Instruction) (ps : List Present) (p : Present) →
    make_of r ≡ Ok i →
    (kept_after i ps).widened ≡ true →
    (kept_after i ps ≡ long_kept r.operand)
    × (built_with (kept_after i ps) p ≡ handing_back (long_kept r.operand) (fresh_with (lengthened r.operand) p))

-- ---- refusal 7
-- in parser mode Direct, 1 to 3 passed: "a Direct not on trial whose page is unknown or not its high byte"
pub record OutOfReach (i : Instruction) (p : Present) : Type 0 where
  pub passed : early_of i p.values ≡ Ok tt
  pub mode : i.operand.mode ≡ mode_direct
  pub form : i.form ≡ direct
  pub unmarked : i.trial ≡ false
  pub beyond : reaches p.page p.values.unsigned.number ≡ false

-- "7 only where the parser mode is Direct": of every kept instruction, and there exactly when it is out of reach
abbrev pub SevenDirect : Type 0
SevenDirect =
    (i : Instruction) (p : Present) →
    (built_with i p ≡ Err (refused_with i DirectNotAllowed) → OutOfReach i p)
    × (OutOfReach i p → built_with i p ≡ Err (refused_with i DirectNotAllowed))

-- ---- refusal 6 of an address
-- 1 to 3 passed, a Direct within page 0 that was forced: "a wide forced value under known page 0"
pub record WideForced (i : Instruction) (p : Present) : Type 0 where
  pub passed : early_of i p.values ≡ Ok tt
  pub mode : i.operand.mode ≡ mode_direct
  pub form : i.form ≡ direct
  pub forced : i.operand.forced ≡ true
  pub wide : p.values.unsigned.width ≡ 16
  pub page : p.page ≡ Known 0
  pub within : p.values.unsigned.number < 256

-- "the 6 for a wide forced value under known page 0 only": of every kept instruction that is Direct or Extended
abbrev pub SixUnderZero : Type 0
SixUnderZero =
    (i : Instruction) (p : Present) →
    (i.form ≡ direct) ⊎ (i.form ≡ extended) →
    (built_with i p ≡ Err (refused_with i BadWidth) → WideForced i p)
    × (WideForced i p → built_with i p ≡ Err (refused_with i BadWidth))
