-- Demand 3 of a settled list of instructions, bare labels and SETDP.
-- Assumes nothing.
use mathlib.Core.Path.{◌≡◌, refl, sym, ap, subst, ◌∙◌}
use mathlib.Core.Bool.{true, false}
use mathlib.Core.List.{List, [], ◌∷◌, ◌++◌}
use mathlib.Core.Logic.{inl}
use Prim.Native.Nat.{ℕ, zero, suc, ◌+◌, ◌%◌, ◌≤◌, ◌<◌}
use native.Mathlib.Nat.{zero-add}
use native.Mathlib.Omega.{arith}
use lib.Dec.{ltb}
use lib.ListN.{length, length-append}
use borrow.Author.Tests.{eq-eqb}
use Rattle.std.specs.Prelude.{Option, Some, None, Result, Ok, Err, is_ok}
use Rattle.std.specs.Option.{unwrap_or}
use Rattle.ground.specs.Choice.{pick}
use Rattle.ground.specs.declared.refusals.Refusal.{Refusal}
use Rattle.ground.proofs.Choices.{by_pick}
use Rattle.values.specs.declared.pages.Page.{Page}
use Rattle.values.specs.declared.pages.Page.TheVariants.{Known}
use Rattle.values.specs.Pages.{meets}
use Rattle.expressions.specs.Numbers.{Cells, Short}
use Rattle.records.specs.Objects.{Object, With}
use Rattle.records.specs.Text.{close}
use Rattle.records.specs.Runs.{runs_of, pieces}
use Rattle.records.proofs.Runs.{runs_on}
use Rattle.reader.specs.Answers.{runs_in}
use Rattle.reader.proofs.Round.{tables_read}
use Rattle.instruction.specs.declared.Record.{Record}
use Rattle.instruction.specs.declared.Built.{Built}
use Rattle.meanings.proofs.Decodes.{told_some}
use Rattle.instruction.specs.Building.{told, bytes_told, size_told}
use Rattle.instruction.proofs.Padded.{fresh_told}
use Rattle.laying.specs.Laying.{built_at}
use Rattle.laying.specs.Exactly.{all_built, bytes_from}
use Rattle.laying.specs.Meant.{all_meet}
use Rattle.laying.proofs.Exactly.{fits_laid}
use Rattle.laying.proofs.Decodes.{laid_decodes, laid_whole}
use Rattle.statements.specs.declared.Statement.{Statement}
use Rattle.statements.specs.declared.Statement.TheVariants.{Label, Instruction, Rmb, Fcb, Fdb, Fcc, Org, Setdp, Unknown}
use Rattle.statements.specs.declared.Effect.{Effect}
use Rattle.statements.specs.Listing.{rows_of, statement_at, entry_at}
use Rattle.statements.specs.Asking.{asked_of}
use Rattle.statements.specs.Effects.{made_of, instruction_effect, setdp_effect, effect_of, effect_at}
use Rattle.statements.specs.Turns.{turned}
use Rattle.statements.proofs.Told.{instruction_fresh}
use Rattle.statements.proofs.Pages.{instruction_turns}
use Rattle.passes.specs.declared.Ended.{Ended}
use Rattle.passes.specs.Walks.{Source, walk_to, walk_of}
use Rattle.passes.specs.Passes.{Outcome, pass_of, passed_of, end_of, answer_of, too_many, ended_of}
use Rattle.passes.proofs.Fine.{fine_all}
use Rattle.passes.proofs.Rests.{Rests, ended_rests}
use Rattle.assembly.specs.Objects.{gather, address_at, page_at, objects_of, values_of}
use Rattle.assembly.specs.Made.{bytes_in, made_in, made_from}
use Rattle.assembly.specs.Text.{settled_text}
use Rattle.assembly.proofs.Places.{Stands, own}
use Rattle.assembly.proofs.Settled.{passed_stand}
use Rattle.assembly.proofs.Lawful.{lawful}
use Rattle.assembly.proofs.Made.{settled_bytes, record_in, built_in, built_accepted, built_bytes}
use Rattle.settled.specs.Code.{is_code, sets_page, records_in, records_from, records_is}
use Rattle.settled.specs.Demand.{bytes_is, SettledDemand, SettledUnderZero}

-- ---- one statement
module _ (src : Source) (o : Outcome) (i : ℕ) (s : Stands src o i) where
  -- a label stands where the next statement stands
  label_next : statement_at src.list i ≡ Label → address_at src o (i + 1) ≡ address_at src o i
  unfolding effect_at pick
  label_next is = s.at ∙ rw is (omega arith)

  label_made : statement_at src.list i ≡ Label → made_in src o i ≡ []
  unfolding made_in pick
  label_made is = rw is

  label_records : statement_at src.list i ≡ Label → records_in src o i ≡ []
  unfolding records_in
  label_records is = rw is

  -- and so does SETDP
  setdp_next : (number : ℕ) → statement_at src.list i ≡ Setdp number → address_at src o (i + 1) ≡ address_at src o i
  unfolding effect_at setdp_effect pick
  setdp_next number is =
      s.at
      ∙ rw is
      (by_pick (λ (e : Effect). unwrap_or e.to (address_at src o i + e.size) ≡ address_at src o i) (ltb number 256) (omega arith) (omega arith))

  setdp_made : (number : ℕ) → statement_at src.list i ≡ Setdp number → made_in src o i ≡ []
  unfolding made_in pick
  setdp_made number is = rw is

  setdp_records : (number : ℕ) → statement_at src.list i ≡ Setdp number → records_in src o i ≡ []
  unfolding records_in
  setdp_records number is = rw is

  module _ (node : ℕ) (is : statement_at src.list i ≡ Instruction node) where
    -- what it does, as an instruction
    does : Effect
    does = effect_of (Instruction node) (entry_at src.list i) src.items src.nodes o.table (address_at src o i % 65536) (page_at src o i) false

    own_does : own src o i ≡ does
    unfolding effect_at does
    own_does =
        ap
        (λ (x : Statement).
        effect_of x (entry_at src.list i) src.items src.nodes o.table (address_at src o i % 65536) (page_at src o i) false)
        is

    does_stay : does.to ≡ None
    unfolding does
    does_stay = stay (made_of (entry_at src.list i) (asked_of src.nodes o.table node (address_at src o i % 65536)) false (page_at src o i) (address_at src o i % 65536))
      where
        stay : (m : Result Built Refusal) → (instruction_effect (entry_at src.list i) m).to ≡ None
        stay (Ok b) = refl
        stay (Err why) = refl

    does_size : does.size ≡ size_told (built_in src o i node s is)
    unfolding does
    does_size =
        (instruction_fresh node (entry_at src.list i) src.items src.nodes o.table (address_at src o i % 65536) (page_at src o i) false
        (sym (ap (λ (x : Effect). x.refusal) own_does) ∙ s.accepted)).counted

    instruction_next : address_at src o (i + 1) ≡ address_at src o i + size_told (built_in src o i node s is)
    instruction_next =
        s.at
        ∙ ap (λ (to : Option ℕ). unwrap_or to (address_at src o i + (own src o i).size)) (ap (λ (x : Effect). x.to) own_does ∙ does_stay)
        ∙ ap (λ (n : ℕ). address_at src o i + n) (ap (λ (x : Effect). x.size) own_does ∙ does_size)

    instruction_near : address_at src o i + size_told (built_in src o i node s is) ≤ 65536
    instruction_near = omega (arith, s.near, ap (λ (x : Effect). x.size) own_does, does_size)

    instruction_made : made_in src o i ≡ With (address_at src o i % 65536) (bytes_in src o i) ∷ []
    unfolding made_in pick
    instruction_made = rw is

    instruction_records : records_in src o i ≡ record_in src o i node s is ∷ []
    unfolding records_in
    instruction_records = rw is

-- ---- a record laid before others
lay_more :
    (r : Record) (rs : List Record) (at next : ℕ) → told (built_at r at) ≡ 0 → next ≡ at + size_told (built_at r at) → all_built rs next ≡ true →
    all_built (r ∷ rs) at ≡ true
unfolding all_built
lay_more r rs at next z e b = rw (eq-eqb (told (built_at r at)) 0 z, ← e) b

bytes_more :
    (r : Record) (rs : List Record) (at next : ℕ) → next ≡ at + size_told (built_at r at) →
    bytes_from (r ∷ rs) at ≡ bytes_told (built_at r at) ++ bytes_from rs next
unfolding bytes_from
bytes_more r rs at next e = rw e

no_code : {A : Type 0} → false ≡ true → A
no_code e = let z : ◌≡◌ {A = ℕ} 0 1 = cc in absurd (omega arith)

-- behind a statement no other stands beyond 65536
next_near :
    (src : Source) (o : Outcome) (i : ℕ) → Stands src o i → (x : Statement) → statement_at src.list i ≡ x → is_code x ≡ true →
    address_at src o (i + 1) ≤ 65536
next_near src o i s Label is c = omega (arith, label_next src o i s is, s.near)
next_near src o i s (Instruction node) is c = omega (arith, instruction_next src o i s node is, instruction_near src o i s node is)
next_near src o i s (Rmb node) is c = no_code c
next_near src o i s (Fcb first count) is c = no_code c
next_near src o i s (Fdb first count) is c = no_code c
next_near src o i s (Fcc first count) is c = no_code c
next_near src o i s (Org node) is c = no_code c
next_near src o i s (Setdp number) is c = omega (arith, setdp_next src o i s number is, s.near)
next_near src o i s Unknown is c = no_code c

start_near : (src : Source) (o : Outcome) → address_at src o 0 ≡ 0
unfolding address_at walk_to walk_of
start_near src o = refl

last_near :
    (src : Source) (o : Outcome) (fine : ℕ) → ((i : ℕ) → i < fine → Stands src o i) →
    ((i : ℕ) → i < fine → is_code (statement_at src.list i) ≡ true) → (n : ℕ) → n ≤ fine → address_at src o n ≤ 65536
last_near src o fine all code zero h = omega (arith, start_near src o)
last_near src o fine all code (suc n) h =
    let e : suc n ≡ n + 1 = omega arith in
    rw e (next_near src o n (all n (omega arith)) (statement_at src.list n) refl (code n (omega arith)))

-- ---- all statements
module _
    (src : Source) (o : Outcome) (fine : ℕ) (all : (i : ℕ) → i < fine → Stands src o i)
  where
    -- n statements from i on: their records are built where they stand, and their objects are one run
    record Laid (n i : ℕ) : Type 0 where
      built : all_built (records_from src o n i) (address_at src o i) ≡ true
      runs : runs_of (pieces (made_from src o n i)) ≡ close (address_at src o i) (bytes_from (records_from src o n i) (address_at src o i)) []
      ends : address_at src o i + length (bytes_from (records_from src o n i) (address_at src o i)) ≡ address_at src o (i + n)

    module _ (n i : ℕ) (h : i < fine) (j : Laid n (i + 1)) where
      index : i + suc n ≡ i + 1 + n
      index = omega arith

      after_nothing : address_at src o (i + 1) ≡ address_at src o i → made_in src o i ≡ [] → records_in src o i ≡ [] → Laid (suc n) i
      unfolding gather
      after_nothing next made records = record {
        built = rw (records, sym next) j.built;
        runs = rw (records, made, sym next) j.runs;
        ends = rw (records, sym next, index) j.ends;
      }

      after_instruction : (node : ℕ) → statement_at src.list i ≡ Instruction node → Laid (suc n) i
      unfolding gather built_at
      after_instruction node is =
          let s = all i h in
          let r = record_in src o i node s is in
          let b = built_in src o i node s is in
          let at = address_at src o i in
          let rest = records_from src o n (i + 1) in
          let z = built_accepted src o i node s is in
          let next = instruction_next src o i s node is in
          let some = told_some r (at % 65536) z in
          let sized = (fresh_told r (at % 65536)).size in
          let same = built_bytes src o i node s is in
          let near = instruction_near src o i s node is in
          let inside : at % 65536 ≡ at = omega (arith, some) in
          let on : address_at src o (i + 1) ≡ at % 65536 + length (bytes_in src o i) = omega (arith, next, inside, sized, ap length same) in
          let later = bytes_from rest (address_at src o (i + 1)) in
          let list = ap (λ (l : List Record). l ++ rest) (instruction_records src o i s node is) in
          let bytes : bytes_from (records_in src o i ++ rest) at ≡ bytes_in src o i ++ later =
          ap (λ (l : List Record). bytes_from l at) list
          ∙ bytes_more r rest at (address_at src o (i + 1)) next
          ∙ ap (λ (l : List ℕ). l ++ later) (sym same) in
          record {
            built = ap (λ (l : List Record). all_built l at) list ∙ lay_more r rest at (address_at src o (i + 1)) z next j.built;
            runs =
                ap (λ (l : List Object). runs_of (pieces (l ++ made_from src o n (i + 1)))) (instruction_made src o i s node is)
                ∙ runs_on (at % 65536) (address_at src o (i + 1)) (bytes_in src o i) later (pieces (made_from src o n (i + 1))) on j.runs
                ∙ ap (λ (a : ℕ). close a (bytes_in src o i ++ later) []) inside
                ∙ ap (λ (l : List ℕ). close at l []) (sym bytes);
            ends =
                ap (λ (l : List ℕ). at + length l) bytes
                ∙ omega (arith, length-append (bytes_in src o i) later, on, inside, j.ends, ap (λ (k : ℕ). address_at src o k) index);
          }

      after : (s : Statement) → statement_at src.list i ≡ s → is_code s ≡ true → Laid (suc n) i
      after Label is c =
          let s = all i h in
          after_nothing (label_next src o i s is) (label_made src o i s is) (label_records src o i s is)
      after (Instruction node) is c = after_instruction node is
      after (Rmb node) is c = no_code c
      after (Fcb first count) is c = no_code c
      after (Fdb first count) is c = no_code c
      after (Fcc first count) is c = no_code c
      after (Org node) is c = no_code c
      after (Setdp number) is c =
          let s = all i h in
          after_nothing (setdp_next src o i s number is) (setdp_made src o i s number is) (setdp_records src o i s number is)
      after Unknown is c = no_code c

    module _ (code : (i : ℕ) → i < fine → is_code (statement_at src.list i) ≡ true) where
      laid : (n i : ℕ) → i + n ≤ fine → Laid n i
      unfolding gather all_built bytes_from
      laid zero i h = let e : i + 0 ≡ i = omega arith in record { built = refl; runs = refl; ends = rw e (omega arith) }
      laid (suc n) i h = after n i (omega arith) (laid n (i + 1) (omega arith)) (statement_at src.list i) refl (code i (omega arith))

-- ---- a list that settles with no refusal
none_refused : (o : Option Refusal) (at : ℕ) → is_ok (end_of o at) ≡ true → o ≡ None
unfolding end_of
none_refused None at e = refl
none_refused (Some why) at e = absurd cc

module _ (src : Source) (ls : List ℕ) (z : is_ok (ended_of src ls).end ≡ true) where
  rests : (too_many src.list src.nodes ≡ false) × Rests src (passed_of src ls)
  rests = ended_rests src ls (too_many src.list src.nodes) refl (inl z)

  ended_passed : ended_of src ls ≡ (passed_of src ls).answer
  unfolding ended_of pick
  ended_passed = rw rests.0

  -- every statement is put out
  all_fine : (passed_of src ls).answer.fine ≡ rows_of src.list
  unfolding answer_of
  all_fine =
      let o = passed_of src ls in
      let s = (pass_of src o.table o.sizes).state in
      let end : is_ok (end_of s.refusal s.at) ≡ true =
      ap (λ (e : Ended). is_ok e.end) (sym rests.1.answers) ∙ ap (λ (e : Ended). is_ok e.end) (sym ended_passed) ∙ z in
      ap (λ (e : Ended). e.fine) rests.1.answers
      ∙ fine_all src o.table o.sizes (rows_of src.list) (none_refused s.refusal s.at end)

  -- the text is read back as the runs of the statements' own objects
  text_runs :
      Cells Short src.nodes → Cells Short ls →
      runs_in (settled_text src ls) ≡ runs_of (pieces (made_from src (passed_of src ls) (rows_of src.list) 0))
  unfolding settled_text
  text_runs nodes_fit lent_fits =
      let rows = lawful src ls nodes_fit lent_fits in
      tables_read (objects_of src ls) (values_of src ls) rows.0 rows.1
      ∙ ap (λ (os : List Object). runs_of (pieces os)) (settled_bytes src ls)
      ∙ ap (λ (k : ℕ). runs_of (pieces (made_from src (passed_of src ls) k 0))) (ap (λ (e : Ended). e.fine) ended_passed ∙ all_fine)

pub settled_reads : SettledDemand
settled_reads page src ls code met z nodes_fit lent_fits =
    let o = passed_of src ls in
    let rows = rows_of src.list in
    let fine = all_fine src ls z in
    let j =
    laid src o rows (λ i h. passed_stand src ls i (omega (arith, fine))) code rows 0 (omega arith) in
    let start = start_near src o in
    let end = last_near src o rows (λ i h. passed_stand src ls i (omega (arith, fine))) code rows (omega arith) in
    let within : length (bytes_is src ls) ≤ 65536 = omega (arith, rw start at j.ends, end, ap (address_at src o) (zero-add rows)) in
    let laid_so = fits_laid (records_is src ls) 0 65536 (record { built = rw start at j.built; within = omega arith; enough = within }) in
    let all = laid_whole page (records_is src ls) 0 65536 (bytes_is src ls) (omega arith) met laid_so in
    record {
      laid = laid_so;
      run = text_runs src ls z nodes_fit lent_fits ∙ (rw start at j.runs);
      same = laid_decodes page (records_is src ls) 0 65536 (bytes_is src ls) (omega arith) met laid_so;
      accepted = all.0;
      number = all.1;
      whole = all.2;
    }

-- ---- without SETDP
-- under page 0, or under none
abbrev Met : Page → Type 0
Met page = meets (Known 0) page ≡ true

module _ (src : Source) (o : Outcome) (i : ℕ) (s : Stands src o i) (met : Met (page_at src o i)) where
  label_met : statement_at src.list i ≡ Label → Met (turned (own src o i).turn (page_at src o i))
  unfolding effect_at
  label_met is = rw is met

  instruction_met : (node : ℕ) → statement_at src.list i ≡ Instruction node → Met (turned (own src o i).turn (page_at src o i))
  instruction_met node is =
      subst Met
      (sym (instruction_turns src.list src.items src.nodes o.table i (address_at src o i % 65536) (page_at src o i) false node is s.accepted))
      (by_pick Met _ refl met)

  next_met : (x : Statement) → statement_at src.list i ≡ x → is_code x ≡ true → sets_page x ≡ false → Met (page_at src o (i + 1))
  next_met Label is c p = rw s.page (label_met is)
  next_met (Instruction node) is c p = rw s.page (instruction_met node is)
  next_met (Rmb node) is c p = no_code c
  next_met (Fcb first count) is c p = no_code c
  next_met (Fdb first count) is c p = no_code c
  next_met (Fcc first count) is c p = no_code c
  next_met (Org node) is c p = no_code c
  next_met (Setdp number) is c p = no_code (sym p)
  next_met Unknown is c p = no_code c

module _
    (src : Source) (o : Outcome) (fine : ℕ) (all : (i : ℕ) → i < fine → Stands src o i)
    (code : (i : ℕ) → i < fine → is_code (statement_at src.list i) ≡ true) (plain : (i : ℕ) → i < fine → sets_page (statement_at src.list i) ≡ false)
  where
    page_met : (n : ℕ) → n ≤ fine → Met (page_at src o n)
    unfolding page_at walk_to walk_of
    page_met zero h = refl
    page_met (suc n) h =
        let e : suc n ≡ n + 1 = omega arith in
        rw e (next_met src o n (all n (omega arith)) (page_met n (omega arith)) (statement_at src.list n) refl (code n (omega arith)) (plain n (omega arith)))

-- the record of an instruction has the page where it stands
records_met :
    (page : Page) (src : Source) (o : Outcome) (i : ℕ) (rest : List Record) (x : Statement) → statement_at src.list i ≡ x →
    meets page (page_at src o i) ≡ true → all_meet page rest ≡ true → all_meet page (records_in src o i ++ rest) ≡ true
unfolding records_in all_meet
records_met page src o i rest Label is m r = rw is r
records_met page src o i rest (Instruction node) is m r = rw (is, m) r
records_met page src o i rest (Rmb node) is m r = rw is r
records_met page src o i rest (Fcb first count) is m r = rw is r
records_met page src o i rest (Fdb first count) is m r = rw is r
records_met page src o i rest (Fcc first count) is m r = rw is r
records_met page src o i rest (Org node) is m r = rw is r
records_met page src o i rest (Setdp number) is m r = rw is r
records_met page src o i rest Unknown is m r = rw is r

all_met :
    (page : Page) (src : Source) (o : Outcome) (n i : ℕ) → ((k : ℕ) → k < i + n → meets page (page_at src o k) ≡ true) →
    all_meet page (records_from src o n i) ≡ true
unfolding gather all_meet
all_met page src o zero i m = refl
all_met page src o (suc n) i m =
    records_met page src o i (records_from src o n (i + 1)) (statement_at src.list i) refl (m i (omega arith))
    (all_met page src o n (i + 1) (λ k h. m k (omega arith)))

pub settled_under_zero : SettledUnderZero
settled_under_zero src ls code plain z nodes_fit lent_fits =
    let o = passed_of src ls in
    let rows = rows_of src.list in
    let fine = all_fine src ls z in
    let met = page_met src o rows (λ i h. passed_stand src ls i (omega (arith, fine))) code plain in
    settled_reads (Known 0) src ls code (all_met (Known 0) src o rows 0 (λ k h. met k (omega arith))) z nodes_fit lent_fits
