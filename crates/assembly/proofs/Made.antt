-- The bytes of a settled pass are those that building each statement at its address gives, and an instruction's bytes decode there to its length and
-- meaning.
-- Assumes nothing.
use mathlib.Core.Path.{◌≡◌, refl, sym, ap, ◌∙◌}
use mathlib.Core.Bool.{Bool, true, false}
use mathlib.Core.List.{List, [], ◌∷◌, ◌++◌}
use Prim.Native.Nat.{ℕ, zero, suc, ◌+◌, ◌%◌, ◌≤◌, ◌<◌}
use native.Mathlib.Omega.{arith}
use borrow.Author.Tests.{eq-eqb, ne_eqb}
use Rattle.std.specs.Prelude.{Result, Ok}
use Rattle.ground.specs.declared.refusals.Refusal.{Refusal}
use Rattle.ground.specs.Choice.{pick}
use Rattle.ground.proofs.Choices.{pick_true, pick_false}
use Rattle.records.specs.Objects as records
use Rattle.records.specs.Objects.{Object, With, Without}
use Rattle.instruction.specs.declared.Record.{Record}
use Rattle.instruction.specs.declared.Built.{Built}
use Rattle.instruction.specs.Building.{fresh_of, told, bytes_told}
use Rattle.decoder.specs.Origin.{origin}
use Rattle.decoder.specs.Front.{front_of}
use Rattle.meanings.specs.ReadBack.{read_told}
use Rattle.meanings.proofs.Decodes.{own_told_decodes}
use Rattle.statements.specs.declared.Statement.TheVariants.{Instruction}
use Rattle.statements.specs.Listing.{none, statement_at, entry_at}
use Rattle.statements.specs.Asking.{asked_of}
use Rattle.statements.specs.Effects.{record_of, effect_at}
use Rattle.statements.specs.Objects.{values_at}
use Rattle.statements.proofs.Told.{instruction_fresh}
use Rattle.statements.proofs.Small.{accepted_bytes}
use Rattle.passes.specs.Walks.{Source}
use Rattle.passes.specs.Passes.{Outcome, passed_of, too_many, ended_of}
use Rattle.assembly.specs.Objects.{kind_at, values_built, address_at, page_at, object_in, values_in, gather, objects_from, values_from, objects_of, values_of}
use Rattle.assembly.specs.Made.{bytes_in, made_in, made_from}
use Rattle.assembly.proofs.Places.{Stands}
use Rattle.assembly.proofs.Rows.{by_kind, objects_with, objects_without}
use Rattle.assembly.proofs.Settled.{stands_shape, passed_stand}

module _ (src : Source) (o : Outcome) where
  made_with : (i : ℕ) → kind_at src.list i ≡ 1 → made_in src o i ≡ With (address_at src o i % 65536) (bytes_in src o i) ∷ []
  unfolding made_in
  made_with i e =
      pick_false _ _ (ne_eqb (kind_at src.list i) none (λ z. omega arith))
      ∙ ap (λ (x : Object). x ∷ []) (pick_true _ _ (eq-eqb (kind_at src.list i) 1 e))

  made_without : (i : ℕ) → kind_at src.list i ≡ 0 → made_in src o i ≡ Without ∷ []
  unfolding made_in
  made_without i e =
      pick_false _ _ (ne_eqb (kind_at src.list i) none (λ z. omega arith))
      ∙ ap (λ (x : Object). x ∷ []) (pick_false _ _ (ne_eqb (kind_at src.list i) 1 (λ z. omega arith)))

  made_none : (i : ℕ) → kind_at src.list i ≡ none → made_in src o i ≡ []
  unfolding made_in
  made_none i e = pick_true _ _ (eq-eqb (kind_at src.list i) none e)

  -- one statement's rows before others
  made_next :
      (i : ℕ) → Stands src o i → (rows rest : List ℕ) →
      records.objects_of (object_in src o i ++ rows) (values_in src o i ++ rest) ≡ made_in src o i ++ records.objects_of rows rest
  unfolding values_in values_built
  made_next i s rows rest =
      by_kind _ _ _ _ _ _ _ (stands_shape src o i s) rows rest
      (λ os vs. records.objects_of os vs ≡ made_in src o i ++ records.objects_of rows rest)
      (λ one _.
      objects_with _ _ (values_in src o i) rows rest (stands_shape src o i s).long
      ∙ ap (λ (l : List Object). l ++ records.objects_of rows rest) (sym (made_with i one)))
      (λ z. objects_without _ _ rows rest ∙ ap (λ (l : List Object). l ++ records.objects_of rows rest) (sym (made_without i z)))
      (λ e. ap (λ (l : List Object). l ++ records.objects_of rows rest) (sym (made_none i e)))

  made_all :
      (fine : ℕ) → ((i : ℕ) → i < fine → Stands src o i) → (n i : ℕ) → i + n ≤ fine →
      records.objects_of (objects_from src o n i) (values_from src o n i) ≡ made_from src o n i
  unfolding gather
  made_all fine all zero i h = refl
  made_all fine all (suc n) i h =
      made_next i (all i (omega arith)) (objects_from src o n (i + 1)) (values_from src o n (i + 1))
      ∙ ap (λ (l : List Object). made_in src o i ++ l) (made_all fine all n (i + 1) (omega arith))

module _ (src : Source) (ls : List ℕ) where
  settled_from :
      (b : Bool) → too_many src.list src.nodes ≡ b →
      records.objects_of (objects_of src ls) (values_of src ls) ≡ made_from src (passed_of src ls) (ended_of src ls).fine 0
  unfolding objects_of values_of ended_of gather pick
  settled_from true q = rw q
  settled_from false q =
      rw q (made_all src (passed_of src ls) (passed_of src ls).answer.fine (passed_stand src ls) (passed_of src ls).answer.fine 0 (omega arith))

  -- the rows say, in order, each statement before the refused one: its kind of object, its address, and the bytes that building it there gives
  pub settled_bytes : records.objects_of (objects_of src ls) (values_of src ls) ≡ made_from src (passed_of src ls) (ended_of src ls).fine 0
  settled_bytes = settled_from (too_many src.list src.nodes) refl

-- ---- an instruction of the settled pass
module _ (src : Source) (o : Outcome) (i node : ℕ) (s : Stands src o i) (is : statement_at src.list i ≡ Instruction node) where
  -- its operand record: the values of its operand there, and the page as it is there
  abbrev pub record_in : Record
  record_in =
      record_of (entry_at src.list i) (asked_of src.nodes o.table node (address_at src o i % 65536)) (page_at src o i)

  abbrev pub built_in : Result Built Refusal
  built_in = fresh_of record_in (address_at src o i % 65536)

  pub built_accepted : told built_in ≡ 0
  unfolding effect_at
  built_accepted =
      let z = s.accepted in
      (instruction_fresh node (entry_at src.list i) src.items src.nodes o.table (address_at src o i % 65536) (page_at src o i) false
      (rw is at z)).accepted

  pub built_bytes : bytes_in src o i ≡ bytes_told built_in
  unfolding values_at effect_at
  built_bytes =
      let z = s.accepted in
      rw is
      (accepted_bytes src.nodes o.table node (entry_at src.list i) src.items (address_at src o i % 65536) (page_at src o i) false (rw is at z))

  -- decoding its bytes at its address and under the page there, whatever follows them, reads its length and its meaning
  pub instruction_decodes :
      (t : List ℕ) →
      front_of (bytes_in src o i ++ t) (origin (address_at src o i % 65536) (page_at src o i)) ≡ Ok (read_told record_in.values (address_at src o i % 65536) built_in)
  instruction_decodes t = rw built_bytes (own_told_decodes record_in (address_at src o i % 65536) built_accepted t)
