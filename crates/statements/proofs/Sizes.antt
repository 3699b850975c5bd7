-- An accepted statement's bytes are as many as it counts, every size fits 16 bits, and what is counted ends by 65536.
-- Assumes nothing.
use mathlib.Core.Path.{◌≡◌, refl, sym, ap, ◌∙◌}
use mathlib.Core.Bool.{Bool, true, false, not, ◌&&◌}
use mathlib.Core.List.{List, [], ◌∷◌}
use Prim.Native.Nat.{ℕ, ◌+◌, ◌*◌, ◌<◌, ◌≤◌}
use native.Mathlib.Nat.{mul-suc}
use native.Mathlib.Omega.{arith}
use lib.Dec.{eqb, ltb, leb}
use lib.ListN.{length, length-append, get_or}
use borrow.Author.Tests.{ltb-true, ltb-false, leb-true}
use Rattle.std.specs.Prelude.{Option, None, Some, Result, Ok, Err, IfOk}
use Rattle.std.specs.Option.{option_or}
use Rattle.std.specs.Result.{result_err}
use Rattle.ground.specs.Choice.{pick}
use Rattle.ground.specs.declared.refusals.Refusal.{Refusal}
use Rattle.ground.specs.declared.refusals.Refusal.TheVariants.{Beyond}
use Rattle.ground.proofs.Choices.{by_test, by_pick}
use Rattle.values.specs.declared.Value.{Value}
use Rattle.values.specs.declared.pages.Page.{Page}
use Rattle.rows.specs.Lookup.{known_of}
use Rattle.rows.specs.Sizes.{smallest_size_of}
use Rattle.rows.proofs.Lengths.{size_known, size_unknown}
use Rattle.records.specs.Fine.{Each}
use Rattle.records.specs.Objects.{bytes_of, data_of}
use Rattle.records.proofs.ByteRows.{byte_data_length}
use Rattle.expressions.specs.declared.finding.Found.{Found}
use Rattle.expressions.specs.Numbers.{Cells, Short}
use Rattle.expressions.specs.Finding.{deepest, node_value}
use Rattle.expressions.specs.Answers.{narrow_of, value_of, answer_of, evaluation}
use Rattle.expressions.proofs.Fits.{Fits, node_fits}
use Rattle.instruction.specs.declared.Built.{Built}
use Rattle.instruction.specs.Building.{bytes_told, size_told}
use Rattle.statements.specs.declared.Statement.{Statement}
use Rattle.statements.specs.declared.Statement.TheVariants.{Label, Instruction, Rmb, Fcb, Fdb, Fcc, Org, Setdp, Unknown}
use Rattle.statements.specs.declared.Entry.{Entry}
use Rattle.statements.specs.declared.Datum.{Datum}
use Rattle.statements.specs.declared.Datum.TheVariants.{Byte, Word, Character}
use Rattle.statements.specs.declared.Effect.{Effect}
use Rattle.entries.specs.Entries.{byte_in}
use Rattle.statements.specs.Listing.{none, statement_at, operand_row, entry_in, entry_at, items_of, overfull_at, object_of}
use Rattle.statements.specs.Order.{earlier}
use Rattle.statements.specs.Asking.{asked_of, wanted_of, answers_from, value_in, rows_in}
use Rattle.statements.specs.Effects.{own_label, after, labelled, built_of, made_of, instruction_effect, reserved_effect, origin_effect, setdp_effect, data_refusal, effect_of, effect_at, counted_of}
use Rattle.statements.specs.Objects.{values_of, values_at, bytes_at}
use Rattle.statements.proofs.Lengths.{answers_length}
use Rattle.statements.proofs.Built.{built_told}
use Rattle.statements.proofs.Answered.{width_of, answers_width}
use Rattle.statements.proofs.Told.{effect_made, made_built, data_none}

-- ---- bytes
-- values of one width, each of so many bytes
data_length :
    (w size : ℕ) → ((number : ℕ) → length (bytes_of number w) ≡ size) →
    (answers : List (Result Value Refusal)) → Each (λ (a : Result Value Refusal). (value_in a).width ≡ w) answers → length (data_of (rows_in answers)) ≡ size * length answers
data_length w size h [] e = omega arith
data_length w size h (a ∷ more) (e, es) =
    let n = (value_in a).number in
    ap (λ (v : ℕ). length (data_of (n ∷ v ∷ rows_in more))) e
    ∙ length-append (bytes_of n w) (data_of (rows_in more))
    ∙ ap (λ (k : ℕ). k + length (data_of (rows_in more))) (h n)
    ∙ ap (λ (k : ℕ). size + k) (data_length w size h more es)
    ∙ omega (arith, mul-suc size (length more))

-- so many bytes as the statement counts
data_bytes :
    (kind : Datum) (size : ℕ) → ((number : ℕ) → length (bytes_of number (width_of kind)) ≡ size) →
    (items ns ls : List ℕ) (here first n : ℕ) (ill : Bool) →
    data_refusal (answers_from kind items ns ls here first n) ill ≡ None →
    length (data_of (rows_in (answers_from kind items ns ls here first n))) ≡ size * n
data_bytes kind size h items ns ls here first n ill e =
    data_length (width_of kind) size h (answers_from kind items ns ls here first n)
    (answers_width kind items ns ls here first n (data_none kind items ns ls here first n ill e))
    ∙ ap (λ (k : ℕ). size * k) (answers_length kind items ns ls here first n)

made_size : (e : Entry) {m : Result Built Refusal} {b : Built} → m ≡ Ok b → (instruction_effect e m).size ≡ b.length
made_size e q = rw q

bytes_counted :
    (s : Statement) (e : Entry) (items ns ls : List ℕ) (here : ℕ) (page : Page) (ill : Bool) →
    object_of s ≡ 1 →
    (effect_of s e items ns ls here page ill).refusal ≡ None →
    length (data_of (values_of s e items ns ls here page)) ≡ (effect_of s e items ns ls here page ill).size
unfolding bytes_of pick
bytes_counted Label e items ns ls here page ill o z = absurd (omega arith)
bytes_counted (Instruction node) e items ns ls here page ill o z =
    let a = asked_of ns ls node here in
    let made = effect_made e (made_of e a ill page here) z in
    let built = (made_built e a ill page here made.1).0 in
    byte_data_length (bytes_told (built_of e a page here))
    ∙ (built_told e page here a).size
    ∙ ap size_told built
    ∙ sym (made_size e made.1)
bytes_counted (Rmb node) e items ns ls here page ill o z = absurd (omega arith)
bytes_counted (Fcb first n) e items ns ls here page ill o z =
    data_bytes Byte 1 (λ _. refl) items ns ls here first n ill z ∙ omega arith
bytes_counted (Fdb first n) e items ns ls here page ill o z = data_bytes Word 2 (λ _. refl) items ns ls here first n ill z
bytes_counted (Fcc first n) e items ns ls here page ill o z =
    data_bytes Character 1 (λ _. refl) items ns ls here first n ill z ∙ omega arith
bytes_counted (Org node) e items ns ls here page ill o z = absurd (omega arith)
bytes_counted (Setdp number) e items ns ls here page ill o z = absurd (omega arith)
bytes_counted Unknown e items ns ls here page ill o z = absurd (omega arith)

-- an instruction, FCB, FDB or FCC that is accepted has as many bytes as it counts
pub sizes :
    (list items ns ls : List ℕ) (i here : ℕ) (page : Page) (ill : Bool) →
    object_of (statement_at list i) ≡ 1 →
    (effect_at list items ns ls i here page ill).refusal ≡ None →
    length (bytes_at list items ns ls i here page) ≡ (effect_at list items ns ls i here page ill).size
unfolding effect_at values_at
sizes list items ns ls i here page ill = bytes_counted (statement_at list i) (entry_at list i) items ns ls here page ill

-- ---- every size fits
stored : (f : Found) → Short f.number → Short (value_of false f).number
unfolding value_of
stored f n = by_pick (λ (v : Value). v.number < 65536) (narrow_of false f.number && not f.wide) (omega arith) n

abbrev Stored : Result Value Refusal → Type 0
Stored a = IfOk a (λ v. Short v.number)

pub wanted_fits :
    (ns ls : List ℕ) → Cells Short ns → Cells Short ls → (node here : ℕ) → Short here → IfOk (wanted_of ns ls node here) (λ v. Short v.number)
unfolding wanted_of evaluation
wanted_fits ns ls hn hl node here h =
    by_pick Stored (eqb node none) tt (of_found (node_value deepest ns ls node here) (node_fits ns ls hn hl deepest node here h))
  where
    of_found : (f : Result Found Refusal) → Fits f → Stored (answer_of false f)
    of_found (Ok f) n = stored f n
    of_found (Err r) n = tt

labelled_fits : (a : Result Value Refusal) (ill : Bool) → IfOk a (λ v. Short v.number) → IfOk (labelled a ill) (λ v. Short v.number)
unfolding labelled
labelled_fits a ill h = go (earlier (result_err a) (own_label ill))
  where
    go : (o : Option Refusal) → IfOk (after o a) (λ v. Short v.number)
    go None = h
    go (Some why) = tt

reserved_fits : (a : Result Value Refusal) → IfOk a (λ v. Short v.number) → (reserved_effect a).size < 65536
reserved_fits (Ok v) h = h
reserved_fits (Err why) h = omega arith

origin_fits : (a : Result Value Refusal) → (origin_effect a).size < 65536
origin_fits (Ok v) = omega arith
origin_fits (Err why) = omega arith

smallest_fits : (o : ℕ) → o < 256 → smallest_size_of o ≤ 4
smallest_fits o h = from (known_of o) refl
  where
    from : (k : Bool) → known_of o ≡ k → smallest_size_of o ≤ 4
    from true q = (size_known o h q).1
    from false q = omega (arith, size_unknown o h q)

byte_fits : (row : List ℕ) (at : ℕ) → byte_in row at < 256
unfolding byte_in
byte_fits row at = by_test (λ (n : ℕ). n < 256) (ltb (get_or row at 0) 256) (λ q. ltb-true (get_or row at 0) 256 q) (λ _. omega arith)

made_fits :
    (e : Entry) (m : Result Built Refusal) → e.operation < 256 → ((b : Built) → m ≡ Ok b → b.length ≤ 5) → (instruction_effect e m).size < 65536
made_fits e (Ok b) o most = omega (arith, most b refl)
made_fits e (Err why) o most = let least = smallest_fits e.operation o in omega arith

size_fits :
    (s : Statement) (e : Entry) (items ns ls : List ℕ) → Cells Short ns → Cells Short ls → (here : ℕ) (page : Page) (ill : Bool) → Short here →
    e.operation < 256 →
    items_of s ≤ 256 →
    (effect_of s e items ns ls here page ill).size < 65536
unfolding setdp_effect
size_fits Label e items ns ls hn hl here page ill h o n = omega arith
size_fits (Instruction node) e items ns ls hn hl here page ill h o n =
    let a = asked_of ns ls node here in
    made_fits e (made_of e a ill page here) o (λ b q. omega (arith, (built_told e page here a).most, ap size_told (made_built e a ill page here q).0))
size_fits (Rmb node) e items ns ls hn hl here page ill h o n =
    reserved_fits (labelled (wanted_of ns ls node here) ill) (labelled_fits (wanted_of ns ls node here) ill (wanted_fits ns ls hn hl node here h))
size_fits (Fcb first count) e items ns ls hn hl here page ill h o n = omega arith
size_fits (Fdb first count) e items ns ls hn hl here page ill h o n = omega arith
size_fits (Fcc first count) e items ns ls hn hl here page ill h o n = omega arith
size_fits (Org node) e items ns ls hn hl here page ill h o n = origin_fits (labelled (wanted_of ns ls node 0) ill)
size_fits (Setdp number) e items ns ls hn hl here page ill h o n =
    by_pick (λ (x : Effect). x.size < 65536) (ltb number 256) (by_pick (λ (x : Effect). x.size < 65536) ill (omega arith) (omega arith)) (omega arith)
size_fits Unknown e items ns ls hn hl here page ill h o n = omega arith

-- a statement that is not overfull counts less than 65536, where the tables hold numbers of 16 bits
pub sizes_fit :
    (list items ns ls : List ℕ) → Cells Short ns → Cells Short ls → (i here : ℕ) (page : Page) (ill : Bool) → Short here →
    overfull_at list i ≡ false →
    (effect_at list items ns ls i here page ill).size < 65536
unfolding effect_at entry_at entry_in overfull_at
sizes_fit list items ns ls hn hl i here page ill h o =
    size_fits (statement_at list i) (entry_at list i) items ns ls hn hl here page ill h (byte_fits (operand_row list i) 0)
    (ltb-false 256 (items_of (statement_at list i)) o)

-- ---- at a running address
-- what is counted ends by 65536
pub counted_ends : (at : ℕ) (e : Effect) → at ≤ 65536 → at + (counted_of at e).size ≤ 65536
unfolding counted_of
counted_ends at e h =
    by_test (λ (x : Effect). at + x.size ≤ 65536) (leb (at + e.size) 65536) (λ q. leb-true (at + e.size) 65536 q) (λ _. omega arith)

-- what is accepted there is the statement's own effect
pub counted_accepted : (at : ℕ) (e : Effect) → (counted_of at e).refusal ≡ None → (counted_of at e ≡ e) × (e.refusal ≡ None) × (at + e.size ≤ 65536)
unfolding counted_of
counted_accepted at e =
    by_test (λ (x : Effect). x.refusal ≡ None → (x ≡ e) × (e.refusal ≡ None) × (at + e.size ≤ 65536)) (leb (at + e.size) 65536)
    (λ q z. (refl, z, leb-true (at + e.size) 65536 q))
    (λ _ z. never e.refusal z)
  where
    never : {A : Type 0} (o : Option Refusal) → option_or o (Some Beyond) ≡ None → A
    never None z = absurd (cc)
    never (Some why) z = absurd (cc)
