-- The first run of a text as the run reader hands it out with room for any run, and what the comparison with it comes to.
-- Assumes nothing.
use borrow.Author.Tests.{eq-eqb, ne_eqb, le-ltb}
use mathlib.Core.Path.{◌≡◌, refl, sym, ap, ◌∙◌}
use mathlib.Core.Bool.{Bool, false, ◌&&◌}
use mathlib.Core.List.{List, [], ◌∷◌}
use Prim.Native.Nat.{ℕ, ◌+◌, ◌/◌, ◌≤◌, ◌<◌}
use native.Mathlib.Omega.{arith}
use lib.Dec.{eqb}
use lib.ListN.{length, take, drop, length-append}
use lib.Seq.{take_at}
use Rattle.std.specs.Prelude.{Result, Ok, Err}
use Rattle.ground.specs.declared.refusals.Refusal.{Refusal}
use Rattle.ground.proofs.Choices.{pick_true, pick_false}
use Rattle.records.specs.Text.{Rec}
use Rattle.reader.specs.Lines.{records_in}
use Rattle.reader.specs.Answers.{size_of, runs_in, onto}
use Rattle.reader.specs.Ahead.{asked_of, RunReadIs}
use Rattle.reader.specs.Held.{Hands, HandsOut}
use Rattle.reader.specs.declared.Read.{Read}
use Rattle.reader.specs.declared.runs.Run.{Run}
use Rattle.reader.proofs.Handing.{same_run, no_run_lem, read_asked, read_near}
use Rattle.reader.proofs.Same.{held_same, held_refused}
use Rattle.reader.proofs.Only.{read_run_only}
use Rattle.values.specs.declared.pages.Page.{Page}
use Rattle.decoder.specs.declared.Decoded.{Decoded}
use Rattle.decoder.specs.Origin.{origin, outside}
use Rattle.decoder.specs.Run.{run_of}
use Rattle.laying.specs.Entries.{rows_in, entries_of}
use Rattle.laying.specs.Laying.{lay_of, answer_of}
use Rattle.laying.specs.Meant.{meanings_from}
use Rattle.laying.proofs.Outcomes.{answered_of, refused_of}
use Rattle.laying.proofs.Decodes.{as_many}
use Rattle.roundtrip.specs.Same.{all_agree}
use Rattle.roundtrip.specs.Comparing.{answer, none, against, text_against, all_room, compared_as, compare_of}
use Rattle.roundtrip.specs.Steps.{agreement, none_left}
use Rattle.roundtrip.specs.declared.Compared.{Compared}
use Rattle.roundtrip.proofs.Demand.{entries_many}

-- ---- what the run reader answers
hands_asked : {text d e : List ℕ} {at : ℕ} (r : Run) → RunReadIs text at d (Ok r) e → asked_of text at ≡ Ok r
hands_asked {text} {d} {e} {at} r w = read_asked text at (length d) r (sym w.answer)

-- a run stands at the place after the first where there is a second
later_asked : (text : List ℕ) (next : ℕ) (ps : List Rec) → HandsOut text next ps → none_left (asked_of text next) ≡ none ps
later_asked text next [] h = ap none_left (hands_asked _ (h []))
later_asked text next (p ∷ ps) h =
    ap none_left (hands_asked _ (h.first.call p.bytes (omega arith))) ∙ ne_eqb (length p.bytes) 0 (λ z. omega (arith, h.first.some))

-- ---- the first run of a text, with room for any
pub record There (text d : List ℕ) (r : Run) (e : List ℕ) : Type 0 where
  pub run : Rec
  pub later : List Rec
  pub runs : runs_in text ≡ run ∷ later
  pub address : r.address ≡ run.address
  pub size : r.bytes ≡ length run.bytes
  pub some : 0 < length run.bytes
  pub near : run.address + length run.bytes ≤ 65536
  pub stored : e ≡ onto run.bytes d
  pub alone : none_left (asked_of text r.next) ≡ none later

pub data First (text d : List ℕ) (r : Run) (e : List ℕ) : Type 0 where
  empty : (size : Read) → size_of (records_in text) ≡ Ok size → runs_in text ≡ [] → r ≡ record { address = 0; bytes = 0; next = 0 } → First text d r e
  there : (size : Read) → size_of (records_in text) ≡ Ok size → There text d r e → First text d r e

module _ (text d e : List ℕ) (room : 65536 ≤ length d) where
  call_near : (p : Rec) (next : ℕ) → Hands text 0 p next → p.address + length p.bytes ≤ 65536
  call_near p next h = let full = (h.call p.bytes (omega arith)).answer in rw (← full) at (read_near text 0 (length p.bytes))

  module _ (r : Run) (w : RunReadIs text 0 d (Ok r) e) where
    there_is : (p : Rec) (ps : List Rec) → runs_in text ≡ p ∷ ps → HandsOut text 0 (p ∷ ps) → There text d r e
    there_is p ps q h =
        let near = call_near p h.next h.first in
        let only = read_run_only w (h.first.call d (omega arith)) in
        let is = same_run r _ only.0 in
        record {
          run = p;
          later = ps;
          runs = q;
          address = ap (λ (x : Run). x.address) is;
          size = ap (λ (x : Run). x.bytes) is;
          some = h.first.some;
          near = near;
          stored = only.1;
          alone = ap (λ (x : Run). none_left (asked_of text x.next)) is ∙ later_asked text h.next ps h.later;
        }

    pub first_run : First text d r e
    first_run = by (size_of (records_in text)) refl
      where
        runs : (size : Read) → size_of (records_in text) ≡ Ok size → (rs : List Rec) → runs_in text ≡ rs → HandsOut text 0 rs → First text d r e
        runs size z [] q h = empty size z q (same_run r _ (read_run_only w (h d)).0)
        runs size z (p ∷ ps) q h = there size z (there_is p ps q h)

        by : (s : Result Read Refusal) → size_of (records_in text) ≡ s → First text d r e
        by (Ok size) z = runs size z (runs_in text) refl (held_same text size z)
        by (Err x) z = no_run_lem x r (sym (read_run_only w ((held_refused text x z).here d)).0)

  -- a refusal is the text's own
  module _ (x : Refusal) (w : RunReadIs text 0 d (Err x) e) where
    pub first_refused : size_of (records_in text) ≡ Err x
    first_refused = by (size_of (records_in text)) refl
      where
        none_handed : (rs : List Rec) → HandsOut text 0 rs → {A : Type 0} → A
        none_handed [] h = no_run_lem x _ (read_run_only w (h d)).0
        none_handed (p ∷ ps) h =
            let near = call_near p h.next h.first in
            no_run_lem x _ (read_run_only w (h.first.call d (omega arith))).0

        by : (s : Result Read Refusal) → size_of (records_in text) ≡ s → size_of (records_in text) ≡ Err x
        by (Ok size) z = none_handed (runs_in text) (held_same text size z)
        by (Err y) z = let q = (read_run_only w ((held_refused text y z).here d)).0 in z ∙ cc

-- ---- the comparison with it
-- nothing agrees with no instruction but a list with no row
nothing_agrees : (means : List Decoded) → all_agree means [] ≡ eqb (length means) 0
nothing_agrees [] = refl
nothing_agrees (d ∷ ds) = sym (ne_eqb (length (d ∷ ds)) 0 (λ n. omega arith))

nothing_means : (list : List ℕ) (address : ℕ) → all_agree (meanings_from (entries_of list) address) [] ≡ eqb (length list / 21) 0
unfolding rows_in
nothing_means list address =
    nothing_agrees (meanings_from (entries_of list) address) ∙ ap (λ (n : ℕ). eqb n 0) (as_many (entries_of list) address ∙ entries_many list)

module _ (text d : List ℕ) (r : Run) (e : List ℕ) where
  -- the front of the scratch holds the run
  front_holds : (t : There text d r e) → take r.bytes e ≡ t.run.bytes
  unfolding onto
  front_holds t = rw (t.stored, t.size) (take_at t.run.bytes (drop (length t.run.bytes) d) (length t.run.bytes) refl)

  pub run_fits : First text d r e → r.bytes ≤ length e
  unfolding onto
  run_fits (empty n z q k) = let b = ap (λ (x : Run). x.bytes) k in omega arith
  run_fits (there n z t) =
      let s = ap length t.stored in
      omega (arith, t.size, length-append t.run.bytes (drop (length t.run.bytes) d))

  pub run_inside : (address : ℕ) (page : Page) → First text d r e → (r.bytes ≡ 0 → ⊥) → r.address ≡ address → outside (take r.bytes e) (origin address page) ≡ false
  unfolding outside
  run_inside address page (empty n z q b) m k = absurd (m (ap (λ (x : Run). x.bytes) b))
  run_inside address page (there n z t) m k = rw (front_holds t) (le-ltb 65536 (address + length t.run.bytes) (omega (arith, t.near, t.address)))

module _ (list : List ℕ) (address : ℕ) (page : Page) (text d : List ℕ) where
  abbrev means : List Decoded
  means = meanings_from (entries_of list) address

  abbrev Is : Result Compared Refusal → Type 0
  Is x = x ≡ text_against means address page text

  fine : (rs : List Rec) (size : Read) → size_of (records_in text) ≡ Ok size → runs_in text ≡ rs → text_against means address page text ≡ Ok (against means address page rs)
  unfolding text_against
  fine rs size z q = rw (z, q)

  pub is_refused : (x : Refusal) → size_of (records_in text) ≡ Err x → Is (Err x)
  unfolding text_against
  is_refused x z = rw z

  module _ (r : Run) (e : List ℕ) where
    pub is_none : First text d r e → r.bytes ≡ 0 → Is (Ok (answer (eqb (length list / 21) 0) 0))
    is_none (empty size z q k) n = ap (λ (t : Bool). Ok (answer t 0)) (sym (nothing_means list address)) ∙ sym (fine [] size z q)
    is_none (there size z t) n = absurd (omega (arith, n, t.some, t.size))

    pub is_elsewhere_lem : First text d r e → (r.bytes ≡ 0 → ⊥) → (r.address ≡ address → ⊥) → Is (Ok (answer false 0))
    is_elsewhere_lem (empty size z q k) n m = absurd (n (ap (λ (x : Run). x.bytes) k))
    is_elsewhere_lem (there size z t) n m =
        sym (fine (t.run ∷ t.later) size z t.runs ∙ ap Ok (pick_false _ _ (ne_eqb t.run.address address (λ s. m (t.address ∙ s)))))

    pub is_there :
        First text d r e → (r.bytes ≡ 0 → ⊥) → r.address ≡ address →
        (a : Compared) → a ≡ agreement means (run_of (take r.bytes e) (origin address page)) → (last : Bool) → last ≡ none_left (asked_of text r.next) →
        Is (Ok (answer (a.equal && last) a.place))
    is_there (empty size z q k) n m a f last g = absurd (n (ap (λ (x : Run). x.bytes) k))
    is_there (there size z t) n m a f last g =
        let is : a ≡ agreement means (run_of t.run.bytes (origin address page)) = f ∙ ap (λ (l : List ℕ). agreement means (run_of l (origin address page))) (front_holds text d r e t) in
        let alone : last ≡ none t.later = g ∙ t.alone in
        rw (is, alone) (sym (fine (t.run ∷ t.later) size z t.runs ∙ ap Ok (pick_true _ _ (eq-eqb t.run.address address (sym t.address ∙ m)))))

-- ---- the list's own refusal comes before
module _ (list : List ℕ) (address : ℕ) (page : Page) (text : List ℕ) where
  abbrev compared_by : Result (List ℕ) Refusal → Result Compared Refusal
  compared_by o = compared_as o (meanings_from (entries_of list) address) address page text

  pub list_refused : (x : Refusal) → answer_of (lay_of list address all_room) ≡ Err x → Err x ≡ compare_of list address page text
  unfolding compare_of
  list_refused x e = rw (refused_of (lay_of list address all_room) x e)

  pub list_laid :
      (n : ℕ) → answer_of (lay_of list address all_room) ≡ Ok n →
      text_against (meanings_from (entries_of list) address) address page text ≡ compare_of list address page text
  unfolding compare_of
  list_laid n e = rw (answered_of (lay_of list address all_room) n e).outcome
