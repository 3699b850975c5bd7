-- The two walks over a list, turn by turn: what is left of it, from the present row and place on, leads to what the whole leads to.
-- Assumes nothing.
use Rattle.std.specs.Prelude.{Result}
use Rattle.ground.specs.declared.refusals.Refusal.{Refusal}
use mathlib.Core.Path.{◌≡◌, refl, sym, ap, ◌∙◌}
use mathlib.Core.List.{List, [], ◌∷◌, ◌++◌}
use Prim.Native.Nat.{ℕ, zero, suc, ◌+◌, ◌-◌, ◌*◌, ◌<◌, ◌≤◌}
use native.Mathlib.Nat.{add-zero, sub-zero}
use native.Mathlib.Omega.{arith}
use lib.ListN.{length, length-append}
use Rattle.std.specs.Prelude.{Result, Ok, Err}
use Rattle.ground.specs.declared.refusals.Refusal.{Refusal}
use Rattle.ground.specs.Stores.{put}
use Rattle.ground.proofs.Stores.{put_append}
use Rattle.instruction.specs.declared.Record.{Record}
use Rattle.instruction.specs.declared.Built.{Built}
use Rattle.instruction.specs.Building.{size_told, bytes_told}
use Rattle.laying.specs.Entries.{entry_at, entries_from}
use Rattle.laying.specs.Laying.{built_at, size_at, before, lay_from, answer_of}
use Rattle.laying.specs.Exactly.{bytes_from}
use Rattle.laying.proofs.Builds.{built_bytes, takes}
use Rattle.laying.proofs.Outcomes.{before_none, before_before, step_accepted, step_refused}

-- ---- the rows that are left
pub entries_next : (rows : ℕ) (list : List ℕ) (at : ℕ) → 0 < rows → entries_from rows list at ≡ entry_at list at ∷ entries_from (rows - 1) list (at + 21)
unfolding entries_from
entries_next zero list at h = absurd (omega arith)
entries_next (suc rows) list at h =
    let e : rows ≡ suc rows - 1 = omega arith in
    ap (λ (n : ℕ). entry_at list at ∷ entries_from n list (at + 21)) e

pub entries_done : (rows : ℕ) (list : List ℕ) (at : ℕ) → rows ≤ 0 → entries_from rows list at ≡ []
unfolding entries_from
entries_done zero list at h = refl
entries_done (suc rows) list at h = absurd (omega arith)

-- the rows of a list from one on
pub rows_next :
    (rows : ℕ) (list : List ℕ) (k : ℕ) → k < rows →
    entries_from (rows - k) list (k * 21) ≡ entry_at list (k * 21) ∷ entries_from (rows - (k + 1)) list ((k + 1) * 21)
rows_next rows list k h =
    let left : rows - k - 1 ≡ rows - (k + 1) = omega arith in
    let at : k * 21 + 21 ≡ (k + 1) * 21 = omega arith in
    entries_next (rows - k) list (k * 21) (omega arith) ∙ rw (left, at)

-- ---- measuring
-- after n bytes, with these instructions left, the whole is these bytes before what is left
pub record Laying (whole : Result (List ℕ) Refusal) (left : List Record) (address n room : ℕ) : Type 0 where
  pub bytes : List ℕ
  pub size : length bytes ≡ n
  pub outcome : whole ≡ before bytes (lay_from left (address + n) (room - n))
  pub within : address + n ≤ 65536
  pub enough : n ≤ room

pub laying_first : (entries : List Record) (address room : ℕ) → address ≤ 65536 → Laying (lay_from entries address room) entries address 0 room
laying_first entries address room h = record {
  bytes = [];
  size = refl;
  outcome = rw (add-zero, sub-zero) (sym (before_none (lay_from entries address room)));
  within = omega arith;
  enough = omega arith;
}

pub laying_done :
    {whole : Result (List ℕ) Refusal} {left : List Record} {address n room : ℕ} →
    Laying whole left address n room →
    left ≡ [] →
    answer_of whole ≡ Ok n
unfolding lay_from
laying_done {whole} {left} {address} {n} {room} l e =
    let s = l.size in
    let a = length-append l.bytes [] in
    ap answer_of (l.outcome ∙ ap (λ (es : List Record). before l.bytes (lay_from es (address + n) (room - n))) e)
    ∙ ap Ok (omega arith)

-- a turn: the next instruction, its build, and what is found of it
module _
    {whole : Result (List ℕ) Refusal} {left : List Record} {address n room : ℕ}
    (l : Laying whole left address n room)
    {entry : Record} {entries : List Record} (next : left ≡ entry ∷ entries)
    {b : Result Built Refusal} (e : b ≡ built_at entry (address + n))
  where
    abbrev at : ℕ
    at = address + n

    abbrev rest : ℕ
    rest = room - n

    same : {r : Result ℕ Refusal} → r ≡ size_at b at rest → size_at (built_at entry at) at rest ≡ r
    same f = ap (λ (x : Result Built Refusal). size_at x at rest) (sym e) ∙ sym f

    now_next : whole ≡ before l.bytes (lay_from (entry ∷ entries) at rest)
    now_next = l.outcome ∙ ap (λ (es : List Record). before l.bytes (lay_from es at rest)) next

    pub laying_refused : {refusal : Refusal} → Err refusal ≡ size_at b (address + n) (room - n) → whole ≡ Err refusal
    laying_refused f = now_next ∙ ap (before l.bytes) (step_refused entry entries at rest (same f))

    pub laying_more : {size : ℕ} → Ok size ≡ size_at b (address + n) (room - n) → Laying whole entries address (n + size) room
    laying_more {size = k} f =
        let took = takes b at rest k (sym f) in
        let t = took.0 in
        let within = t.within in
        let enough = t.enough in
        let before_enough = l.enough in
        let size : length (bytes_told b) ≡ size_told b = rw e (built_bytes entry at) in
        let more : List ℕ = l.bytes ++ bytes_told b in
        rw took.1 (record {
          bytes = more;
          size = omega (arith, length-append l.bytes (bytes_told b), l.size, size);
          outcome =
              now_next
              ∙ ap (before l.bytes) (step_accepted entry entries at rest (same f) ∙ ap (λ (x : Result Built Refusal). before (bytes_told x) (lay_from entries (at + size_told x) (rest - size_told x))) (sym e))
              ∙ before_before l.bytes (bytes_told b) (lay_from entries (at + size_told b) (rest - size_told b))
              ∙ ap (λ (k : ℕ). before more (lay_from entries k (rest - size_told b))) (omega arith)
              ∙ ap (λ (k : ℕ). before more (lay_from entries (address + (n + size_told b)) k)) (omega arith);
          within = omega arith;
          enough = omega arith;
        })

-- ---- storing
-- the bytes of one instruction, and those of the instructions after it
pub built_stored :
    (d : List ℕ) (address n : ℕ) (entry : Record) (entries : List Record) (b : Result Built Refusal) →
    b ≡ built_at entry (address + n) →
    put (put d n (bytes_told b)) (n + size_told b) (bytes_from entries (address + (n + size_told b)))
    ≡ put d n (bytes_from (entry ∷ entries) (address + n))
unfolding bytes_from
built_stored d address n entry entries b e =
    let size : length (bytes_told b) ≡ size_told b = rw e (built_bytes entry (address + n)) in
    ap (λ (k : ℕ). put (put d n (bytes_told b)) (n + size_told b) (bytes_from entries k)) (omega arith)
    ∙ ap (λ (k : ℕ). put (put d n (bytes_told b)) (n + k) (bytes_from entries (address + n + size_told b))) (sym size)
    ∙ sym (put_append d n (bytes_told b) (bytes_from entries (address + n + size_told b)))
    ∙ ap (λ (x : Result Built Refusal). put d n (bytes_told x ++ bytes_from entries (address + n + size_told x))) e
