-- Laying accepts exactly the lists whose instructions are each accepted at their address, that have no byte beyond 65535, and that the buffer has room for.
-- Assumes nothing.
use Rattle.std.specs.Prelude.{Result}
use Rattle.ground.specs.declared.refusals.Refusal.{Refusal}
use mathlib.Core.Path.{◌≡◌, refl, sym, ap, ◌∙◌}
use mathlib.Core.List.{List, [], ◌∷◌, ◌++◌}
use mathlib.Core.Logic.{◌↔◌}
use Prim.Native.Nat.{ℕ, ◌+◌, ◌-◌, ◌≤◌}
use native.Mathlib.Omega.{arith}
use lib.Dec.{eqb, ltb}
use lib.ListN.{length, length-append}
use borrow.Author.Tests.{eq-eqb, eqb-true, le-ltb, ltb-false}
use Rattle.std.specs.Prelude.{Result, Ok, Err}
use Rattle.ground.specs.declared.refusals.Refusal.{Refusal}
use Rattle.ground.specs.declared.refusals.Refusal.TheVariants.{OverLimit}
use Rattle.ground.proofs.Choices.{by_test, pick_false}
use Rattle.ground.proofs.Tests.{both_first, both_second}
use Rattle.instruction.specs.declared.Record.{Record}
use Rattle.instruction.specs.declared.Built.{Built}
use Rattle.instruction.specs.Building.{told, size_told, bytes_told}
use Rattle.laying.specs.Entries.{rows_in, entries_of}
use Rattle.laying.specs.Laying.{built_at, size_at, before, lay_from, most_rows, lay_of, answer_of}
use Rattle.laying.specs.Exactly.{all_built, bytes_from, Fits}
use Rattle.laying.proofs.Builds.{built_bytes, takes, taken}
use Rattle.laying.proofs.Outcomes.{rest_of, passed_of, answered_of, step_accepted}

-- ---- an instruction before others
module _ (entry : Record) (entries : List Record) (at : ℕ) where
  abbrev b : Result Built Refusal
  b = built_at entry at

  abbrev later : List ℕ
  later = bytes_from entries (at + size_told b)

  pub size_next : length (bytes_from (entry ∷ entries) at) ≡ size_told b + length later
  unfolding bytes_from
  size_next = length-append (bytes_told b) later ∙ ap (λ (n : ℕ). n + length later) (built_bytes entry at)

-- ---- accepted only so
pub laid_fits :
    (entries : List Record) (at room : ℕ) (bytes : List ℕ) →
    at ≤ 65536 →
    lay_from entries at room ≡ Ok bytes →
    Fits entries at room × (bytes ≡ bytes_from entries at)
unfolding lay_from bytes_from all_built
laid_fits [] at room bytes h e =
    (record { built = refl; within = omega arith; enough = omega arith }, cc)
laid_fits (entry ∷ entries) at room bytes h e =
    let b = built_at entry at in
    let p = passed_of (size_at b at room) (before (bytes_told b) (lay_from entries (at + size_told b) (room - size_told b))) bytes e in
    let t = (takes b at room p.size p.found).0 in
    let r = rest_of (bytes_told b) (lay_from entries (at + size_told b) (room - size_told b)) bytes p.outcome in
    let f = laid_fits entries (at + size_told b) (room - size_told b) r.rest t.within r.outcome in
    let s = size_next entry entries at in (
      record {
        built = rw (eq-eqb (told b) 0 t.own) f.0.built;
        within = omega (arith, s, f.0.within);
        enough = omega (arith, s, f.0.enough, t.enough);
      },
      sym r.whole ∙ ap (λ (l : List ℕ). bytes_told b ++ l) f.1,
    )

-- ---- and always so
pub fits_laid : (entries : List Record) (at room : ℕ) → Fits entries at room → lay_from entries at room ≡ Ok (bytes_from entries at)
unfolding lay_from bytes_from all_built
fits_laid [] at room f = refl
fits_laid (entry ∷ entries) at room f =
    let b = built_at entry at in
    let s = size_next entry entries at in
    let w = f.within in
    let m = f.enough in
    let own = both_first (eqb (told b) 0) (all_built entries (at + size_told b)) f.built in
    let t = taken b at room
    (record { own = eqb-true (told b) 0 own; within = omega arith; enough = omega arith }) in
    let later = fits_laid entries (at + size_told b) (room - size_told b)
    (record {
      built = both_second (eqb (told b) 0) (all_built entries (at + size_told b)) f.built;
      within = omega arith;
      enough = omega arith;
    }) in
    step_accepted entry entries at room t ∙ ap (before (bytes_told b)) later

-- ---- the room
-- an accepted list has the same bytes with any room that is enough for them
pub room_free :
    (entries : List Record) (at room more : ℕ) (bytes : List ℕ) →
    at ≤ 65536 →
    lay_from entries at room ≡ Ok bytes →
    length bytes ≤ more →
    lay_from entries at more ≡ Ok bytes
room_free entries at room more bytes h e m =
    let f = laid_fits entries at room bytes h e in
    let n : length bytes ≡ length (bytes_from entries at) = ap length f.1 in
    fits_laid entries at more (record { built = f.0.built; within = f.0.within; enough = omega arith })
    ∙ ap Ok (sym f.1)

-- ---- a lent list
module _ (list : List ℕ) (address room : ℕ) (h : address ≤ 65536) where
  abbrev entries : List Record
  entries = entries_of list

  -- with its bytes, it is accepted exactly if there are at most 1,024 rows, each is built where it stands, no byte lies beyond 65535 and the buffer is
  -- long enough
  pub laid_exactly :
      (bytes : List ℕ) →
      (lay_of list address room ≡ Ok bytes)
      ↔ ((rows_in list ≤ most_rows) × Fits entries address room × (bytes ≡ bytes_from entries address))
  unfolding lay_of
  laid_exactly bytes = (
    by_test (λ (o : Result (List ℕ) Refusal). o ≡ Ok bytes → (rows_in list ≤ most_rows) × Fits entries address room × (bytes ≡ bytes_from entries address))
        (ltb most_rows (rows_in list))
        (λ _ e. cc)
        (λ q e. let f = laid_fits entries address room bytes h e in (ltb-false most_rows (rows_in list) q, f.0, f.1)),
    λ f.
        pick_false (Err OverLimit) (lay_from entries address room) (le-ltb most_rows (rows_in list) f.0)
        ∙ fits_laid entries address room f.1
        ∙ ap Ok (sym f.2),
  )

  -- and a size is answered only then
  pub size_exactly : {n : ℕ} → answer_of (lay_of list address room) ≡ Ok n → lay_of list address room ≡ Ok (bytes_from entries address)
  size_exactly {n} e =
      let a = answered_of (lay_of list address room) n e in
      a.outcome ∙ ap Ok ((laid_exactly a.bytes).0 a.outcome).2
