-- Decoding what was laid, from where it was laid and under a page that meets each record's, reads the list: as many instructions, each with its length and its meaning, and nothing left over.
-- Assumes nothing.
use Rattle.std.specs.Prelude.{Result, Ok, Err}
use Rattle.ground.specs.declared.refusals.Refusal.{Refusal}
use mathlib.Core.Path.{◌≡◌, refl, sym, ap, ◌∙◌}
use mathlib.Core.Bool.{true}
use mathlib.Core.List.{List, [], ◌∷◌, ◌++◌, map}
use Prim.Native.Nat.{ℕ, suc, ◌+◌, ◌%◌, ◌≤◌}
use native.Mathlib.Omega.{arith}
use lib.Dec.{eqb}
use lib.ListN.{length}
use borrow.Author.Tests.{eqb-true, le-ltb}
use Rattle.std.specs.Prelude.{None, Ok, Err}
use Rattle.ground.specs.declared.refusals.Refusal.TheVariants.{Beyond}
use Rattle.ground.proofs.Choices.{pick_false}
use Rattle.ground.proofs.Tests.{both_first, both_second}
use Rattle.values.specs.declared.pages.Page.{Page}
use Rattle.values.specs.Pages.{meets}
use Rattle.decoder.specs.declared.Origin.{Origin}
use Rattle.decoder.specs.Origin.{origin, shifted, outside}
use Rattle.decoder.specs.Meaning.{Answer}
use Rattle.decoder.specs.Front.{front_of}
use Rattle.decoder.specs.Run.{run_from, run_of, refusal_in, total_of}
use Rattle.decoder.proofs.Runs.{followed}
use Rattle.instruction.specs.declared.Record.{Record}
use Rattle.instruction.specs.declared.Values.{Values}
use Rattle.instruction.specs.declared.Built.{Built}
use Rattle.instruction.specs.Building.{told, size_told, bytes_told}
use Rattle.meanings.specs.ReadBack.{read_told}
use Rattle.meanings.proofs.Decodes.{told_decodes}
use Rattle.laying.specs.Entries.{entries_of}
use Rattle.laying.specs.Laying.{built_at, lay_from, lay_of}
use Rattle.laying.specs.Exactly.{all_built, bytes_from}
use Rattle.laying.specs.Meant.{meanings_from, all_meet}
use Rattle.laying.proofs.Builds.{built_bytes}
use Rattle.laying.proofs.Exactly.{size_next, laid_fits, fits_laid, laid_exactly}

-- ---- the run of the builds' bytes
reads :
    (page : Page) (entry : Record) (at : ℕ) →
    meets page entry.page ≡ true →
    told (built_at entry at) ≡ 0 →
    (t : List ℕ) →
    front_of (bytes_told (built_at entry at) ++ t) (origin (at % 65536) page) ≡ Ok (read_told entry.values (at % 65536) (built_at entry at))
unfolding built_at
reads page entry at met = told_decodes entry (at % 65536) page met

pub read_length : (v : Values) (at : ℕ) (b : Result Built Refusal) → (read_told v at b).length ≡ size_told b
read_length v at (Ok b) = refl
read_length v at (Err n) = refl

next_origin : (page : Page) (at n : ℕ) → shifted (origin (at % 65536) page) n ≡ origin ((at + n) % 65536) page
unfolding shifted
next_origin page at n = ap (λ (a : ℕ). origin a page) (omega arith)

run_none : (from : Origin) → run_from 0 [] from ≡ []
unfolding run_from
run_none from = refl

run_means :
    (page : Page) (entries : List Record) (at : ℕ) →
    all_meet page entries ≡ true →
    all_built entries at ≡ true →
    run_from 0 (bytes_from entries at) (origin (at % 65536) page) ≡ map Ok (meanings_from entries at)
unfolding all_built bytes_from meanings_from all_meet
run_means page [] at m e = run_none (origin (at % 65536) page)
run_means page (entry ∷ entries) at m e =
    let b = built_at entry at in
    let d = read_told entry.values (at % 65536) b in
    let later = bytes_from entries (at + size_told b) in
    let own = eqb-true (told b) 0 (both_first (eqb (told b) 0) (all_built entries (at + size_told b)) e) in
    let met = both_first (meets page entry.page) (all_meet page entries) m in
    let s = built_bytes entry at in
    followed (bytes_told b) later (origin (at % 65536) page) d (reads page entry at met own later) (read_length entry.values (at % 65536) b ∙ sym s)
    ∙ ap (λ (o : Origin). Ok d ∷ run_from 0 later o) (ap (shifted (origin (at % 65536) page)) s ∙ next_origin page at (size_told b))
    ∙ ap (λ (ds : List Answer). Ok d ∷ ds)
    (run_means page entries (at + size_told b) (both_second (meets page entry.page) (all_meet page entries) m) (both_second (eqb (told b) 0) (all_built entries (at + size_told b)) e))

-- ---- what the list means
all_accepted : (entries : List Record) (at : ℕ) → refusal_in (map Ok (meanings_from entries at)) ≡ None
unfolding meanings_from
all_accepted [] at = refl
all_accepted (entry ∷ entries) at =
    all_accepted entries (at + size_told (built_at entry at))

pub as_many : (entries : List Record) (at : ℕ) → length (meanings_from entries at) ≡ length entries
unfolding meanings_from
as_many [] at = refl
as_many (entry ∷ entries) at = ap suc (as_many entries (at + size_told (built_at entry at)))

all_read : (entries : List Record) (at : ℕ) → length (map {B = Answer} Ok (meanings_from entries at)) ≡ length entries
unfolding meanings_from
all_read [] at = refl
all_read (entry ∷ entries) at = ap suc (all_read entries (at + size_told (built_at entry at)))

lengths_sum : (entries : List Record) (at : ℕ) → total_of (map Ok (meanings_from entries at)) ≡ length (bytes_from entries at)
unfolding meanings_from bytes_from
lengths_sum [] at = refl
lengths_sum (entry ∷ entries) at =
    let b = built_at entry at in
    ap (λ (n : ℕ). n + total_of (map Ok (meanings_from entries (at + size_told b)))) (read_length entry.values (at % 65536) b)
    ∙ ap (λ (n : ℕ). size_told b + n) (lengths_sum entries (at + size_told b)) ∙ sym (size_next entry entries at)

-- ---- an accepted list
-- bytes that end at 65536 are read as from any address that is the same modulo 65536
same_start : (page : Page) (bytes : List ℕ) (at : ℕ) → at + length bytes ≤ 65536 → run_from 0 bytes (origin at page) ≡ run_from 0 bytes (origin (at % 65536) page)
same_start page [] at h = run_none (origin at page) ∙ sym (run_none (origin (at % 65536) page))
same_start page (b ∷ bytes) at h = ap (λ (n : ℕ). run_from 0 (b ∷ bytes) (origin n page)) (omega arith)

module _ (page : Page) (entries : List Record) (at room : ℕ) (bytes : List ℕ) (h : at ≤ 65536) (m : all_meet page entries ≡ true) (e : lay_from entries at room ≡ Ok bytes) where
  pub laid_decodes : run_of bytes (origin at page) ≡ map Ok (meanings_from entries at)
  unfolding run_of outside
  laid_decodes =
      let f = laid_fits entries at room bytes h e in
      let n : length bytes ≡ length (bytes_from entries at) = ap length f.1 in
      let w : at + length bytes ≤ 65536 = omega (arith, n, f.0.within) in
      pick_false (Err Beyond ∷ []) (run_from 0 bytes (origin at page)) (le-ltb 65536 (at + length bytes) w)
      ∙ same_start page bytes at w
      ∙ ap (λ (l : List ℕ). run_from 0 l (origin (at % 65536) page)) f.1
      ∙ run_means page entries at m f.0.built

  -- all accepted, as many as the list has, and nothing left over
  pub laid_whole :
      (refusal_in (run_of bytes (origin at page)) ≡ None)
      × (length (run_of bytes (origin at page)) ≡ length entries)
      × (total_of (run_of bytes (origin at page)) ≡ length bytes)
  laid_whole =
      let f = laid_fits entries at room bytes h e in
      rw laid_decodes (all_accepted entries at, all_read entries at, lengths_sum entries at ∙ ap length (sym f.1))

-- ---- an accepted lent list
-- the same number of instructions, with the same lengths and meanings in the same order, and nothing left over
pub list_decodes :
    (page : Page) (list : List ℕ) (address room : ℕ) (bytes : List ℕ) →
    address ≤ 65536 →
    all_meet page (entries_of list) ≡ true →
    lay_of list address room ≡ Ok bytes →
    run_of bytes (origin address page) ≡ map Ok (meanings_from (entries_of list) address)
list_decodes page list address room bytes h m e =
    let f = (laid_exactly list address room h bytes).0 e in
    laid_decodes page (entries_of list) address room bytes h m (fits_laid (entries_of list) address room f.1 ∙ ap Ok (sym f.2))
