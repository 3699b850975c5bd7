-- The lines of a run: an accepted instruction and then the lines after it, a refused one the last.
-- Assumes nothing.
use borrow.Author.Tests.{le-ltb}
use mathlib.Core.Path.{◌≡◌, refl, sym, ap, ◌∙◌, subst}
use mathlib.Core.List.{List}
use Prim.Native.Nat.{ℕ, ◌+◌, ◌-◌, ◌*◌, ◌≤◌, ◌<◌}
use native.Mathlib.Omega.{arith}
use lib.ListN.{length, take, drop, length-drop}
use lib.Seq.{drop-drop, length-take-le}
use Rattle.std.specs.Prelude.{Some, None, Ok, Err}
use Rattle.ground.specs.declared.refusals.Refusal.{Refusal}
use Rattle.ground.specs.Refusals.{number_of}
use Rattle.ground.specs.Stores.{Wrote}
use Rattle.ground.proofs.Choices.{pick_false}
use Rattle.ground.proofs.Stores.{kept}
use Rattle.decoder.specs.declared.Decoded.{Decoded}
use Rattle.decoder.specs.Origin.{shifted, outside}
use Rattle.decoder.specs.Meaning.{Answer}
use Rattle.decoder.specs.Front.{front_of}
use Rattle.decoder.specs.Run.{run_of, next_of}
use Rattle.decoder.proofs.Runs.{run_at, accepted_size, next_accepted, next_refused, next_none, run_start}
use Rattle.listing.specs.Lines.{line_of}
use Rattle.listing.specs.Listing.{Lines, Instruction, Refused, read_from, in_run, printed}
use Rattle.listing.specs.Steps.{Leads, Passed}
use Rattle.listing.proofs.Writing.{leads_all, leads_on, line_length}

-- the lines of a whole run, and those from a place of it on
abbrev pub whole : List ℕ → ℕ → Lines → Lines
whole bytes address rest = in_run address bytes (run_of bytes (read_from address)) rest

abbrev pub ahead : List ℕ → ℕ → ℕ → Lines → Lines
ahead bytes address place rest = in_run (address + place) (drop place bytes) (run_at bytes (read_from address) place) rest

module _ (bytes : List ℕ) (address : ℕ) (near : address + length bytes ≤ 65536) where
  ahead_start : address < 65536 → (rest : Lines) → whole bytes address rest ≡ ahead bytes address 0 rest
  unfolding outside
  ahead_start h rest =
      ap (λ (ds : List Answer). in_run address bytes ds rest) (run_start bytes (read_from address) h (le-ltb 65536 (address + length bytes) near))
      ∙ ap (λ (a : ℕ). in_run a bytes (run_at bytes (read_from address) 0) rest) (omega arith)

  module _ (place : ℕ) where
    front : (x : Answer) → next_of bytes (read_from address) place ≡ x → front_of (drop place bytes) (shifted (read_from address) place) ≡ x
    unfolding next_of outside
    front x e = sym (pick_false _ _ (le-ltb 65536 (address + length bytes) near)) ∙ e

    -- an accepted instruction has a byte at least, and ends within the run
    pub size_there : (d : Decoded) → next_of bytes (read_from address) place ≡ Ok d → place < length bytes → (1 ≤ d.length) × (place + d.length ≤ length bytes)
    size_there d e h =
        let s = accepted_size (drop place bytes) (shifted (read_from address) place) d (front (Ok d) e) in
        (s.0, omega (arith, s.1, length-drop place bytes))

    ahead_next :
        (d : Decoded) → next_of bytes (read_from address) place ≡ Ok d → (rest : Lines) →
        ahead bytes address place rest ≡ Instruction (address + place) (take d.length (drop place bytes)) (ahead bytes address (place + d.length) rest)
    ahead_next d e rest =
        let later = run_at bytes (read_from address) (place + d.length) in
        let first = take d.length (drop place bytes) in
        ap (λ (ds : List Answer). in_run (address + place) (drop place bytes) ds rest) (next_accepted bytes (read_from address) place d (front (Ok d) e))
        ∙ ap (λ (l : List ℕ). Instruction (address + place) first (in_run (address + place + d.length) l later rest)) (drop-drop d.length place bytes)
        ∙ ap (λ (a : ℕ). Instruction (address + place) first (in_run a (drop (place + d.length) bytes) later rest)) (omega arith)

    ahead_refused : (e : Refusal) → next_of bytes (read_from address) place ≡ Err e → place < length bytes → (rest : Lines) → ahead bytes address place rest ≡ Refused (number_of e)
    ahead_refused e q h rest =
        ap (λ (ds : List Answer). in_run (address + place) (drop place bytes) ds rest) (next_refused bytes (read_from address) place e (front (Err e) q) h)

ahead_none : (bytes : List ℕ) (address place : ℕ) → length bytes ≤ place → (rest : Lines) → ahead bytes address place rest ≡ rest
ahead_none bytes address place h rest =
    ap (λ (ds : List Answer). in_run (address + place) (drop place bytes) ds rest) (next_none bytes (read_from address) place h)

-- what holds at each turn: the lines from the place on, written from here on, lead to what the whole run leads to
pub record Running (d : List ℕ) (at₀ count₀ : ℕ) (bytes : List ℕ) (address : ℕ) (e : List ℕ) (at count place : ℕ) : Type 0 where
  pub lead : (rest : Lines) → Leads d at₀ (printed count₀ (whole bytes address rest)) e at (printed count (ahead bytes address place rest))
  pub short : at + 8 * (length bytes - place) ≤ at₀ + 8 * length bytes
  pub fewer : count ≤ at
  pub within : place ≤ length bytes
  pub room : length e ≡ length d

module _ (d : List ℕ) (at₀ count₀ : ℕ) (bytes : List ℕ) (address : ℕ) (near : address + length bytes ≤ 65536) where
  pub running_first : address < 65536 → count₀ ≤ at₀ → Running d at₀ count₀ bytes address d at₀ count₀ 0
  running_first h k = record {
    lead = λ rest.
        subst
        (λ (l : Lines). Leads d at₀ (printed count₀ (whole bytes address rest)) d at₀ (printed count₀ l))
        (ahead_start bytes address near h rest)
        (leads_all d at₀ (printed count₀ (whole bytes address rest)));
    short = omega arith;
    fewer = k;
    within = omega arith;
    room = refl;
  }

  module _ {e : List ℕ} {at count place : ℕ} (r : Running d at₀ count₀ bytes address e at count place) where
    to : (rest l : Lines) → ahead bytes address place rest ≡ l → Leads d at₀ (printed count₀ (whole bytes address rest)) e at (printed count l)
    to rest l q = subst (λ (x : Lines). Leads d at₀ (printed count₀ (whole bytes address rest)) e at (printed count x)) q (r.lead rest)

    pub running_next :
        (x : Decoded) → next_of bytes (read_from address) place ≡ Ok x → place < length bytes →
        {f : List ℕ} {m : ℕ} (n : ℕ) → n ≡ x.length
        → Wrote e at (line_of (address + place) (take n (drop place bytes))) m f
        → Running d at₀ count₀ bytes address f m (count + 1) (place + x.length)
    running_next x q h {f} {m} n k wn =
        let w = subst (λ (j : ℕ). Wrote e at (line_of (address + place) (take j (drop place bytes))) m f) k wn in
        let z₁ = size_there bytes address near place x q h in
        let own = length-take-le x.length (drop place bytes) (omega (arith, z₁.1, length-drop place bytes)) in
        let long = line_length (address + place) (take x.length (drop place bytes)) in
        record {
          lead = λ rest.
              leads_on (printed (count + 1) (ahead bytes address (place + x.length) rest))
              (to rest _ (ahead_next bytes address near place x q rest)) w;
          short = omega (arith, z₁.0, z₁.1, own, long, w.next, r.short);
          fewer = omega (arith, long, w.next, r.fewer);
          within = z₁.1;
          room = kept w ∙ r.room;
        }

    pub running_refused :
        (x : Refusal) → next_of bytes (read_from address) place ≡ Err x → place < length bytes
        → Passed d at₀ count₀ (whole bytes address) (length bytes) (record { at = at; count = count; refusal = Some x }) e
    running_refused x q h = record {
      lead = λ rest. to rest _ (ahead_refused bytes address near place x q h rest);
      short = omega (arith, r.short);
      fewer = r.fewer;
    }

    pub running_end : length bytes ≤ place → Passed d at₀ count₀ (whole bytes address) (length bytes) (record { at = at; count = count; refusal = None }) e
    running_end h = record {
      lead = λ rest. to rest _ (ahead_none bytes address place h rest);
      short = omega (arith, r.short);
      fewer = r.fewer;
    }
