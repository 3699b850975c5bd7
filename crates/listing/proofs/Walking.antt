-- The lines of all runs of a text: run after run, up to the first instruction that is refused.
-- Assumes nothing.
use borrow.Author.Tests.{ltb-false}
use mathlib.Core.Path.{◌≡◌, refl, sym, ap, ◌∙◌, subst}
use mathlib.Core.Bool.{Bool, true, false, false≢true}
use mathlib.Core.List.{List, []}
use Prim.Native.Nat.{ℕ, ◌+◌, ◌*◌, ◌^◌, ◌≤◌, ◌<◌}
use native.Mathlib.Omega.{arith}
use lib.Dec.{ltb}
use lib.ListN.{length, take, drop, length-append}
use Rattle.std.specs.Prelude.{Option, Some, None, Result, Ok, Err, is_some}
use Rattle.std.specs.Result.{result_err}
use Rattle.std.proofs.lemmas.Option.{none-some}
use Rattle.ground.specs.Choice.{pick}
use Rattle.ground.specs.declared.refusals.Refusal.{Refusal}
use Rattle.ground.specs.declared.refusals.Refusal.TheVariants.{NoRoom}
use Rattle.ground.specs.Refusals.{number_of}
use Rattle.records.specs.Text.{Rec}
use Rattle.reader.specs.Lines.{records_in}
use Rattle.reader.specs.Answers.{bytes_of, size_of, runs_in}
use Rattle.reader.specs.Steps.{fine}
use Rattle.reader.specs.declared.Read.{Read}
use Rattle.reader.specs.declared.runs.Run.{Run}
use Rattle.reader.proofs.Tallies.{fine_size}
use Rattle.listing.specs.Listing.{Lines, End, Refused, in_runs, refusal_of, lines_of, printed}
use Rattle.listing.specs.Steps.{Leads, left, left_by, Passed, Ran}
use Rattle.listing.specs.declared.Progress.{Progress}
use Rattle.listing.proofs.Writing.{leads_all, leads_then}
use Rattle.listing.proofs.Running.{whole}
use Rattle.listing.proofs.Texts.{Next, data_small}

-- what a text that is not refused tells
pub record Taken (text : List ℕ) : Type 0 where
  pub short : length text ≤ 65536
  pub size : Read
  pub read : size_of (records_in text) ≡ Ok size

pub taken : (text : List ℕ) → refusal_of text ≡ None → Taken text
unfolding refusal_of pick
taken text z = go (ltb 65536 (length text)) refl z (size_of (records_in text)) refl
  where
    go : (b : Bool) → ltb 65536 (length text) ≡ b → pick b (Some NoRoom) (result_err (size_of (records_in text))) ≡ None
        → (s : Result Read Refusal) → size_of (records_in text) ≡ s → Taken text
    go true t z s e = absurd (none-some NoRoom (sym z))
    go false t z (Ok size) e = record { short = ltb-false 65536 (length text) t; size = size; read = e }
    go false t z (Err x) e = absurd (none-some x (sym z ∙ ap result_err e))

-- what holds at each turn: the lines of the runs from a place on, written from here on, lead to what those of all runs lead to
pub record Walking (d text e : List ℕ) (s : Progress) (place : ℕ) : Type 0 where
  pub lead : Leads d 0 (printed 0 (in_runs (runs_in text))) e s.at (printed s.count (in_runs (runs_in (drop place text))))
  pub short : s.at + 8 * length (bytes_of (runs_in (drop place text))) ≤ 262144
  pub fewer : s.count ≤ s.at
  pub right : fine (records_in (drop place text)) ≡ true
  pub going : s.refusal ≡ None

pub walking_first : (d text : List ℕ) → refusal_of text ≡ None → Walking d text d (record { at = 0; count = 0; refusal = None }) 0
walking_first d text z = record {
  lead = leads_all d 0 (printed 0 (in_runs (runs_in text)));
  short = omega (arith, data_small text, (taken text z).short);
  fewer = omega arith;
  right = fine_size (records_in text) (taken text z).size (taken text z).read;
  going = refl;
}

left_none : (s : Progress) → s.refusal ≡ None → (rest : Lines) → left s rest ≡ rest
left_none s z rest = rw z

none_met : (o : Option Refusal) → is_some o ≡ false → o ≡ None
none_met (Some n) z = absurd (false≢true (sym z))
none_met None z = refl

-- where a refusal was met it does not matter what would follow
left_refused : (o : Option Refusal) → is_some o ≡ true → (rest other : Lines) → left_by o rest ≡ left_by o other
left_refused (Some n) z rest other = refl
left_refused None z rest other = absurd (false≢true z)

module _ {d text e : List ℕ} {s : Progress} {place : ℕ} (k : Walking d text e s place) where
  abbrev Lead : List ℕ → Progress → Lines → Type 0
  Lead f q l = Leads d 0 (printed 0 (in_runs (runs_in text))) f q.at (printed q.count l)

  -- no run is left
  pub walking_end : runs_in (drop place text) ≡ [] → Ran d (in_runs (runs_in text)) s e
  walking_end n = record {
    lead = subst (Lead e s) (ap in_runs n ∙ sym (left_none s k.going End)) k.lead;
    short = omega (arith, k.short);
  }

  -- what listing the next run asks
  pub walking_asks : {r : Run} {b : List ℕ} → Next text place r b
      → (r.address + length (take r.bytes b) ≤ 65536) × (s.at + 8 * length (take r.bytes b) < 2 ^ 32) × (s.count ≤ s.at)
  walking_asks {r} {b} x =
      let long = ap length x.bytes in
      let runs = ap (λ (rs : List Rec). length (bytes_of rs)) x.runs in
      let both = length-append x.run.bytes (bytes_of (runs_in (drop r.next text))) in
      (omega (arith, long, x.long, x.near), omega (arith, long, runs, both, k.short), k.fewer)

  -- a run was listed
  module _ {r : Run} {b : List ℕ} (x : Next text place r b) {q : Progress} {f : List ℕ}
      (p : Passed e s.at s.count (whole (take r.bytes b) r.address) (length (take r.bytes b)) q f) where
    abbrev later : Lines
    later = in_runs (runs_in (drop r.next text))

    -- its lines and those of the runs after it
    first : in_runs (runs_in (drop place text)) ≡ whole (take r.bytes b) r.address later
    first =
        ap in_runs x.runs
        ∙ ap (λ (l : List ℕ). whole l x.run.address later) (sym x.bytes)
        ∙ ap (λ (a : ℕ). whole (take r.bytes b) a later) (sym x.place)

    lead_on : Lead f q (left q later)
    lead_on = leads_then (subst (Lead e s) first k.lead) (p.lead later)

    room : q.at + 8 * length (bytes_of (runs_in (drop r.next text))) ≤ 262144
    room =
        omega (
          arith,
          p.short,
          k.short,
          ap length x.bytes,
          ap (λ (rs : List Rec). length (bytes_of rs)) x.runs,
          length-append x.run.bytes (bytes_of (runs_in (drop r.next text))),
        )

    pub walking_on : is_some q.refusal ≡ false → Walking d text f q r.next
    walking_on z = record {
      lead = subst (Lead f q) (left_none q (none_met q.refusal z) later) lead_on;
      short = room;
      fewer = p.fewer;
      right = x.right;
      going = none_met q.refusal z;
    }

    pub walking_refused : is_some q.refusal ≡ true → Ran d (in_runs (runs_in text)) q f
    walking_refused z = record {
      lead = subst (Lead f q) (left_refused q.refusal z later End) lead_on;
      short = omega (arith, room);
    }

-- the lines of a text
pub ran_refused : (d text : List ℕ) (e : Refusal) → refusal_of text ≡ Some e → Ran d (lines_of text) (record { at = 0; count = 0; refusal = Some e }) d
unfolding lines_of
ran_refused d text e z =
    let same : lines_of text ≡ Refused (number_of e) = rw z in
    record {
      lead = subst (λ (l : Lines). Leads d 0 (printed 0 (lines_of text)) d 0 (printed 0 l)) same (leads_all d 0 (printed 0 (lines_of text)));
      short = omega arith;
    }

pub ran_runs : {d e : List ℕ} {r : Progress} (text : List ℕ) → refusal_of text ≡ None → Ran d (in_runs (runs_in text)) r e → Ran d (lines_of text) r e
unfolding lines_of
ran_runs {d} {e} {r} text z p = rw z p
