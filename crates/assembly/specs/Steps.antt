-- What the code hands from part to part; only private contracts cite it.
use Rattle.std.specs.Prelude.{◌≡◌, ℕ, zero, suc, ◌+◌, ◌*◌, ◌/◌, ◌%◌, ◌≤◌, ◌<◌, false, List, [], ◌++◌, eqb, ltb, length, Result, Ok, Err}
use Rattle.std.specs.Option.{unwrap_or}
use Rattle.std.specs.Result.{result_and}
use Rattle.ground.specs.Choice.{pick}
use Rattle.ground.specs.declared.refusals.Refusal.{Refusal}
use Rattle.ground.specs.declared.refusals.Refusal.TheVariants.{NoRoom}
use Rattle.ground.specs.Stores.{Wrote}
use Rattle.values.specs.declared.pages.Page.{Page}
use Rattle.values.specs.declared.pages.Page.TheVariants.{Known}
use Rattle.statements.specs.declared.Effect.{Effect}
use Rattle.statements.specs.Turns.{turned}
use Rattle.statements.specs.Effects.{effect_at, counted_of}
use Rattle.passes.specs.Walks.{Source}
use Rattle.passes.specs.Passes.{ended_of}
use Rattle.assembly.specs.Objects.{kind_at, values_built, object_built, objects_of, values_of}
use Rattle.assembly.specs.Answers.{accepted_of}
use Rattle.assembly.specs.Text.{settled_text}
use Rattle.assembly.specs.declared.Plan.{Plan}
use Rattle.assembly.specs.declared.output.Place.{Place}
use Rattle.assembly.specs.declared.output.Going.{Going}
use Rattle.assembly.specs.declared.output.Extent.{Extent}
use Rattle.assembly.specs.declared.tally.Tally.{Tally}

-- ---- from statement to statement, as long as each is accepted
unfoldable pub done_at : Source → List ℕ → ℕ → Place → Effect
done_at src ls i p =
    counted_of p.at (effect_at src.list src.items src.nodes ls i (p.at % 65536) p.page false)

unfoldable pub next_place : Effect → Place → Place
next_place e p = record { at = unwrap_or e.to (p.at + e.size); page = turned e.turn p.page }

abbrev pub first_place : Place
first_place = record { at = 0; page = Known 0 }

-- what f gives of n statements from i on, the first of which stands at a place
unfoldable pub rows_on : Source → List ℕ → (ℕ → ℕ → Page → List ℕ) → ℕ → ℕ → Place → List ℕ
rows_on src ls f zero i p = []
rows_on src ls f (suc n) i p = f i p.at p.page ++ rows_on src ls f n (i + 1) (next_place (done_at src ls i p) p)

abbrev pub objects_on : Source → List ℕ → ℕ → ℕ → Place → List ℕ
objects_on src ls n i p = rows_on src ls (λ k at page. object_built src ls k at page) n i p

abbrev pub values_on : Source → List ℕ → ℕ → ℕ → Place → List ℕ
values_on src ls n i p = rows_on src ls (λ k at page. values_built src ls k at page) n i p

-- ---- the length of the text
-- a line of k bytes has 12 + 2 k characters; a record without bytes has no line
unfoldable pub closed_length : Tally → ℕ
closed_length t = pick (eqb t.held 0) t.length (t.length + 12 + 2 * t.held)

unfoldable pub started : ℕ → Tally → Tally
started address t = pick (eqb address t.next) t (record { next = address; held = 0; length = closed_length t })

unfoldable pub grown : ℕ → Tally → Tally
grown size t = record {
  next = t.next + size;
  held = (t.held + size) % 32;
  length = t.length + 76 * ((t.held + size) / 32);
}

unfoldable pub tallied : (kind address size : ℕ) → Tally → Tally
tallied kind address size t = pick (eqb kind 1) (grown size (started address t)) t

-- the end record has 12 characters
unfoldable pub end_of : Tally → ℕ
end_of t = closed_length t + 12

abbrev pub no_tally : Tally
no_tally = record { next = 0; held = 0; length = 0 }

unfoldable pub tally_on : Source → List ℕ → ℕ → ℕ → Place → Tally → Tally
tally_on src ls zero i p t = t
tally_on src ls (suc n) i p t =
    tally_on src ls n (i + 1) (next_place (done_at src ls i p) p)
    (tallied (kind_at src.list i) (p.at % 65536) (done_at src ls i p).size t)

-- ---- what n statements take
unfoldable pub extent_of : Source → List ℕ → ℕ → Extent
extent_of src ls n = record {
  objects = length (objects_on src ls n 0 first_place);
  values = length (values_on src ls n 0 first_place);
  length = end_of (tally_on src ls n 0 first_place no_tally);
}

-- a walk that can take a step
pub record Ready (s : Going) : Type 0 where
  pub near : s.place.at ≤ 65536
  pub held : s.tally.held < 32
  pub short : s.tally.length < 4294967296
  pub objects : s.objects < 4294967296
  pub values : s.values < 4294967296

-- a step of the walk
pub record Stepped (src : Source) (ls : List ℕ) (i : ℕ) (s : Going) (os vs : List ℕ) (r : Going) (os' vs' : List ℕ) : Type 0 where
  pub place : r.place ≡ next_place (done_at src ls i s.place) s.place
  pub tally :
      r.tally ≡ tallied (kind_at src.list i) (s.place.at % 65536) (done_at src ls i s.place).size s.tally
  pub objects : Wrote os s.objects (object_built src ls i s.place.at s.place.page) r.objects os'
  pub values : Wrote vs s.values (values_built src ls i s.place.at s.place.page) r.values vs'
  pub near : r.place.at ≤ 65536
  pub held : r.tally.held < 32
  pub short : r.tally.length ≤ s.tally.length + 200000
  pub few : r.objects ≤ s.objects + 3
  pub some : r.values ≤ s.values + 131072

-- ---- what is known before anything is stored
-- numbers of objects and of values, and characters of text
unfoldable pub extent_in : Source → List ℕ → Extent
extent_in src ls = record {
  objects = length (objects_of src ls);
  values = length (values_of src ls);
  length = length (settled_text src ls);
}

unfoldable pub plan_of : Source → List ℕ → (objects values : ℕ) → Plan
plan_of src ls objects values = record {
  passes = (ended_of src ls).passes;
  fine = (ended_of src ls).fine;
  extent = result_and (accepted_of src ls objects values) (Ok (extent_in src ls));
}

-- a text of that length has room
unfoldable pub roomy : ℕ → Result Extent Refusal → Result Extent Refusal
roomy room (Ok extent) = pick (ltb room extent.length) (Err NoRoom) (Ok extent)
roomy room (Err why) = Err why
