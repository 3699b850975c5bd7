-- The walk that puts out the objects: one turn, and what holds at each.
-- Assumes nothing.
use mathlib.Core.Path.{◌≡◌, refl, sym, ap, ◌∙◌}
use mathlib.Core.Bool.{false}
use mathlib.Core.List.{List, [], ◌∷◌, ◌++◌}
use Prim.Native.Nat.{ℕ, suc, ◌+◌, ◌-◌, ◌*◌, ◌%◌, ◌≤◌, ◌<◌}
use native.Mathlib.Omega.{arith}
use lib.ListN.{length, set, length-append}
use Rattle.ground.specs.Stores.{put, Wrote}
use Rattle.ground.proofs.Stores.{rest, kept}
use Rattle.values.specs.declared.pages.Page.{Page}
use Rattle.statements.specs.declared.Effect.{Effect}
use Rattle.statements.specs.Objects.{count_in}
use Rattle.statements.proofs.Lengths.{values_length}
use Rattle.passes.specs.Walks.{Source}
use Rattle.assembly.specs.declared.output.Place.{Place}
use Rattle.assembly.specs.declared.output.Going.{Going}
use Rattle.assembly.specs.declared.output.Extent.{Extent}
use Rattle.assembly.specs.declared.tally.Tally.{Tally}
use Rattle.assembly.specs.Objects.{kind_at, object_row, values_built, stands_at, object_built}
use Rattle.assembly.specs.Steps.{done_at, next_place, first_place, rows_on, objects_on, values_on, tallied, tally_on, no_tally, end_of, extent_of, Ready, Stepped}
use Rattle.assembly.proofs.Standing.{counted_stands}

-- ---- one statement
-- a row of three numbers
pub row_stored :
    {d e f g : List ℕ} {at a b c : ℕ} → e ≡ set d at a → f ≡ set e (at + 1) b → g ≡ set f (at + 2) c → Wrote d at (a ∷ b ∷ c ∷ []) (at + 3) g
row_stored {at = at} p q r = record { next = refl; buffer = let two : at + 1 + 1 ≡ at + 2 = omega arith in rw (two, ← p, ← q) r }

-- the parts of a step make the step
pub step_joins :
    {src : Source} {ls : List ℕ} {i : ℕ} {s : Going} {os vs os' vs' : List ℕ} {count kind stands after : ℕ} {e : Effect} {next : Place} {tally : Tally} →
    s.place.at ≤ 65536 →
    count ≡ count_in (values_built src ls i s.place.at s.place.page) →
    vs' ≡ put vs s.values (values_built src ls i s.place.at s.place.page) →
    count ≤ 65535 →
    kind ≡ kind_at src.list i →
    e ≡ done_at src ls i s.place →
    stands ≡ stands_at e (s.place.at % 65536) →
    Wrote os s.objects (object_row kind stands count) after os' →
    after ≤ s.objects + 3 →
    next ≡ next_place e s.place →
    next.at ≤ 65536 →
    tally ≡ tallied kind (s.place.at % 65536) e.size s.tally →
    (tally.held < 32) × (tally.length ≤ s.tally.length + 200000) →
    Stepped src ls i s os vs (record { place = next; objects = after; values = s.values + 2 * count; tally = tally }) os' vs'
unfolding object_built values_built done_at
step_joins {src} {ls} {i} {s} {count = count} {kind} ready counted stored most known done there object few next near tallied bounds = record {
  place = rw (← done) next;
  tally = rw (← done, ← known) tallied;
  objects =
      let here = s.place.at % 65536 in
      let address =
      there ∙ ap (λ (x : Effect). stands_at x here) done
      ∙ counted_stands src.list src.items src.nodes ls i here s.place.page false s.place.at ready in
      rw (← known, ← counted, ← address) object;
  values = record {
    next = omega (arith, counted, values_length src.list src.items src.nodes ls i (s.place.at % 65536) s.place.page);
    buffer = stored;
  };
  near = near;
  held = bounds.0;
  short = bounds.1;
  few = few;
  some = omega arith;
}

-- ---- all statements
-- what is still to be stored from a place of a table on, of all that is stored
pub record Left (d : List ℕ) (at : ℕ) (rows d₀ all : List ℕ) : Type 0 where
  pub table : put d at rows ≡ put d₀ 0 all
  pub place : at + length rows ≡ length all
  pub size : length d ≡ length d₀

left_more :
    {d e d₀ all rows : List ℕ} {at m : ℕ} (xs ys : List ℕ) → rows ≡ xs ++ ys → Wrote d at xs m e → Left d at rows d₀ all → Left e m ys d₀ all
left_more {d} {e} {d₀} {all} {rows} {at} {m} xs ys p w l = record {
  table = rest ys w ∙ ap (put d at) (sym p) ∙ l.table;
  place = omega (arith, w.next, length-append xs ys, ap length p, l.place);
  size = kept w ∙ l.size;
}

left_end : {d d₀ all rows : List ℕ} {at : ℕ} → rows ≡ [] → Left d at rows d₀ all → (at ≡ length all) × (d ≡ put d₀ 0 all)
left_end {d} {d₀} {all} {rows} {at} p l =
    (omega (arith, ap length p, l.place), ap (put d at) (sym p) ∙ l.table)

module _ (src : Source) (ls : List ℕ) where
  -- the next place of statement i at a place
  abbrev next : ℕ → Place → Place
  next i p = next_place (done_at src ls i p) p

  rows_turn :
      (f : ℕ → ℕ → Page → List ℕ) (left rest i : ℕ) (p q : Place) → left ≡ suc rest → q ≡ next i p →
      rows_on src ls f left i p ≡ f i p.at p.page ++ rows_on src ls f rest (i + 1) q
  unfolding rows_on
  rows_turn f left rest i p q h e = rw (h, e)

  tally_turn :
      (left rest i : ℕ) (p q : Place) (t u : Tally) → left ≡ suc rest → q ≡ next i p →
      u ≡ tallied (kind_at src.list i) (p.at % 65536) (done_at src ls i p).size t →
      tally_on src ls rest (i + 1) q u ≡ tally_on src ls left i p t
  unfolding tally_on
  tally_turn left rest i p q t u h e f = rw (h, e, f)

  module _ (left : ℕ) (z : left ≡ 0) (i : ℕ) (p : Place) where
    none_rows : (f : ℕ → ℕ → Page → List ℕ) → rows_on src ls f left i p ≡ []
    unfolding rows_on
    none_rows f = rw z

    none_tally : (t : Tally) → tally_on src ls left i p t ≡ t
    unfolding tally_on
    none_tally t = rw z

  -- before statement i of n
  pub record Gone (n : ℕ) (os₀ vs₀ os vs : List ℕ) (s : Going) (i : ℕ) : Type 0 where
    pub near : s.place.at ≤ 65536
    pub held : s.tally.held < 32
    pub short : s.tally.length ≤ 200000 * i
    pub few : s.objects ≤ 3 * i
    pub some : s.values ≤ 131072 * i
    pub objects : Left os s.objects (objects_on src ls (n - i) i s.place) os₀ (objects_on src ls n 0 first_place)
    pub values : Left vs s.values (values_on src ls (n - i) i s.place) vs₀ (values_on src ls n 0 first_place)
    pub tally : tally_on src ls (n - i) i s.place s.tally ≡ tally_on src ls n 0 first_place no_tally

  module _ (n : ℕ) (os₀ vs₀ : List ℕ) where
    pub gone_first : Gone n os₀ vs₀ os₀ vs₀ (record { place = first_place; objects = 0; values = 0; tally = no_tally }) 0
    gone_first =
        let all : n - 0 ≡ n = omega arith in record {
          near = omega arith;
          held = omega arith;
          short = omega arith;
          few = omega arith;
          some = omega arith;
          objects = record { table = rw all; place = rw all (omega arith); size = refl };
          values = record { table = rw all; place = rw all (omega arith); size = refl };
          tally = rw all;
        }

    module _ (os vs : List ℕ) (s : Going) (i : ℕ) (g : Gone n os₀ vs₀ os vs s i) where
      pub gone_ready : n ≤ 1024 → i < n → Ready s
      gone_ready h l = record {
        near = g.near;
        held = g.held;
        short = omega (arith, g.short);
        objects = omega (arith, g.few);
        values = omega (arith, g.some);
      }

      pub gone_more :
          (os' vs' : List ℕ) (r : Going) → i < n → Stepped src ls i s os vs r os' vs' → Gone n os₀ vs₀ os' vs' r (i + 1)
      gone_more os' vs' r h w =
          let more : n - i ≡ suc (n - (i + 1)) = omega arith in record {
            near = w.near;
            held = w.held;
            short = omega (arith, g.short, w.short);
            few = omega (arith, g.few, w.few);
            some = omega (arith, g.some, w.some);
            objects = left_more _ _ (rows_turn _ (n - i) (n - (i + 1)) i s.place r.place more w.place) w.objects g.objects;
            values = left_more _ _ (rows_turn _ (n - i) (n - (i + 1)) i s.place r.place more w.place) w.values g.values;
            tally = tally_turn (n - i) (n - (i + 1)) i s.place r.place s.tally r.tally more w.place w.tally ∙ g.tally;
          }

      pub gone_end :
          (r : Extent) → i ≡ n → r ≡ record { objects = s.objects; values = s.values; length = end_of s.tally } →
          (r ≡ extent_of src ls n)
          × ((os ≡ put os₀ 0 (objects_on src ls n 0 first_place))
          × (vs ≡ put vs₀ 0 (values_on src ls n 0 first_place)))
      unfolding extent_of
      gone_end r h e =
          let z : n - i ≡ 0 = omega arith in
          let o = left_end (none_rows (n - i) z i s.place _) g.objects in
          let v = left_end (none_rows (n - i) z i s.place _) g.values in
          (rw (← o.0, ← v.0, ← g.tally, none_tally (n - i) z i s.place s.tally) e, (o.1, v.1))
