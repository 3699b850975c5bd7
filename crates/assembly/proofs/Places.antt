-- The walk that puts out the objects goes through the places of the settled pass, as long as no statement is refused.
-- Assumes nothing.
use mathlib.Core.Path.{◌≡◌, refl}
use mathlib.Core.Bool.{false}
use mathlib.Core.List.{List}
use Prim.Native.Nat.{ℕ, zero, suc, ◌+◌, ◌%◌, ◌≤◌, ◌<◌}
use native.Mathlib.Omega.{arith}
use Rattle.std.specs.Prelude.{None}
use Rattle.std.specs.Option.{unwrap_or}
use Rattle.values.specs.declared.pages.Page.{Page}
use Rattle.statements.specs.declared.Effect.{Effect}
use Rattle.statements.specs.Turns.{turned}
use Rattle.statements.specs.Effects.{effect_at}
use Rattle.passes.specs.Walks.{Source, walk_to, walk_of}
use Rattle.passes.specs.Passes.{Outcome, pass_of}
use Rattle.passes.proofs.Fine.{settled_goes}
use Rattle.assembly.specs.declared.output.Place.{Place}
use Rattle.assembly.specs.Objects.{address_at, page_at, gather}
use Rattle.assembly.specs.Steps.{done_at, next_place, first_place, rows_on}
use Rattle.assembly.proofs.Standing.{counted_whole}

module _ (src : Source) (o : Outcome) where
  -- where statement i stands
  abbrev pub place : ℕ → Place
  place i = record { at = address_at src o i; page = page_at src o i }

  pub first_place_lem : place 0 ≡ first_place
  unfolding address_at page_at walk_to walk_of
  first_place_lem = refl

  -- what it does there
  abbrev pub own : ℕ → Effect
  own i = effect_at src.list src.items src.nodes o.table i (address_at src o i % 65536) (page_at src o i) false

  -- a statement of the settled pass that is not refused: what it does is counted whole, and says where the next one stands
  pub record Stands (i : ℕ) : Type 0 where
    pub accepted : (own i).refusal ≡ None
    pub near : address_at src o i + (own i).size ≤ 65536
    pub at : address_at src o (i + 1) ≡ unwrap_or (own i).to (address_at src o i + (own i).size)
    pub page : page_at src o (i + 1) ≡ turned (own i).turn (page_at src o i)

  module _ (still : (pass_of src o.table o.sizes).state.changed ≡ false) where
    pub stands : (i : ℕ) → i < (pass_of src o.table o.sizes).state.fine → Stands i
    unfolding address_at page_at
    stands i h =
        let g = settled_goes src o.table o.sizes still i h in
        record { accepted = g.0.accepted; near = g.1; at = g.0.at; page = g.0.page }

  module _ (i : ℕ) (s : Stands i) where
    pub done_own : done_at src o.table i (place i) ≡ own i
    unfolding done_at
    done_own = counted_whole (address_at src o i) (own i) s.near

    pub place_next : next_place (done_at src o.table i (place i)) (place i) ≡ place (i + 1)
    unfolding next_place
    place_next = rw (done_own, s.at, s.page)

  module _ (fine : ℕ) (all : (i : ℕ) → i < fine → Stands i) where
    -- what the walk puts out of n statements is what they have where they stand
    pub rows_settled :
        (f : ℕ → ℕ → Page → List ℕ) (n i : ℕ) → i + n ≤ fine →
        rows_on src o.table f n i (place i) ≡ gather (λ k. f k (address_at src o k) (page_at src o k)) n i
    unfolding rows_on gather
    rows_settled f zero i h = refl
    rows_settled f (suc n) i h = rw (place_next i (all i (omega arith)), rows_settled f n (i + 1) (omega arith))
