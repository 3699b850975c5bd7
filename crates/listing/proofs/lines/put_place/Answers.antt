-- `listing::lines::put_place` meets its contract.
-- Assumes nothing.
use mathlib.Core.Path.{refl}
use Rattle.ground.specs.Choice.{pick}
use Rattle.listing.specs.Lines.{place_of}
use Rattle.ground.proofs.Stores.{wrote_one}
use borrow.Author.Tests.{le-leb, lt-leb}
use native.Mathlib.Omega.{arith}
use Rattle.listing.proofs.lines.put_place.Goals as goal

pub returns-then-stands : goal.returns-then-stands
unfolding place_of pick
returns-then-stands c = rw (le-leb _ _ c.if-stands.true) (wrote_one c.store.ensures)

pub returns : goal.returns
unfolding place_of pick
returns c = rw (lt-leb _ _ c.if-stands.false) (record { next = omega arith; buffer = refl })
