-- `listing::lines::put_spaced` meets its contract: a blank, and then the byte.
-- Assumes nothing.
use Rattle.ground.proofs.Stores.{wrote_one, and_then}
use Rattle.listing.proofs.lines.put_spaced.Goals as goal

pub returns : goal.returns
returns c = and_then (wrote_one c.store.ensures) c.put_byte.ensures
