-- `listing::list_all` meets its contract: all lines but the last, and then the last.
-- Assumes nothing.
use Rattle.listing.specs.Listing.{listing_of}
use Rattle.listing.proofs.Writing.{leads_done}
use native.Mathlib.Omega.{arith}
use Rattle.listing.proofs.list_all.Goals as goal

pub list_last-requires : goal.list_last-requires
list_last-requires c = omega (arith, c.list_lines-done.ensures.short)

pub returns : goal.returns
unfolding listing_of
returns c = leads_done c.list_lines-done.ensures.lead c.list_last.ensures
