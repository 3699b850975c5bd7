-- `entries::entry_in` meets its contract.
-- Assumes nothing.
use Rattle.entries.specs.Entries.{is_flag, is_page_in, page_in, all_flagged, entry_of}
use Rattle.entries.proofs.entry_in.Goals as goal

pub returns : goal.returns
unfolding entry_of all_flagged is_flag is_page_in page_in
returns c =
    rw (
      c.told-operand.ensures,
      c.flagged.ensures,
      c.is_page.ensures,
      c.numbered-page.ensures,
      c.values_in-values.ensures,
    )
