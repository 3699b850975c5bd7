-- `entries::padded` meets its contract.
-- Assumes nothing.
use Rattle.entries.specs.Entries.{cells_of}
use Rattle.entries.proofs.padded.Goals as goal

pub returns : goal.returns
unfolding cells_of
returns c =
    rw (c.cell_or-21.ensures, c.cell_or-20.ensures, c.cell_or-19.ensures, c.cell_or-18.ensures, c.cell_or-17.ensures, c.cell_or-16.ensures, c.cell_or-15.ensures, c.cell_or-14.ensures, c.cell_or-13.ensures, c.cell_or-12.ensures, c.cell_or-11.ensures, c.cell_or-10.ensures, c.cell_or-9.ensures, c.cell_or-8.ensures, c.cell_or-7.ensures, c.cell_or-6.ensures, c.cell_or-5.ensures, c.cell_or-4.ensures, c.cell_or-3.ensures, c.cell_or-2.ensures, c.cell_or.ensures)
