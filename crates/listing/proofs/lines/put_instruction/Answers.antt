-- `listing::lines::put_instruction` meets its contract: the parts of the line follow one another.
-- Assumes nothing.
use Rattle.ground.proofs.Stores.{wrote_one, and_then}
use Rattle.listing.specs.Lines.{line_of}
use Rattle.listing.proofs.Writing.{spaced_length}
use native.Mathlib.Omega.{arith}
use Rattle.listing.proofs.lines.put_instruction.Goals as goal

pub put_byte-placed-requires : goal.put_byte-placed-requires
put_byte-placed-requires c = omega (arith, c.put_byte-half.ensures.next)

pub put_bytes-end-requires : goal.put_bytes-end-requires
put_bytes-end-requires c = omega (arith, c.put_byte-placed.ensures.next, c.put_byte-half.ensures.next)

pub overflow_add-result : goal.overflow_add-result
overflow_add-result c =
    omega (
      arith,
      c.put_bytes-end.ensures.next,
      c.put_byte-placed.ensures.next,
      c.put_byte-half.ensures.next,
      spaced_length c.args.bytes.now,
    )

pub returns : goal.returns
unfolding line_of
returns c =
    and_then c.put_byte-half.ensures (and_then c.put_byte-placed.ensures (and_then c.put_bytes-end.ensures (wrote_one c.store.ensures)))
