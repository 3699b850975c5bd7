-- `roundtrip::writing::write_bytes` meets its contract.
-- Assumes nothing.
use mathlib.Core.Path.{sym, ap, ◌∙◌}
use mathlib.Core.List.{List}
use Prim.Native.Nat.{ℕ}
use lib.ListN.{length}
use Rattle.records.specs.Written.{written_of, buffer_of}
use Rattle.roundtrip.specs.Demand.{object_for}
use Rattle.records.proofs.ByteRows.{byte_rows_length}
use Rattle.roundtrip.proofs.Values.{front_values}
use Rattle.roundtrip.proofs.writing.write_bytes.Goals as goal

pub slice_bounds-write_text-end-3 : goal.slice_bounds-write_text-end-3
slice_bounds-write_text-end-3 c = sym (ap length (front_values c.args.bytes.now c.args.values.now _ c.requires.1 c.store_values.ensures) ∙ byte_rows_length c.args.bytes.now)

pub returns : goal.returns
returns c =
    let w = c.write_text in
    let v = front_values c.args.bytes.now c.args.values.now _ c.requires.1 c.store_values.ensures in
    let objects = object_for c.args.address c.args.bytes.now in record { value = w.ensures.value ∙ ap (λ (l : List ℕ). written_of objects l (length c.args.out.now)) v; out_after = w.ensures.out_after ∙ ap (λ (l : List ℕ). buffer_of objects l c.args.out.now) v }
