-- `reader::store_bytes` meets its contract: the bytes so far are stored.
-- Assumes nothing.
use mathlib.Core.List.{List}
use mathlib.Core.Path.{refl, sym, ap, ◌∙◌}
use native.Mathlib.Omega.{arith}
use lib.ListN.{get_or, drop, set}
use Rattle.reader.specs.Digits.{bytes_in}
use Prim.Native.Nat.{ℕ, ◌+◌}
use Rattle.std.proofs.lemmas.Option.{same_Some}
use Rattle.reader.proofs.Digits.{byte_there, byte_within, byte_known, put_more}
use Rattle.reader.proofs.store_bytes.Goals as goal

pub overflow_mul-i : goal.overflow_mul-i
overflow_mul-i c = omega (arith, byte_within c.args.text.now c.args.from c.loop-i.i _ refl (omega (arith, c.requires.0, c.loop-i-test.true)))

pub overflow_add-from : goal.overflow_add-from
overflow_add-from c = omega (arith, byte_within c.args.text.now c.args.from c.loop-i.i _ refl (omega (arith, c.requires.0, c.loop-i-test.true)))

pub byte_at-requires : goal.byte_at-requires
byte_at-requires c = byte_known c.args.text.now c.args.from c.loop-i.i _ refl (omega (arith, c.requires.0, c.loop-i-test.true))

pub loop-i-preserved : goal.loop-i-preserved
loop-i-preserved c =
    let a = c.args in
    let l = c.loop-i in
    let same = same_Some _ _ (sym c.byte_at.ensures ∙ byte_there a.text.now a.from l.i _ refl (omega (arith, c.requires.0, c.loop-i-test.true))) in (
      c.store.ensures
          ∙ ap (set l.bytes (a.to + l.i)) same
          ∙ ap (λ (d : List ℕ). set d (a.to + l.i) (get_or (bytes_in (drop a.from a.text.now)) l.i 0)) l.invariant.0
          ∙ put_more a.bytes.now a.to l.i _ (omega (arith, c.requires.0, c.loop-i-test.true)),
      omega (arith, c.loop-i-test.true),
    )
