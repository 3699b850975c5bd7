-- A turn stores the bytes of one instruction more.
-- Assumes nothing.
use mathlib.Core.Path.{sym, ap, ◌∙◌}
use mathlib.Core.List.{List}
use Prim.Native.Nat.{ℕ, ◌+◌, ◌-◌, ◌*◌}
use native.Mathlib.Nat.{add-zero, sub-zero}
use native.Mathlib.Omega.{arith}
use Rattle.ground.specs.Stores.{put}
use Rattle.instruction.specs.declared.Record.{Record}
use Rattle.instruction.specs.Building.{size_told}
use Rattle.laying.specs.Entries.{rows_in, entry_at, entries_from, entries_of}
use Rattle.laying.specs.Exactly.{bytes_from}
use Rattle.laying.proofs.Builds.{built_most}
use Rattle.laying.proofs.Turns.{entries_done, rows_next, built_stored}
use Rattle.laying.proofs.store_rows.Goals as goal

pub loop-row-init : goal.loop-row-init
unfolding entries_of
loop-row-init c = record { stored = rw (add-zero, sub-zero); short = omega arith }

-- at most five bytes
pub store_built-length-requires : goal.store_built-length-requires
store_built-length-requires c =
    let a = c.args in
    let l = c.loop-row in
    built_most (entry_at a.list.now (l.row * 21)) (a.address + l.length) c.built_at-built.ensures

pub loop-row-preserved : goal.loop-row-preserved
unfolding rows_in
loop-row-preserved c =
    let a = c.args in
    let l = c.loop-row in
    let list = a.list.now in
    let here = entry_at list (l.row * 21) in
    let later = entries_from (rows_in list - (l.row + 1)) list ((l.row + 1) * 21) in
    let b = c.built_at-built.result in
    rw c.store_built-length.ensures.size (record {
      stored = ap (λ (d : List ℕ). put d (l.length + size_told b) (bytes_from later (a.address + (l.length + size_told b)))) c.store_built-length.ensures.buffer
          ∙ built_stored l.out a.address l.length here later b c.built_at-built.ensures
          ∙ ap (λ (es : List Record). put l.out l.length (bytes_from es (a.address + l.length))) (sym (rows_next (rows_in list) list l.row c.loop-row-test.true))
          ∙ l.invariant.stored;
      short = omega (arith, l.invariant.short, built_most here (a.address + l.length) c.built_at-built.ensures);
    })

pub returns : goal.returns
unfolding bytes_from rows_in
returns c =
    let a = c.args in
    let l = c.loop-row in
    sym (ap (λ (es : List Record). put l.out l.length (bytes_from es (a.address + l.length))) (entries_done (rows_in a.list.now - l.row) a.list.now (l.row * 21) (omega arith)))
    ∙ l.invariant.stored
