-- `joltwagon::settling::jw_settle` meets its contract.
-- Assumes nothing.
use mathlib.Core.Path.{ap, ◌∙◌}
use Prim.Native.Nat.{ℕ}
use Rattle.std.specs.Result.{result_err}
use Rattle.passes.specs.declared.Settled.{Settled}
use Rattle.joltwagon.specs.Settling.{with_passes, number_in}
use Rattle.joltwagon.proofs.settling.jw_settle.Goals as goal

pub returns : goal.returns
returns c =
    let s = c.settle-settled.ensures in
    let n = c.number_in.ensures ∙ ap number_in c.err.ensures.value in
    record {
      value = c.with_passes.ensures ∙ ap (λ (k : ℕ). with_passes k c.settle-settled.result.passes) n
          ∙ ap (λ (x : Settled). with_passes (number_in (result_err x.end)) x.passes) s.answer;
      labels_after = s.table;
    }
