-- Each contract leaves one answer, and one content of what is lent.
-- Assumes nothing.
use mathlib.Core.Path.{◌≡◌, refl, sym, ◌∙◌}
use mathlib.Core.List.{List}
use Prim.Native.Nat.{ℕ}
use seplogic.Ra.Ura.{Ura}
use base.Logic.{SProp}
use prog.Memory.{Memory}
use prog.Routine.{Routine}
use types.Logic.{Logic}
use contract.Lifetimes.{Lfts}
use contract.Monad.{Fun, fact}
use Rattle.std.proofs.Common.{Result}
use Rattle.ground.specs.declared.refusals.Refusal.{Refusal}
use Rattle.ground.proofs.Single.{Single, SingleLeaving, same_both}
use Rattle.reader.proofs.digit.Kinds as digit_kinds
use Rattle.reader.proofs.digit.Reads as digit
use Rattle.reader.proofs.read_text.Kinds as read_text_kinds
use Rattle.reader.proofs.read_text.Reads as read_text
use Rattle.reader.specs.Ahead.{RunReadIs}
use Rattle.reader.specs.declared.runs.Run.{Run}
use Rattle.reader.specs.Held.{reader_at}
use Rattle.reader.specs.contracts.held.Reader.begin as begin
use Rattle.reader.specs.contracts.held.Reader.place as place
use Rattle.reader.specs.contracts.held.Reader.next_run as next_run
use Rattle.reader.specs.contracts.held.Reader.moved as moved
use Rattle.reader.specs.contracts.held.Reader.first_run as first_run
use Rattle.reader.proofs.runs.read_run.Kinds as read_run_kinds
use Rattle.reader.proofs.runs.read_run.Reads as read_run
use Rattle.reader.proofs.runs.run_at.Kinds as run_at_kinds
use Rattle.reader.proofs.runs.run_at.Reads as run_at

pub digit_single : Single 0 digit_kinds.ps digit_kinds.r digit.Post
digit_single κs a x y s t p q = p ∙ sym q

pub read_text_single : SingleLeaving {B = List ℕ × List ℕ} 3 read_text_kinds.ps read_text_kinds.r (λ κs s. (s.1.0.now, s.1.1.0.now)) read_text.Post
read_text_single κs a x y s t p q = (p.answer ∙ sym q.answer, same_both (p.bytes ∙ sym q.bytes) (p.rows ∙ sym q.rows))

pub read_run_only : {text : List ℕ} {at : ℕ} {d e f : List ℕ} {r q : Result Run Refusal} → RunReadIs text at d r e → RunReadIs text at d q f → (r ≡ q) × (e ≡ f)
read_run_only p q = (p.answer ∙ sym q.answer, p.bytes ∙ sym q.bytes)

pub read_run_single : SingleLeaving 2 read_run_kinds.ps read_run_kinds.r (λ κs s. s.1.1.0.now) read_run.Post
read_run_single κs a x y s t p q = read_run_only p q

pub run_at_single : Single 1 run_at_kinds.ps run_at_kinds.r run_at.Post
run_at_single κs a x y s t p q = p ∙ sym q

-- the clause of a function that holds a reference says of its result that it is x, and nothing else
abbrev Says : {M : Type 1} {R : Type 0} (𝓤 : Ura M) → (R → SProp 𝓤) → R → Type 2
Says 𝓤 P x = (r : _) → P r ≡ fact 𝓤 (r ≡ x)

module _ {M : Type 1} {𝓤 : Ura M} (𝓛 : Logic 𝓤) (mem : Memory → SProp 𝓤) (run : Routine → Fun 𝓤) (κs : Lfts 1) where
  pub begin_single : (s : _) (s' : _) → Says 𝓤 (begin.ensures-1 𝓛 κs mem run s s') (reader_at s'.entry 0)
  begin_single s s' r = refl

  pub place_single : (d : _) (d' : _) → Says 𝓤 (place.ensures-1 𝓛 κs mem run d d') d'.entry.at
  place_single d d' r = refl

  pub moved_single : (d : _) (at : ℕ) (d' : _) (at' : _) → Says 𝓤 (moved.ensures-1 𝓛 κs mem run d at d' at') (reader_at d'.entry.text at)
  moved_single d at d' at' r = refl

-- the clause of `next_run` is that of `read_run`, of the text and the place that the reader keeps; and no second answer and content fit that
pub next_run_single :
    {M : Type 1} {𝓤 : Ura M} (𝓛 : Logic 𝓤) (mem : Memory → SProp 𝓤) (run : Routine → Fun 𝓤) (κs : Lfts 2) (d : _) (x : _) (d' : _) (x' : _) (r : Result Run Refusal)
    → next_run.ensures-1 𝓛 κs mem run d x d' x' r ≡ fact 𝓤 (RunReadIs d'.entry.text.now d'.entry.at x'.entry.now r x'.exit.now)
next_run_single 𝓛 mem run κs d x d' x' r = refl

-- and that of `first_run` at the start of a text
pub first_run_single :
    {M : Type 1} {𝓤 : Ura M} (𝓛 : Logic 𝓤) (mem : Memory → SProp 𝓤) (run : Routine → Fun 𝓤) (κs : Lfts 2) (t : _) (x : _) (t' : _) (x' : _) (r : Result Run Refusal)
    → first_run.ensures-1 𝓛 κs mem run t x t' x' r ≡ fact 𝓤 (RunReadIs t'.entry.now 0 x'.entry.now r x'.exit.now)
first_run_single 𝓛 mem run κs t x t' x' r = refl
