-- What an answer says of the lent buffer.
-- Assumes nothing.
use mathlib.Core.Path.{◌≡◌, refl, sym, ap, ◌∙◌}
use mathlib.Core.List.{List}
use Prim.Native.Nat.{ℕ, ◌≤◌}
use lib.ListN.{length}
use Rattle.std.specs.Prelude.{Result, Ok, Err}
use Rattle.ground.specs.declared.refusals.Refusal.{Refusal}
use Rattle.ground.specs.Stores.{put}
use Rattle.ground.proofs.Stores.{put_front}
use Rattle.laying.specs.Entries.{entries_of}
use Rattle.laying.specs.Laying.{lay_of, answer_of, buffer_of}
use Rattle.laying.specs.Exactly.{bytes_from}
use Rattle.laying.proofs.Exactly.{laid_exactly, size_exactly}

-- a size: the builds' bytes are at its front, and the rest is as it was
pub buffer_laid :
    (list : List ℕ) (address n : ℕ) (d : List ℕ) →
    address ≤ 65536 →
    answer_of (lay_of list address (length d)) ≡ Ok n →
    put d 0 (bytes_from (entries_of list) address) ≡ buffer_of (lay_of list address (length d)) d
buffer_laid list address n d h z =
    let bytes = bytes_from (entries_of list) address in
    let e = size_exactly list address (length d) h z in
    put_front d bytes ((laid_exactly list address (length d) h bytes).0 e).1.enough ∙ ap (λ (o : Result (List ℕ) Refusal). buffer_of o d) (sym e)

-- a refusal: it is as it was
pub buffer_kept : (o : Result (List ℕ) Refusal) (refusal : Refusal) (d : List ℕ) → answer_of o ≡ Err refusal → d ≡ buffer_of o d
buffer_kept (Ok bytes) refusal d e = cc
buffer_kept (Err n) refusal d e = refl
