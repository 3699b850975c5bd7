-- What the writer's answers tell.
-- Assumes nothing.
use mathlib.Core.Path.{◌≡◌, refl, ◌∙◌}
use mathlib.Core.Bool.{Bool, true, false}
use mathlib.Core.List.{List}
use Prim.Native.Nat.{ℕ, ◌/◌, ◌≤◌}
use native.Mathlib.Omega.{arith}
use borrow.Author.Tests.{ltb-true, ltb-false}
use lib.Dec.{ltb}
use lib.ListN.{length}
use Rattle.std.specs.Prelude.{Result, Ok, Err}
use Rattle.ground.specs.Choice.{pick}
use Rattle.ground.specs.Stores.{put}
use Rattle.ground.specs.declared.refusals.Refusal.{Refusal}
use Rattle.ground.specs.declared.refusals.Refusal.TheVariants.{Unknown, NoRoom, Beyond}
use Rattle.ground.proofs.Stores.{put_front}
use Rattle.ground.proofs.Tests.{neither_right}
use Rattle.records.specs.Objects.{objects_of, bad_values, bad_objects, faulty, too_far}
use Rattle.records.specs.Text.{text_of}
use Rattle.records.specs.Steps.{Walked}
use Rattle.records.specs.Written.{written_of, buffer_of}

-- no refusal: no test passed
pub record Accepted (os vs : List ℕ) (room n : ℕ) : Type 0 where
  pub counted : bad_objects (length vs / 2) os ≡ false
  pub near : too_far (objects_of os vs) ≡ false
  pub fits : length (text_of os vs) ≤ room
  pub long : n ≡ length (text_of os vs)

-- three tests in order, and the answer of the first that passes
passed :
    (a b c : Bool) (n m : ℕ) →
    pick {A = Result ℕ Refusal} a (Err Unknown) (pick b (Err Beyond) (pick c (Err NoRoom) (Ok n))) ≡ Ok m →
    (a ≡ false) × (b ≡ false) × (c ≡ false) × (m ≡ n)
unfolding pick
passed true b c n m e = cc
passed false true c n m e = cc
passed false false true n m e = cc
passed false false false n m e = (refl, refl, refl, cc)

-- what is not faulty counts no value that is not there
pub counts_right : (os vs : List ℕ) → faulty os vs ≡ false → bad_objects (length vs / 2) os ≡ false
unfolding faulty
counts_right os vs = neither_right (bad_values vs) (bad_objects (length vs / 2) os)

pub accepted : (os vs : List ℕ) (room n : ℕ) → written_of os vs room ≡ Ok n → Accepted os vs room n
unfolding written_of
accepted os vs room n e =
    let p = passed (faulty os vs) (too_far (objects_of os vs)) (ltb room (length (text_of os vs))) (length (text_of os vs)) n e in
    record { counted = counts_right os vs p.0; near = p.1; fits = ltb-false room (length (text_of os vs)) p.2; long = p.3 }

-- a walk with room for the text writes it
stored : {d t e : List ℕ} {room r : ℕ} (over : Bool) → ltb room r ≡ over → Walked d t room r e → length t ≤ room → e ≡ put d 0 t
stored {room = room} {r = r} true q w h = absurd (omega (arith, w.over (ltb-true room r q)))
stored {room = room} {r = r} false q w h = (w.done (ltb-false room r q)).1

pub buffer_written :
    (os vs d : List ℕ) {e : List ℕ} {n r : ℕ} → written_of os vs (length d) ≡ Ok n → Walked d (text_of os vs) n r e → e ≡ buffer_of os vs d
unfolding buffer_of
buffer_written os vs d {n = n} {r = r} ok w =
    let a = accepted os vs (length d) n ok in
    rw ok (stored (ltb n r) refl w (omega (arith, a.long)) ∙ put_front d (text_of os vs) a.fits)
