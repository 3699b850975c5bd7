-- The answer, and what the buffer holds then.
-- Assumes nothing.
use borrow.Author.Tests.{ltb-true, ltb-false, le-ltb}
use mathlib.Core.Path.{◌≡◌, refl, sym, ap, ◌∙◌}
use mathlib.Core.Bool.{true, false}
use mathlib.Core.List.{List}
use Prim.Native.Nat.{ℕ, ◌≤◌}
use native.Mathlib.Omega.{arith}
use lib.Dec.{ltb}
use lib.ListN.{length}
use lib.Seq.{length-take-le}
use Rattle.std.specs.Prelude.{Result, Ok, Err, IfOk, IsOk}
use Rattle.ground.specs.declared.refusals.Refusal.{Refusal}
use Rattle.ground.specs.declared.refusals.Refusal.TheVariants.{NoRoom}
use Rattle.ground.specs.Stores.{Wrote}
use Rattle.ground.proofs.Choices.{pick_true, pick_false}
use Rattle.ground.proofs.Stores.{put_front, kept}
use Rattle.reader.specs.Answers.{onto}
use Rattle.listing.specs.Listing.{listing_of, too_short, listed_of, buffer_of, Counts}
use Rattle.listing.proofs.Bounds.{listing_length}

module _ (text d : List ℕ) (n : ℕ) (q : n ≡ length (listing_of text)) where
  -- the answer r and the buffer e fit the contract
  pub record Right (r : Result ℕ Refusal) (e : List ℕ) : Type 0 where
    pub value : r ≡ listed_of text (length d)
    pub after : e ≡ buffer_of text d
    pub counts : IfOk r (λ k. Counts k e)
    pub enough : 262158 ≤ length d → IsOk r

  -- the listing has no room, and nothing is stored
  pub no_room_lem : ltb (length d) n ≡ true → Right (Err NoRoom) d
  unfolding listed_of buffer_of too_short
  no_room_lem t =
      let s = ap (ltb (length d)) (sym q) ∙ t in
      record {
        value = sym (pick_true _ _ s);
        after = sym (pick_true _ _ s);
        counts = tt;
        enough = λ h. absurd (omega (arith, h, q, listing_length text, ltb-true (length d) n t));
      }

  -- the listing is stored
  pub shown : ltb (length d) n ≡ false → {m : ℕ} {e : List ℕ} → Wrote d 0 (listing_of text) m e → Right (Ok n) e
  unfolding listed_of buffer_of too_short onto
  shown t {m} {e} w =
      let s = ap (ltb (length d)) (sym q) ∙ t in
      let room = ltb-false (length d) n t in
      let there : n ≤ length e = omega (arith, room, kept w) in
      record {
        value = ap (λ (k : ℕ). Ok k) q ∙ sym (pick_false _ _ s);
        after = w.buffer ∙ put_front d (listing_of text) (omega (arith, q, room)) ∙ sym (pick_false _ _ s);
        counts = (there, sym (length-take-le n e there));
        enough = λ h. refl;
      }

-- a buffer of `ROOM` bytes always has room
pub room_enough : (text : List ℕ) (room : ℕ) → 262158 ≤ room → listed_of text room ≡ Ok (length (listing_of text))
unfolding listed_of too_short
room_enough text room h = pick_false _ _ (le-ltb room (length (listing_of text)) (omega (arith, h, listing_length text)))
