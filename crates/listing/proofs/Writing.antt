-- The laws of writing a listing: what is left to write, from where the writer is, leads to what the whole leads to.
-- Assumes nothing.
use mathlib.Core.Path.{◌≡◌, refl, sym, ◌∙◌}
use mathlib.Core.List.{List, [], ◌∷◌, ◌++◌}
use Prim.Native.Nat.{ℕ, ◌+◌, ◌*◌, ◌%◌, ◌≤◌}
use native.Mathlib.Omega.{arith}
use lib.Dec.{leb}
use lib.ListN.{length, length-append}
use Rattle.ground.specs.Stores.{Wrote}
use Rattle.ground.proofs.Stores.{rest}
use Rattle.ground.proofs.Choices.{by_pick}
use Rattle.listing.specs.Lines.{spaced, line_of, place_of, decimal, last_line}
use Rattle.listing.specs.Steps.{Leads}

-- nothing is written yet
pub leads_all : (d : List ℕ) (at : ℕ) (xs : List ℕ) → Leads d at xs d at xs
leads_all d at xs = record { size = refl; buffer = refl }

-- a part is written, of what was left
pub leads_on :
    {d e f : List ℕ} {at r m : ℕ} {all xs : List ℕ} (ys : List ℕ) →
    Leads d at all e r (xs ++ ys) → Wrote e r xs m f → Leads d at all f m ys
leads_on {xs = xs} ys l w = record {
  size = omega (arith, l.size, w.next, length-append xs ys);
  buffer = l.buffer ∙ sym (rest ys w);
}

-- what is left of what was left
pub leads_then : {d e f : List ℕ} {at r m : ℕ} {xs ys zs : List ℕ} → Leads d at xs e r ys → Leads e r ys f m zs → Leads d at xs f m zs
leads_then l k = record { size = l.size ∙ k.size; buffer = l.buffer ∙ k.buffer }

-- all that was left is written
pub leads_done : {d e f : List ℕ} {at r m : ℕ} {all xs : List ℕ} → Leads d at all e r xs → Wrote e r xs m f → Wrote d at all m f
leads_done l w = record { next = omega (arith, l.size, w.next); buffer = w.buffer ∙ sym l.buffer }

-- nothing is left
pub leads_end : {d e : List ℕ} {at r : ℕ} {all : List ℕ} → Leads d at all e r [] → Wrote d at all r e
leads_end l = record { next = omega (arith, l.size); buffer = sym l.buffer }

-- ---- how long the parts of a line are
pub spaced_length : (bs : List ℕ) → length (spaced bs) ≡ 3 * length bs
spaced_length [] = refl
spaced_length (b ∷ bs) = omega (arith, spaced_length bs)

pub line_length : (address : ℕ) (bs : List ℕ) → length (line_of address bs) ≡ 5 + 3 * length bs
unfolding line_of
line_length address bs = omega (arith, length-append (spaced bs) (10 ∷ []), spaced_length bs)

pub place_short : (weight n : ℕ) → length (place_of weight n) ≤ 1
unfolding place_of
place_short weight n = by_pick (λ (xs : List ℕ). length xs ≤ 1) (leb weight n) (omega arith) (omega arith)

pub decimal_short : (n : ℕ) → length (decimal n) ≤ 5
unfolding decimal
decimal_short n =
    let four = place_of 10 n ++ ((48 + n % 10) ∷ []) in
    let three = place_of 100 n ++ four in
    let two = place_of 1000 n ++ three in
    omega (
      arith,
      length-append (place_of 10000 n) two,
      length-append (place_of 1000 n) three,
      length-append (place_of 100 n) four,
      length-append (place_of 10 n) ((48 + n % 10) ∷ []),
      place_short 10000 n,
      place_short 1000 n,
      place_short 100 n,
      place_short 10 n,
    )

pub last_short : (word : List ℕ) (n : ℕ) → length (last_line word n) ≤ length word + 6
unfolding last_line
last_short word n = omega (arith, length-append word (decimal n ++ (10 ∷ [])), length-append (decimal n) (10 ∷ []), decimal_short n)
