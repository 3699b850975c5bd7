-- The turns of the loops over a statement's items and over an instruction's bytes: what is left from a place on is the next and then the rest.
-- Assumes nothing.
use mathlib.Core.Path.{◌≡◌, ap, ◌∙◌}
use mathlib.Core.List.{List, [], ◌∷◌}
use Prim.Native.Nat.{ℕ, suc, ◌+◌, ◌-◌, ◌*◌, ◌<◌, ◌≤◌}
use native.Mathlib.Omega.{arith}
use lib.ListN.{length, take, drop, get_or, drop_of_length-le, length-take}
use lib.Seq.{length-take-le, get_or-take}
use Rattle.std.specs.Prelude.{Option, Result}
use Rattle.std.specs.Result.{result_err}
use Rattle.ground.specs.declared.refusals.Refusal.{Refusal}
use Rattle.values.specs.declared.Value.{Value}
use Rattle.ground.specs.Stores.{put}
use Rattle.ground.proofs.Stores.{drop_next}
use Rattle.records.specs.Objects.{byte_rows}
use Rattle.statements.specs.declared.Datum.{Datum}
use Rattle.statements.specs.Order.{earlier, earliest}
use Rattle.statements.specs.Listing.{item_at}
use Rattle.statements.specs.Asking.{datum_of, answers_from, refusals_in, value_in, rows_in}

-- the answers of the items from the k-th on
abbrev pub left : Datum → List ℕ → List ℕ → List ℕ → ℕ → ℕ → ℕ → ℕ → List (Result Value Refusal)
left kind items ns ls here first count k = answers_from kind items ns ls here (first + k) (count - k)

module _ (kind : Datum) (items ns ls : List ℕ) (here first count : ℕ) where
  pub left_none : (k : ℕ) → count ≤ k → left kind items ns ls here first count k ≡ []
  unfolding answers_from
  left_none k h = let e : count - k ≡ 0 = omega arith in rw e

  pub left_next :
      (k : ℕ) → k < count →
      left kind items ns ls here first count k
      ≡ datum_of kind ns ls here (item_at items (first + k)) ∷ left kind items ns ls here first count (k + 1)
  unfolding answers_from
  left_next k h =
      let e : count - k ≡ suc (count - (k + 1)) = omega arith in
      let f : first + k + 1 ≡ first + (k + 1) = omega arith in
      rw (e, f)

  pub left_all : left kind items ns ls here first count 0 ≡ answers_from kind items ns ls here first count
  left_all =
      let f : first + 0 ≡ first = omega arith in
      let n : count - 0 ≡ count = omega arith in
      rw (f, n)

-- a row of two numbers stored, and then the rest after it
pub row_turn :
    (d : List ℕ) {e : List ℕ} (a b place k : ℕ) (rest : List ℕ) → e ≡ put d (place + 2 * k) (a ∷ b ∷ []) →
    put e (place + 2 * (k + 1)) rest ≡ put d (place + 2 * k) (a ∷ b ∷ rest)
row_turn d a b place k rest q =
    let at : place + 2 * (k + 1) ≡ place + 2 * k + 1 + 1 = omega arith in
    rw (q, at)

module _ (kind : Datum) (items ns ls : List ℕ) (here first count : ℕ) where
  -- the refusal of the items from one on, where those after it are asked already
  pub refusal_turn :
      {n : ℕ} {why r : Option Refusal} {a : Result Value Refusal} (k : ℕ) → 0 < k → k ≤ count →
      why ≡ earliest (refusals_in (left kind items ns ls here first count k)) →
      n ≡ item_at items (first + (k - 1)) → a ≡ datum_of kind ns ls here n → r ≡ earlier (result_err a) why →
      r ≡ earliest (refusals_in (left kind items ns ls here first count (k - 1)))
  refusal_turn k some most asked item answer first_of =
      let next : k - 1 + 1 ≡ k = omega arith in
      let more = left_next kind items ns ls here first count (k - 1) (omega arith) in
      rw (first_of, answer, item, asked, more, next)

  -- the rows of the items from one on, where those before it are stored
  pub data_turn :
      {n : ℕ} {a : Result Value Refusal} (d : List ℕ) {e : List ℕ} (place k : ℕ) → k < count →
      n ≡ item_at items (first + k) → a ≡ datum_of kind ns ls here n →
      e ≡ put d (place + 2 * k) ((value_in a).number ∷ (value_in a).width ∷ []) →
      put e (place + 2 * (k + 1)) (rows_in (left kind items ns ls here first count (k + 1)))
      ≡ put d (place + 2 * k) (rows_in (left kind items ns ls here first count k))
  data_turn {n} {a} d place k some item answer stored =
      let more = left_next kind items ns ls here first count k some in
      row_turn d (value_in a).number (value_in a).width place k (rows_in (left kind items ns ls here first count (k + 1))) stored ∙ rw (answer, item, more)

-- the bytes from the k-th on
pub bytes_next :
    (bytes : List ℕ) (n k : ℕ) → k < n → n ≤ length bytes →
    byte_rows (drop k (take n bytes)) ≡ get_or bytes k 0 ∷ 8 ∷ byte_rows (drop (k + 1) (take n bytes))
bytes_next bytes n k h m =
    let e : length (take n bytes) ≡ n = length-take-le n bytes m in
    ap byte_rows (drop_next (take n bytes) k (omega arith))
    ∙ ap (λ (b : ℕ). b ∷ 8 ∷ byte_rows (drop (k + 1) (take n bytes))) (get_or-take n bytes k 0 h)

pub bytes_none : (bytes : List ℕ) (n k : ℕ) → n ≤ k → byte_rows (drop k (take n bytes)) ≡ []
bytes_none bytes n k h = ap byte_rows (drop_of_length-le (take n bytes) {i = k} (omega (arith, length-take n bytes)))
