-- Bytes stored as values: what is left of them, stored after those that are, is the whole.
-- Assumes nothing.
use mathlib.Core.Path.{◌≡◌, refl, sym, ap, ◌∙◌}
use mathlib.Core.List.{List}
use Prim.Native.Nat.{ℕ, ◌+◌, ◌*◌, ◌≤◌, ◌<◌}
use native.Mathlib.Omega.{arith}
use lib.ListN.{length, get_or, set, drop, length-set, drop_of_length-le, take}
use lib.Seq.{take_at}
use Rattle.ground.specs.Stores.{put}
use Rattle.ground.proofs.Stores.{drop_next, put_front}
use Rattle.records.specs.Objects.{byte_rows}
use Rattle.records.proofs.ByteRows.{byte_rows_length}

pub record Storing (bytes d e : List ℕ) (i : ℕ) : Type 0 where
  pub whole : put e (2 * i) (byte_rows (drop i bytes)) ≡ put d 0 (byte_rows bytes)
  pub size : length e ≡ length d

pub storing_first : (bytes d : List ℕ) → Storing bytes d d 0
storing_first bytes d = record { whole = refl; size = refl }

module _ (bytes d e : List ℕ) (i : ℕ) (s : Storing bytes d e i) where
  pub storing_more :
      (f g : List ℕ) → i < length bytes → f ≡ set e (2 * i) (get_or bytes i 0) → g ≡ set f (2 * i + 1) 8 →
      Storing bytes d g (i + 1)
  storing_more f g h p q =
      let b = get_or bytes i 0 in
      let next : 2 * (i + 1) ≡ 2 * i + 1 + 1 = omega arith in
      let is : g ≡ set (set e (2 * i) b) (2 * i + 1) 8 = q ∙ ap (λ (l : List ℕ). set l (2 * i + 1) 8) p in
      record {
        whole = rw (next, is) (ap (λ (l : List ℕ). put e (2 * i) (byte_rows l)) (sym (drop_next bytes i h)) ∙ s.whole);
        size = ap length is ∙ length-set (set e (2 * i) b) (2 * i + 1) 8 ∙ length-set e (2 * i) b ∙ s.size;
      }

  pub storing_end : length bytes ≤ i → e ≡ put d 0 (byte_rows bytes)
  storing_end h = ap (λ (l : List ℕ). put e (2 * i) (byte_rows l)) (sym (drop_of_length-le bytes {i = i} h)) ∙ s.whole

-- the front of the table then holds them
pub front_values : (bytes d e : List ℕ) → 2 * length bytes ≤ length d → e ≡ put d 0 (byte_rows bytes) → take (2 * length bytes) e ≡ byte_rows bytes
front_values bytes d e h p =
    let n = byte_rows_length bytes in
    ap (take (2 * length bytes)) (p ∙ put_front d (byte_rows bytes) (omega arith))
    ∙ take_at (byte_rows bytes) (drop (length (byte_rows bytes)) d) (2 * length bytes) n
