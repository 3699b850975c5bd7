-- What is written is read back: a digit, a byte, a line, and the text of records.
-- Assumes nothing.
use borrow.Author.Tests.{lt-ltb, eq-eqb}
use mathlib.Core.Path.{◌≡◌, refl, ap, ◌∙◌}
use mathlib.Core.Bool.{true, ◌&&◌, or-true}
use mathlib.Core.List.{List, [], ◌∷◌, ◌++◌, append_assoc, append-nil}
use Prim.Native.Nat.{ℕ, ◌+◌, ◌*◌, ◌/◌, ◌%◌, ◌<◌}
use native.Mathlib.Omega.{arith}
use lib.Dec.{ltb, eqb, eqb→eq}
use lib.ListN.{length, length-append}
use lib.Seq.{drop_at, take-append_seam}
use Rattle.std.proofs.Common.{Some}
use Rattle.ground.specs.Choice.{pick}
use Rattle.ground.proofs.Choices.{pick_true}
use Rattle.ground.proofs.Ranges.{below}
use Rattle.records.specs.Hex.{hex_of, hexes}
use Rattle.records.specs.Line.{sum, check_of, body, line}
use Rattle.records.specs.Text.{Rec, text}
use Rattle.records.specs.Fine.{Each, Bytes}
use Rattle.records.proofs.Writing.{length_hexes, sum_append}
use Rattle.records.proofs.Fine.{bytes_append}
use Rattle.reader.specs.Digits.{digit_of, pair_of, bytes_in, behind}
use Rattle.reader.specs.Lines.{count_of, address_of, type_of, data_of, sound, ends_line, after_end, Front, Record, EndRecord, NoRecord, record_of, line_in, Good, more, found, records_in}
use Rattle.reader.proofs.Records.{records_on}

-- one test at sixteen numbers
digit_back : (n : ℕ) → n < 16 → digit_of (hex_of n) ≡ n
unfolding digit_of hex_of pick
digit_back n h = eqb→eq (digit_of (hex_of n)) n (below (λ (k : ℕ). eqb (digit_of (hex_of k)) k) 16 tt n h)

pair_back : (b : ℕ) → b < 256 → pair_of (hex_of (b / 16)) (hex_of (b % 16)) ≡ Some b
unfolding pair_of pick
pair_back b h =
    rw
    (digit_back (b / 16) (omega arith), digit_back (b % 16) (omega arith), lt-ltb (b / 16) 16 (omega arith), lt-ltb (b % 16) 16 (omega arith))
    (let e : 16 * (b / 16) + b % 16 ≡ b = omega arith in ap Some e)

bytes_back : (bs r : List ℕ) → Bytes bs → bytes_in (hexes bs ++ r) ≡ bs ++ bytes_in r
bytes_back [] r w = refl
bytes_back (b ∷ bs) r w = rw (pair_back b w.0, bytes_back bs r w.1)

-- a line feed is no digit
feed_none : (r : List ℕ) → bytes_in (10 ∷ r) ≡ []
unfolding pair_of digit_of pick
feed_none [] = refl
feed_none (x ∷ r) = refl

-- the digits of a line, up to its line feed
module _ (bs r : List ℕ) (w : Bytes bs) where
  digits_back : bytes_in (hexes bs ++ (10 ∷ r)) ≡ bs
  digits_back = bytes_back bs (10 ∷ r) w ∙ rw (feed_none r) (append-nil bs)

  behind_back : behind (hexes bs ++ (10 ∷ r)) ≡ 10 ∷ r
  unfolding behind
  behind_back = rw digits_back (drop_at (hexes bs) (10 ∷ r) (2 * length bs) (length_hexes bs))

-- the check makes the sum 0
check_zero : (bs : List ℕ) → sum (bs ++ (check_of bs ∷ [])) % 256 ≡ 0
unfolding check_of
check_zero bs = omega (arith, sum_append bs (check_of bs ∷ []))

check_small : (bs : List ℕ) → check_of bs < 256
unfolding check_of
check_small bs = omega arith

-- a colon, and what a line feed ends
by_colon : (t : List ℕ) → line_in (58 ∷ t) ≡ pick (sound (bytes_in t) && ends_line (behind t)) (record_of (bytes_in t) (after_end (behind t))) NoRecord
unfolding line_in
by_colon t = refl

feed_ends : (r : List ℕ) → ends_line (10 ∷ r) ≡ true
unfolding ends_line
feed_ends r = or-true (eqb (length (10 ∷ r)) 0)

after_feed : (r : List ℕ) → after_end (10 ∷ r) ≡ r
unfolding after_end pick
after_feed r = refl

type_data : (a : ℕ) (bs : List ℕ) → 0 < length bs → (eqb (type_of (body 0 a bs ++ (check_of (body 0 a bs) ∷ []))) 0 && ltb 0 (count_of (body 0 a bs ++ (check_of (body 0 a bs) ∷ [])))) ≡ true
unfolding type_of count_of body
type_data a bs h = lt-ltb 0 (length bs) h

-- a line that was written is sound, and its parts are those that it was written with
module _ (kind address : ℕ) (bytes : List ℕ) (hk : kind < 256) (ha : address < 65536) (hn : length bytes < 256) (w : Bytes bytes) where
  abbrev whole : List ℕ
  whole = body kind address bytes ++ (check_of (body kind address bytes) ∷ [])

  whole_bytes : Bytes whole
  unfolding body
  whole_bytes =
      bytes_append (body kind address bytes) (check_of (body kind address bytes) ∷ [])
      (hn, (omega arith, (omega arith, (hk, w))))
      (check_small (body kind address bytes), tt)

  sound_back : sound whole ≡ true
  unfolding sound count_of body
  sound_back =
      rw (check_zero (body kind address bytes), eq-eqb (length whole) (length bytes + 5) (omega (arith, length-append bytes (check_of (body kind address bytes) ∷ []))))

  address_back : address_of whole ≡ address
  unfolding address_of body
  address_back = omega arith

  data_back : data_of whole ≡ bytes
  unfolding data_of count_of body
  data_back = take-append_seam bytes (check_of (body kind address bytes) ∷ [])

  line_form : (r : List ℕ) → line kind address bytes ++ r ≡ 58 ∷ (hexes whole ++ (10 ∷ r))
  unfolding line
  line_form r = ap (λ (l : List ℕ). 58 ∷ l) (append_assoc (hexes whole) (10 ∷ []) r)

  line_back : (r : List ℕ) → line_in (line kind address bytes ++ r) ≡ record_of whole r
  line_back r =
      ap line_in (line_form r)
      ∙ by_colon (hexes whole ++ (10 ∷ r))
      ∙ rw (digits_back whole r whole_bytes, behind_back whole r whole_bytes, sound_back, feed_ends r) (pick_true _ _ refl)
      ∙ ap (record_of whole) (after_feed r)

-- a record that a line can say: 1 to 255 bytes, at an address
pub record Readable (r : Rec) : Type 0 where
  pub place : r.address < 65536
  pub some : 0 < length r.bytes
  pub few : length r.bytes < 256
  pub right : Bytes r.bytes

-- its line is read back, with any text after it; and so is the line of the end record

pub data_line_back : (r : Rec) (after : List ℕ) → Readable r → line_in (line 0 r.address r.bytes ++ after) ≡ Record r after
unfolding record_of
data_line_back r after f =
    let a = r.address in
    let bs = r.bytes in
    line_back 0 a bs (omega arith) f.place f.few f.right after
    ∙ pick_true _ _ (type_data a bs f.some)
    ∙ rw (address_back 0 a bs (omega arith) f.place f.few f.right, data_back 0 a bs (omega arith) f.place f.few f.right)

pub end_line_back : line_in (line 1 0 []) ≡ EndRecord
unfolding line body check_of hex_of line_in record_of sound ends_line after_end behind count_of address_of type_of pair_of digit_of pick
end_line_back = refl

-- the text of records is read as those records
pub read_back : (rs : List Rec) → Each Readable rs → records_in (text rs) ≡ Good rs
read_back [] f = records_on (text []) ∙ ap (λ (x : Front). found x records_in) end_line_back
read_back (r ∷ rs) f =
    records_on (text (r ∷ rs))
    ∙ ap (λ (x : Front). found x records_in) (data_line_back r (text rs) f.0)
    ∙ ap (more r) (read_back rs f.1)
