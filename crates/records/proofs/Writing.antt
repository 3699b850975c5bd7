-- The laws of lines: how long a line and a text are, and how the writings of a line's bytes follow one another.
-- Assumes nothing.
use mathlib.Core.Path.{◌≡◌, refl}
use mathlib.Core.List.{List, [], ◌∷◌, ◌++◌, map}
use Prim.Native.Nat.{ℕ, ◌+◌, ◌*◌, ◌<◌, ◌≤◌}
use native.Mathlib.Omega.{arith}
use lib.ListN.{length, length-append, get_or, set, take}
use Rattle.std.proofs.lemmas.List.{take_more, length-take-le}
use Rattle.ground.specs.Stores.{Wrote}
use Rattle.ground.specs.Words.{high, low}
use Rattle.ground.proofs.Stores.{wrote_one, and_then}
use Rattle.records.specs.Hex.{hexes}
use Rattle.records.specs.Line.{sum, check_of, body, line}
use Rattle.records.specs.Penned.{Penned}
use Rattle.records.specs.Text.{Rec, text}
use Rattle.records.specs.declared.lines.Pen.{Pen}

pub length_hexes : (bs : List ℕ) → length (hexes bs) ≡ 2 * length bs
length_hexes [] = refl
length_hexes (b ∷ bs) = omega (arith, length_hexes bs)

pub hexes_append : (bs cs : List ℕ) → hexes (bs ++ cs) ≡ hexes bs ++ hexes cs
hexes_append [] cs = refl
hexes_append (b ∷ bs) cs = rw (hexes_append bs cs)

pub sum_append : (bs cs : List ℕ) → sum (bs ++ cs) ≡ sum bs + sum cs
sum_append [] cs = omega arith
sum_append (b ∷ bs) cs = omega (arith, sum_append bs cs)

pub length_line : (kind address : ℕ) (bs : List ℕ) → length (line kind address bs) ≡ 12 + 2 * length bs
unfolding line body
length_line kind address bs =
    let check = check_of (body kind address bs) ∷ [] in
    omega (
      arith,
      length-append (58 ∷ hexes (body kind address bs ++ check)) (10 ∷ []),
      length_hexes (body kind address bs ++ check),
      length-append (body kind address bs) check,
    )

-- a caller can size a buffer by the records: 2,048 of 32 bytes, which are 65,536, take 155,660 characters
pub length_text : (rs : List Rec) → length (text rs) ≡ 12 + sum (map (λ (r : Rec). 12 + 2 * length r.bytes) rs)
length_text [] = length_line 1 0 []
length_text (r ∷ rs) =
    omega (arith, length-append (line 0 r.address r.bytes) (text rs), length_line 0 r.address r.bytes, length_text rs)

pub penned_then :
    {d e f : List ℕ} {s m r : Pen} {bs cs : List ℕ} →
    Penned d s bs m e → Penned e m cs r f → Penned d s (bs ++ cs) r f
penned_then {bs = bs} {cs = cs} v w = record {
  digits = rw (hexes_append bs cs) (and_then v.digits w.digits);
  total = omega (arith, v.total, w.total, sum_append bs cs);
}

-- the bytes of a list, one after the other
pub penned_none : (d : List ℕ) (s : Pen) → s.sum < 256 → Penned d s [] s d
penned_none d s h = record { digits = record { next = omega arith; buffer = refl }; total = omega arith }

pub penned_next :
    {d e f : List ℕ} {s m r : Pen} {i : ℕ} (bs : List ℕ) → i < length bs →
    Penned d s (take i bs) m e → Penned e m (get_or bs i 0 ∷ []) r f → Penned d s (take (i + 1) bs) r f
penned_next bs h v w = rw (take_more bs _ 0 h) (penned_then v w)

pub penned_at : {d e : List ℕ} {s m : Pen} {i : ℕ} (bs : List ℕ) → i ≤ length bs → Penned d s (take i bs) m e → m.at ≡ s.at + 2 * i
penned_at {i = i} bs h w = omega (arith, w.digits.next, length_hexes (take i bs), length-take-le i bs h)

-- the parts of a line: the colon, the bytes, their check, and the line feed
pub line_wrote :
    (kind address : ℕ) (bs : List ℕ) {d d' e f g h : List ℕ} {at : ℕ} {m r t : Pen} →
    d' ≡ set d at 58 →
    Penned d' (record { at = at + 1; sum = 0 }) (length bs ∷ high address ∷ low address ∷ kind ∷ []) m e →
    Penned e m bs r f → Penned f r (check_of (r.sum ∷ []) ∷ []) t g → h ≡ set g t.at 10 →
    Wrote d at (line kind address bs) (t.at + 1) h
unfolding line body check_of
line_wrote kind address bs {r = r} colon u v w feed =
    let all = penned_then u v in
    let same : check_of (r.sum ∷ []) ≡ check_of (body kind address bs) = omega (arith, all.total) in
    and_then (wrote_one colon) (and_then (rw same at (penned_then all w).digits) (wrote_one feed))
