-- The two loops of the walk: what holds at the head of each, how a turn keeps it, and where their ways out meet.
-- Assumes nothing.
use mathlib.Core.Path.{◌≡◌, refl, sym, ap, ◌∙◌}
use mathlib.Core.Bool.{false}
use mathlib.Core.List.{List, [], ◌∷◌, ◌++◌, map}
use Prim.Native.Nat.{ℕ, ◌+◌, ◌-◌, ◌*◌, ◌/◌, ◌≤◌, ◌<◌}
use native.Mathlib.Omega.{arith}
use lib.ListN.{length, length-append, get_or, take, drop}
use Rattle.ground.specs.Stores.{Wrote}
use Rattle.records.specs.Objects.{bytes_of, data_of, objects_of, bad_objects, too_far}
use Rattle.records.specs.Text.{Event, Start, Byte, events}
use Rattle.records.specs.Steps.{Present, first, ahead, Goes, Along, Passed, Walked}
use Rattle.records.proofs.Tables.{data_next, good_next, count_with, count_without, Sound, sound, events_with, events_without, near_without}

pub along_here : (d : List ℕ) (s : Present) (es : List Event) → s.n < 32 → length s.bytes ≡ 32 → Along d s es d s es
along_here d s es h l = record { size = refl; buffer = refl; small = h; whole = l; long = refl }

pub along_then :
    {d e f : List ℕ} {s r t : Present} {es fs gs : List Event} →
    Along d s es e r fs → Along e r fs f t gs → Along d s es f t gs
along_then v w = record {
  size = w.size ∙ v.size;
  buffer = w.buffer ∙ v.buffer;
  small = w.small;
  whole = w.whole;
  long = w.long ∙ v.long;
}

pub along_goes :
    {d e : List ℕ} {s r : Present} {n : ℕ} (more : List Event → List Event) (es : List Event) →
    Goes d s more n r e → length e ≡ length d → Along d s (more es) e r es
along_goes more es g l = record { size = g.size es; buffer = g.buffer es; small = g.small; whole = g.whole; long = l }

-- the events of some values, and then es
abbrev pub values_then : List ℕ → List Event → List Event
values_then own es = map Byte (data_of own) ++ es

-- the inner loop: some values are left of an object
pub record Inner (room : ℕ) (d : List ℕ) (s₀ : Present) (own₀ : List ℕ) (es : List Event) (e : List ℕ) (s : Present) (own : List ℕ) : Type 0 where
  pub way : Along d s₀ (values_then own₀ es) e s (values_then own es)
  pub place : s.start + s.n + length (data_of own) ≤ 65536
  pub within : s.at ≤ room

bytes_then :
    (bs cs : List ℕ) (es : List Event) → map Byte (bs ++ cs) ++ es ≡ map Byte bs ++ (map Byte cs ++ es)
bytes_then [] cs es = refl
bytes_then (b ∷ bs) cs es = ap (λ (l : List Event). Byte b ∷ l) (bytes_then bs cs es)

module _ {room : ℕ} {d : List ℕ} {s₀ : Present} {own₀ : List ℕ} {es : List Event} {e : List ℕ} {s : Present} (own : List ℕ) (w : Inner room d s₀ own₀ es e s own) (some : 2 ≤ length own) where
  abbrev value : List ℕ
  value = bytes_of (get_or own 0 0) (get_or own 1 0)

  abbrev more : List ℕ
  more = take (length own - 2) (drop 2 own)

  parts_size : length (data_of own) ≡ length value + length (data_of more)
  parts_size = ap length (data_next own some) ∙ length-append value (data_of more)

  -- the next value has its addresses
  pub value_near : s.start + s.n + length value ≤ 65536
  value_near = omega (arith, w.place, parts_size)

  module _ {f : List ℕ} {r : Present} (g : Goes e s (λ fs. map Byte value ++ fs) (s.start + s.n + length value) r f) (l : length f ≡ length e) where
    -- the way over the value
    pub value_way : Along d s₀ (values_then own₀ es) f r (values_then more es)
    value_way =
        let split = ap (λ (bs : List ℕ). map Byte bs ++ es) (data_next own some) ∙ bytes_then value (data_of more) es in
        along_then (rw split at w.way) (along_goes (λ fs. map Byte value ++ fs) (values_then more es) g l)

    pub inner_again : r.at ≤ room → Inner room d s₀ own₀ es f r more
    inner_again within = record { way = value_way; place = omega (arith, w.place, g.place, parts_size); within = within }

-- the outer loop: some objects are left, and values for them
pub record Outer (os vs : List ℕ) (room : ℕ) (d : List ℕ) (s₀ : Present) (es : List Event) (e : List ℕ) (s : Present) : Type 0 where
  pub way : Along d s₀ es e s (events (objects_of os vs))
  pub good : bad_objects (length vs / 2) os ≡ false
  pub near : too_far (objects_of os vs) ≡ false
  pub place : s.start + s.n ≤ 65536
  pub within : s.at ≤ room

pub passed_over :
    {room : ℕ} {d : List ℕ} {s₀ : Present} {es : List Event} {e : List ℕ} {s : Present} {fs : List Event} →
    Along d s₀ es e s fs → room < s.at → Passed d s₀ es room s e
passed_over w h = record {
  going = λ g. absurd (omega arith);
  stopped = λ _. omega (arith, w.size);
  whole = w.whole;
  long = w.long;
}

few_objects : (os vs : List ℕ) → length os < 3 → objects_of os vs ≡ []
few_objects [] vs h = refl
few_objects (a ∷ []) vs h = refl
few_objects (a ∷ b ∷ []) vs h = refl
few_objects (a ∷ b ∷ c ∷ os) vs h = absurd (omega arith)

few_values : (vs : List ℕ) → length vs < 2 → data_of vs ≡ []
few_values [] h = refl
few_values (v ∷ []) h = refl
few_values (v ∷ w ∷ vs) h = absurd (omega arith)

module _ {room : ℕ} {d : List ℕ} {s₀ : Present} {es : List Event} {e : List ℕ} {s : Present} (os vs : List ℕ) (w : Outer os vs room d s₀ es e s) where
  pub passed_all : length os < 3 → Passed d s₀ es room s e
  passed_all h = record {
    going = λ _. (rw (ap events (few_objects os vs h)) at w.way, w.place);
    stopped = λ g. absurd (omega (arith, w.within));
    whole = w.way.whole;
    long = w.way.long;
  }

  module _ (h : 3 ≤ length os) where
    abbrev others : List ℕ
    others = take (length os - 3) (drop 3 os)

    -- an object without data
    pub outer_without : (get_or os 0 0 ≡ 1 → ⊥) → Outer others vs room d s₀ es e s
    outer_without t = record {
      way = rw (events_without os vs h t) at w.way;
      good = rw (sym (count_without (get_or os 0 0) (get_or os 2 0) t)) at (good_next os vs h w.good);
      near = rw (near_without os vs h t) at w.near;
      place = w.place;
      within = w.within;
    }

    module _ (a : get_or os 1 0 < 65536) (t : get_or os 0 0 ≡ 1) {own later : List ℕ} (o : own ≡ take (2 * get_or os 2 0) vs) (l : later ≡ drop (2 * get_or os 2 0) vs) {f : List ℕ} {r : Present} (g : Goes e s (λ fs. Start (get_or os 1 0) ∷ fs) (get_or os 1 0) r f) (k : length f ≡ length e) where
      row_sound : Sound os own later
      row_sound = sound os vs h a (count_with (get_or os 0 0) (get_or os 2 0) t) o l w.good w.near

      -- the way to the first value of an object with data
      pub begin_way : Along d s₀ es f r (values_then own (events (objects_of others later)))
      begin_way =
          along_then (rw (events_with os vs h t o l) at w.way)
          (along_goes (λ fs. Start (get_or os 1 0) ∷ fs) (values_then own (events (objects_of others later))) g k)

      pub outer_begun : r.at ≤ room → Inner room f r own (events (objects_of others later)) f r own
      outer_begun within = record {
        way = along_here f r (values_then own (events (objects_of others later))) g.small g.whole;
        place = omega (arith, g.place, row_sound.ends);
        within = within;
      }

      -- an object with data, all its values passed
      pub outer_with :
          {x : List ℕ} {q : Present} {left : List ℕ} →
          Inner room f r own (events (objects_of others later)) x q left → length left < 2 → Outer others later room d s₀ es x q
      outer_with {left = left} v z = record {
        way = along_then begin_way (rw (ap (λ (bs : List ℕ). map Byte bs ++ events (objects_of others later)) (few_values left z)) at v.way);
        good = row_sound.good;
        near = row_sound.near;
        place = omega (arith, v.place);
        within = v.within;
      }

-- the end of the walk
module _ {room : ℕ} {d : List ℕ} {bytes : List ℕ} {es : List Event} {e : List ℕ} {s : Present} (o : Passed d (first bytes) es room s e) where
  pub walked_over : room < s.at → Walked d (ahead (first bytes) es) room s.at e
  walked_over h = record { done = λ g. absurd (omega arith); over = λ _. omega (arith, o.stopped h) }

  pub walked_done : s.at ≤ room → {r : ℕ} {f : List ℕ} → Wrote e s.at (ahead s []) r f → Walked d (ahead (first bytes) es) room r f
  walked_done h w =
      let way = (o.going h).0 in
      record { done = λ _. (omega (arith, w.next, way.size), w.buffer ∙ way.buffer); over = λ g. omega (arith, w.next, way.size) }
