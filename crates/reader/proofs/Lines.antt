-- A line's end, and a line, at a place of a text.
-- Assumes nothing.
use borrow.Author.Tests.{ltb-true, eq-eqb, ne_eqb, eqb-true, eqb-false}
use mathlib.Core.Path.{◌≡◌, refl, sym, ap, ◌∙◌}
use mathlib.Core.Bool.{Bool, true, false, ◌&&◌, ◌||◌, or-true, and-false, false≢true}
use mathlib.Core.List.{List, [], ◌∷◌}
use Prim.Native.Nat.{ℕ, zero, suc, ◌+◌, ◌-◌, ◌*◌, ◌%◌, ◌≤◌, ◌<◌, suc-le-suc}
use native.Mathlib.Omega.{arith}
use lib.Dec.{ltb, eqb}
use lib.ListN.{length, get_or, drop, take, length-drop, drop_of_length-le}
use lib.Seq.{get_or-drop, drop-drop, drop-nil}
use Rattle.ground.specs.Choice.{pick}
use Rattle.ground.proofs.Choices.{pick_true, pick_false}
use Rattle.ground.proofs.Choices.{by_test, by_pick}
use Rattle.ground.proofs.Stores.{drop_next}
use Rattle.records.specs.Line.{sum}
use Rattle.reader.specs.Digits.{bytes_in, behind}
use Rattle.reader.specs.Lines.{count_of, address_of, type_of, data_of, sound, ends_line, after_end, NoRecord, record_of, line_in}
use Rattle.reader.specs.Steps.{pair_at, ByteAt, EndIs, meant, DataFits, Fits, line_by, SoundAt, is_line, LineIs}
use Rattle.reader.specs.declared.Line.{Line}
use Rattle.reader.proofs.Digits.{both_true, at_front, pair_there, none_there, bytes_after, byte_there, byte_within, byte_known}
use Rattle.std.proofs.Common.{Option, Some, None, IsSome}
use Rattle.std.proofs.lemmas.Option.{same_Some}
use Rattle.std.proofs.Common.{Result, Ok, Err, IsOk}
use Rattle.ground.specs.declared.refusals.Refusal.{Refusal}
use Rattle.ground.specs.declared.refusals.Refusal.TheVariants.{BrokenText}

-- a character that is not 0 stands within the text
pub stands : (s : List ℕ) (i : ℕ) → 0 < get_or s i 0 → i < length s
stands [] i h = let n : 0 < 0 = h in omega arith
stands (x ∷ s) zero h = omega arith
stands (x ∷ s) (suc i) h = suc-le-suc (stands s i h)

module _ (s : List ℕ) (at : ℕ) where
  ends_from : Bool
  ends_from = eqb (length s - at) 0 || (eqb (get_or s at 0) 10 || (eqb (get_or s at 0) 13 && eqb (get_or s (at + 1) 0) 10))

  ends_at : ends_line (drop at s) ≡ ends_from
  unfolding ends_line ends_from
  ends_at = rw (at_front s at, get_or-drop at s 1 0, length-drop at s)

  after_at : (n : ℕ) → pick (eqb (get_or s at 0) 13) 2 1 ≡ n → after_end (drop at s) ≡ drop (at + n) s
  unfolding after_end
  after_at n e = rw (at_front s at, e) (drop-drop n at s)

  pub end_of_text : at ≡ length s → EndIs s at (Some at)
  unfolding ends_from after_end
  end_of_text e =
      let none : drop at s ≡ [] = drop_of_length-le s {i = at} (omega arith) in
      record {
        ends = ends_at ∙ rw (eq-eqb (length s - at) 0 (omega arith));
        after = rw none (drop-nil (pick (eqb 0 13) 2 1));
        within = omega arith;
        past = omega arith;
      }

  pub line_feed : get_or s at 0 ≡ 10 → EndIs s at (Some (at + 1))
  unfolding ends_from
  line_feed e =
      record {
        ends = ends_at ∙ rw e (or-true (eqb (length s - at) 0));
        after = after_at 1 (pick_false 2 1 (rw e));
        within = omega (arith, stands s at (rw e (omega arith)));
        past = omega arith;
      }

  pub return_feed : get_or s at 0 ≡ 13 → get_or s (at + 1) 0 ≡ 10 → EndIs s at (Some (at + 2))
  unfolding ends_from
  return_feed e f =
      record {
        ends = ends_at ∙ rw (e, f) (or-true (eqb (length s - at) 0));
        after = after_at 2 (pick_true 2 1 (rw e));
        within = omega (arith, stands s (at + 1) (rw f (omega arith)));
        past = omega arith;
      }

  neither : at < length s → (get_or s at 0 ≡ 10 → ⊥) → (eqb (get_or s at 0) 13 && eqb (get_or s (at + 1) 0) 10) ≡ false → EndIs s at None
  unfolding ends_from
  neither h n b = ends_at ∙ rw (ne_eqb (length s - at) 0 (λ z. omega arith), ne_eqb (get_or s at 0) 10 n, b)

  pub no_return : at < length s → (get_or s at 0 ≡ 10 → ⊥) → (get_or s at 0 ≡ 13 → ⊥) → EndIs s at None
  no_return h n m = neither h n (rw (ne_eqb (get_or s at 0) 13 m))

  pub lone_return : at < length s → (get_or s at 0 ≡ 10 → ⊥) → (get_or s (at + 1) 0 ≡ 10 → ⊥) → EndIs s at None
  lone_return h n m = neither h n (rw (ne_eqb (get_or s (at + 1) 0) 10 m) (and-false (eqb (get_or s at 0) 13)))

same_choice : {A B : Type 0} (f : A → B) (t : Bool) (a b : A) → f (pick t a b) ≡ pick t (f a) (f b)
unfolding pick
same_choice f true a b = refl
same_choice f false a b = refl

-- two tests that hold together are the same test
same_test : (a b c d : ℕ) → (a ≡ b → c ≡ d) → (c ≡ d → a ≡ b) → eqb a b ≡ eqb c d
same_test a b c d f g = by_cases (eqb a b) refl
  where
    by_cases : (t : Bool) → eqb a b ≡ t → eqb a b ≡ eqb c d
    by_cases true e = e ∙ sym (eq-eqb c d (f (eqb-true a b e)))
    by_cases false e = e ∙ sym (ne_eqb c d (λ z. eqb-false a b e (g z)))

-- the bytes of a line, each known at its place in the text
module _ (s : List ℕ) (at count next : ℕ) (w : SoundAt s at count next) where
  abbrev bs : List ℕ
  bs = bytes_in (drop (at + 1) s)

  pub part_known : (k j : ℕ) → at + 1 + 2 * k ≡ j → k < count + 5 → ByteAt s j
  part_known k j e h = byte_known s (at + 1) k j e (omega (arith, w.full))

  part_right : (k j b : ℕ) → at + 1 + 2 * k ≡ j → k < count + 5 → pair_at s j ≡ Some b → get_or bs k 0 ≡ b
  part_right k j b e h q = same_Some _ _ (sym (byte_there s (at + 1) k j e (omega (arith, w.full))) ∙ q)

  data_after : drop 4 bs ≡ bytes_in (drop (at + 9) s)
  data_after =
      let e : at + 1 + 2 * 4 ≡ at + 9 = omega arith in
      bytes_after 4 s (at + 1) (omega (arith, w.full)) ∙ ap (λ (j : ℕ). bytes_in (drop j s)) e

  last_right : eqb (length (drop next s)) 0 ≡ eqb next (length s)
  last_right = same_test (length (drop next s)) 0 next (length s) (λ e. omega (arith, w.within, length-drop next s)) (λ e. omega (arith, length-drop next s))

  module _ (few : count < 256) (high low kind : ℕ) (a : pair_at s (at + 3) ≡ Some high) (b : pair_at s (at + 5) ≡ Some low) (c : pair_at s (at + 7) ≡ Some kind) where
    abbrev found_line : Line
    found_line = record { address = high * 256 + low; first = at + 9; count = count; next = next }

    address_right : address_of bs ≡ high * 256 + low
    unfolding address_of
    address_right =
        rw (part_right 1 (at + 3) high (omega arith) (omega arith) a, part_right 2 (at + 5) low (omega arith) (omega arith) b)

    type_right : type_of bs ≡ kind
    unfolding type_of
    type_right = part_right 3 (at + 7) kind (omega arith) (omega arith) c

    data_right : data_of bs ≡ take count (bytes_in (drop (at + 9) s))
    unfolding data_of
    data_right = rw (w.given, data_after)

    record_right : record_of bs (drop next s) ≡ meant s (line_by kind found_line (length s))
    unfolding record_of line_by
    record_right =
        rw (type_right, w.given, address_right, data_right, last_right)
        (sym (same_choice (meant s) _ _ _ ∙ ap (pick _ _) (same_choice (meant s) _ (Ok None) (Err BrokenText))))

    data_fits : ltb 0 count ≡ true → DataFits s at found_line
    data_fits t = record {
      some = ltb-true 0 count t;
      few = few;
      there = omega (arith, ap length data_after, length-drop 4 bs, w.full);
      long = omega (arith, w.long);
      within = w.within;
    }

    line_fits : Fits s at (line_by kind found_line (length s))
    unfolding line_by
    line_fits = by_test (Fits s at) _ (λ t. data_fits (both_true (eqb kind 0) (ltb 0 count) t).1) (λ _. by_pick (Fits s at) _ tt refl)

    pub sound_right : LineIs s at (line_by kind found_line (length s))
    sound_right = record { says = w.says ∙ record_right; fits = line_fits }

-- a line after a colon, by what was found there
module _ (s : List ℕ) (at : ℕ) (colon : get_or s at 0 ≡ 58) where
  abbrev digits : List ℕ
  digits = bytes_in (drop (at + 1) s)

  colon_line :
      line_in (drop at s)
      ≡ pick (sound digits && ends_line (behind (drop (at + 1) s))) (record_of digits (after_end (behind (drop (at + 1) s)))) NoRecord
  unfolding line_in
  colon_line =
      let h : 0 < get_or s at 0 = rw colon (omega arith) in
      rw (drop_next s at (stands s at h), colon)

  not_sound : (sound digits && ends_line (behind (drop (at + 1) s))) ≡ false → LineIs s at (Err BrokenText)
  not_sound t = record { says = colon_line ∙ pick_false _ _ t; fits = refl }

  -- no digits
  pub no_count : pair_at s (at + 1) ≡ None → LineIs s at (Err BrokenText)
  unfolding sound count_of
  no_count e = not_sound (rw (none_there s (at + 1) e))

  module _ (end : ℕ) (ended : end ≡ at + 1 + 2 * length digits) where
    behind_right : behind (drop (at + 1) s) ≡ drop end s
    unfolding behind
    behind_right = drop-drop (2 * length digits) (at + 1) s ∙ ap (λ (j : ℕ). drop j s) (sym ended)

    pub no_end : EndIs s end None → LineIs s at (Err BrokenText)
    no_end n = not_sound (rw (behind_right, n) (and-false (sound digits)))

    module _ (total count next : ℕ) (summed : total ≡ sum digits % 256) (given : pair_at s (at + 1) ≡ Some count) (after : EndIs s end (Some next)) where
      abbrev tested : Bool
      tested = eqb end (at + 11 + 2 * count) && eqb total 0

      count_right : 0 < length digits → count_of digits ≡ count
      unfolding count_of
      count_right h = same_Some _ _ (sym (byte_there s (at + 1) 0 (at + 1) (omega arith) h) ∙ given)

      some_digits : 0 < length digits
      some_digits = rw (pair_there s (at + 1) count given).1 (omega arith)

      tests_right : tested ≡ sound digits
      unfolding sound
      tests_right =
          rw (count_right some_digits, summed)
          (ap (λ (b : Bool). b && eqb (sum digits % 256) 0)
          (same_test end (at + 11 + 2 * count) (length digits) (count + 5) (λ e. omega (arith, e, ended)) (λ e. omega (arith, e, ended))))

      pub no_line : tested ≡ false → LineIs s at (Err BrokenText)
      no_line t = not_sound (rw (← tests_right, t))

      pub sound_there : tested ≡ true → SoundAt s at count next
      sound_there t =
          let e = eqb-true end (at + 11 + 2 * count) (both_true (eqb end (at + 11 + 2 * count)) (eqb total 0) t).0 in
          record {
            given = count_right some_digits;
            full = omega (arith, e, ended);
            long = omega (arith, e, after.past);
            within = after.within;
            says =
                colon_line
                ∙ pick_true _ _ (rw (← tests_right, t, behind_right) after.ends)
                ∙ ap (record_of digits) (rw behind_right after.after);
          }

-- the parts of a line that stands at the front of a text
known_parts : (t : List ℕ) → is_line (line_in t) ≡ true → (get_or t 0 0 ≡ 58) × ((sound (bytes_in (drop 1 t)) && ends_line (behind (drop 1 t))) ≡ true)
unfolding line_in pick
known_parts [] k = absurd (false≢true k)
known_parts (c ∷ t) k = by_cases (eqb c 58) refl (sound (bytes_in t) && ends_line (behind t)) refl k
  where
    by_cases : (a : Bool) → eqb c 58 ≡ a → (b : Bool) → (sound (bytes_in t) && ends_line (behind t)) ≡ b
        → is_line (pick (a && b) (record_of (bytes_in t) (after_end (behind t))) NoRecord) ≡ true → (c ≡ 58) × ((sound (bytes_in t) && ends_line (behind t)) ≡ true)
    by_cases true p true q e = (eqb-true c 58 p, q)
    by_cases true p false q e = absurd (false≢true e)
    by_cases false p b q e = absurd (false≢true e)

-- a line that is known to stand at a place
module _ (s : List ℕ) (at : ℕ) (k : is_line (line_in (drop at s)) ≡ true) where
  parts : (get_or s at 0 ≡ 58) × ((sound (bytes_in (drop (at + 1) s)) && ends_line (behind (drop (at + 1) s))) ≡ true)
  parts =
      let p = known_parts (drop at s) k in
      (sym (at_front s at) ∙ p.0, rw (drop-drop 1 at s) at p.1)

  pub known_there : at < length s
  known_there = stands s at (rw parts.0 (omega arith))

  -- what is found there is no refusal
  pub known_right : (r : Result (Option Line) Refusal) → LineIs s at r → IsOk r
  known_right (Ok l) w = refl
  known_right (Err e) w = absurd (false≢true (sym (ap is_line w.says) ∙ k))

  known_full : length (bytes_in (drop (at + 1) s)) ≡ count_of (bytes_in (drop (at + 1) s)) + 5
  unfolding sound
  known_full =
      let bs = bytes_in (drop (at + 1) s) in
      eqb-true (length bs) (count_of bs + 5) (both_true _ _ (both_true (sound bs) _ parts.1).0).0

  pub known_count : ByteAt s (at + 1)
  known_count = byte_known s (at + 1) 0 (at + 1) (omega arith) (omega (arith, known_full))

  module _ (count : ℕ) (given : pair_at s (at + 1) ≡ Some count) where
    known_given : count_of (bytes_in (drop (at + 1) s)) ≡ count
    unfolding count_of
    known_given = same_Some _ _ (sym (byte_there s (at + 1) 0 (at + 1) (omega arith) (omega (arith, known_full))) ∙ given)

    pub known_end : at + 11 + 2 * count ≤ length s
    known_end = omega (arith, known_full, known_given, byte_within s (at + 1) (count + 4) (at + 1 + 2 * (count + 4)) refl (omega (arith, known_full, known_given)))

    known_behind : behind (drop (at + 1) s) ≡ drop (at + 11 + 2 * count) s
    known_behind = behind_right s at parts.0 (at + 11 + 2 * count) (omega (arith, known_full, known_given))

    -- it does not end where it is not known to
    pub known_ends : (next : Option ℕ) → EndIs s (at + 11 + 2 * count) next → IsSome next
    known_ends (Some next) after = refl
    known_ends None after = absurd (false≢true (sym after ∙ rw known_behind at (both_true (sound (bytes_in (drop (at + 1) s))) _ parts.1).1))

    pub known_sound : (next : ℕ) → EndIs s (at + 11 + 2 * count) (Some next) → SoundAt s at count next
    known_sound next after = record {
      given = known_given;
      full = omega (arith, known_full, known_given);
      long = after.past;
      within = after.within;
      says = colon_line s at parts.0 ∙ pick_true _ _ parts.1 ∙ ap (record_of (bytes_in (drop (at + 1) s))) (rw known_behind after.after);
    }

-- a line that does not begin with a colon
other_line_lem : (t : List ℕ) → (get_or t 0 0 ≡ 58 → ⊥) → line_in t ≡ NoRecord
unfolding line_in
other_line_lem [] m = refl
other_line_lem (c ∷ t) m = pick_false _ _ (rw (ne_eqb c 58 m))

pub no_colon : (s : List ℕ) (at : ℕ) → (get_or s at 0 ≡ 58 → ⊥) → LineIs s at (Err BrokenText)
no_colon s at n = record { says = other_line_lem (drop at s) (λ e. n (sym (at_front s at) ∙ e)); fits = refl }
