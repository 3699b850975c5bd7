-- Texts that read alike: in either case, and with LF or CR LF, line by line and letter by letter as one likes.
-- Assumes nothing.
use borrow.Author.Tests.{leb-true, eqb-true, ne_eqb}
use mathlib.Core.Path.{◌≡◌, refl, sym, ap, ◌∙◌, subst}
use mathlib.Core.Bool.{Bool, true, false, ◌&&◌, and-false, or-false, false≢true}
use mathlib.Core.List.{List, [], ◌∷◌, map}
use Prim.Native.Nat.{ℕ, zero, suc, ◌+◌, ◌*◌, ◌≤◌, ◌<◌}
use native.Mathlib.Omega.{arith}
use lib.Dec.{ltb, leb, eqb, eqb-suc-zero}
use lib.ListN.{length, get_or, drop}
use Rattle.std.proofs.Common.{Option, Some, None}
use Rattle.ground.specs.Choice.{pick}
use Rattle.ground.proofs.Choices.{pick_false, by_test}
use Rattle.records.specs.Fine.{Each}
use Rattle.reader.specs.Digits.{digit_of, pair_of, bytes_in, behind}
use Rattle.reader.specs.Lines.{count_of, address_of, type_of, data_of, sound, ends_line, after_end, NoRecord, record_of, line_in, more, found, records_in}
use Rattle.reader.specs.Twins.{lower, crlf}
use Rattle.reader.proofs.Digits.{both_true, digit_upper, digit_lower}
use Rattle.reader.proofs.Records.{records_on, after_short}

-- the same character, or one digit in two cases; no carriage return
pub record Same (c d : ℕ) : Type 0 where
  pub digit : digit_of c ≡ digit_of d
  pub colon : eqb c 58 ≡ eqb d 58
  pub feed : eqb c 10 ≡ eqb d 10
  pub plain : eqb c 13 ≡ false
  pub plain' : eqb d 13 ≡ false

-- two texts: character by character, but that a line feed here may have a carriage return before it there
pub data Twin : List ℕ → List ℕ → Type 0 where
  none : Twin [] []
  same : {c d : ℕ} {s t : List ℕ} → Same c d → Twin s t → Twin (c ∷ s) (d ∷ t)
  both : {s t : List ℕ} → eqb (get_or s 0 0) 10 ≡ eqb (get_or t 0 0) 10 → Twin s t → Twin (13 ∷ s) (13 ∷ t)
  feed : {s t : List ℕ} → Twin s t → Twin (10 ∷ s) (13 ∷ 10 ∷ t)

-- what is no digit ends the digits
no_high : (c d : ℕ) → digit_of c ≡ 16 → pair_of c d ≡ None
unfolding pair_of
no_high c d e = pick_false _ _ (rw e)

no_low : (c d : ℕ) → digit_of d ≡ 16 → pair_of c d ≡ None
unfolding pair_of
no_low c d e = pick_false _ _ (rw e (and-false (ltb (digit_of c) 16)))

none_first : (c : ℕ) (s : List ℕ) → digit_of c ≡ 16 → bytes_in (c ∷ s) ≡ []
none_first c [] e = refl
none_first c (x ∷ s) e = rw (no_high c x e)

none_second : (c d : ℕ) (s : List ℕ) → digit_of d ≡ 16 → bytes_in (c ∷ d ∷ s) ≡ []
none_second c d s e = rw (no_low c d e)

feed_none : digit_of 10 ≡ 16
unfolding digit_of pick
feed_none = refl

return_none : digit_of 13 ≡ 16
unfolding digit_of pick
return_none = refl

same_pair : {c d x y : ℕ} → Same c d → Same x y → pair_of c x ≡ pair_of d y
unfolding pair_of
same_pair p q = rw (p.digit, q.digit)

bytes_twin : {s t : List ℕ} → Twin s t → bytes_in s ≡ bytes_in t
bytes_twin none = refl
bytes_twin (same p none) = refl
bytes_twin (same p (same q w)) = rw (same_pair p q, bytes_twin w)
bytes_twin (same {c} {d} p (both {s} {t} e w)) = none_second c 13 s return_none ∙ sym (none_second d 13 t return_none)
bytes_twin (same {c} {d} p (feed {s} {t} w)) = none_second c 10 s feed_none ∙ sym (none_second d 13 (10 ∷ t) return_none)
bytes_twin (both {s} {t} e w) = none_first 13 s return_none ∙ sym (none_first 13 t return_none)
bytes_twin (feed {s} {t} w) = none_first 10 s feed_none ∙ sym (none_first 13 (10 ∷ t) return_none)

-- what stands behind the digits
behind_none : (s : List ℕ) → bytes_in s ≡ [] → behind s ≡ s
unfolding behind
behind_none s e = rw e

behind_on : (h l b : ℕ) (s : List ℕ) → pair_of h l ≡ Some b → behind (h ∷ l ∷ s) ≡ behind s
unfolding behind
behind_on h l b s e =
    let k : 2 * suc (length (bytes_in s)) ≡ suc (suc (2 * length (bytes_in s))) = omega arith in
    rw (e, k)

whole_twin : {s t : List ℕ} → Twin s t → bytes_in s ≡ [] → Twin (behind s) (behind t)
whole_twin {s} {t} w e = rw (behind_none s e, behind_none t (sym (bytes_twin w) ∙ e)) w

pair_twin : {c d x y : ℕ} {s t : List ℕ} (o : Option ℕ) → pair_of c x ≡ o → (p : Same c d) (q : Same x y) (w : Twin s t) → Twin (behind s) (behind t)
    → Twin (behind (c ∷ x ∷ s)) (behind (d ∷ y ∷ t))
pair_twin {c} {d} {x} {y} {s} {t} (Some b) e p q w r = rw (behind_on c x b s e, behind_on d y b t (sym (same_pair p q) ∙ e)) r
pair_twin {c} {d} {x} {y} {s} {t} None e p q w r = whole_twin (same p (same q w)) (rw e)

behind_twin : {s t : List ℕ} → Twin s t → Twin (behind s) (behind t)
behind_twin none = whole_twin none refl
behind_twin (same p none) = whole_twin (same p none) refl
behind_twin (same {c} p (same {c = x} q w)) = pair_twin (pair_of c x) refl p q w (behind_twin w)
behind_twin (same {c} p (both {s} e w)) = whole_twin (same p (both e w)) (none_second c 13 s return_none)
behind_twin (same {c} p (feed {s} w)) = whole_twin (same p (feed w)) (none_second c 10 s feed_none)
behind_twin (both {s} e w) = whole_twin (both e w) (none_first 13 s return_none)
behind_twin (feed {s} w) = whole_twin (feed w) (none_first 10 s feed_none)

-- where a line ends, and what stands after it
not_empty : (c : ℕ) (s : List ℕ) → eqb (length (c ∷ s)) 0 ≡ false
not_empty c s = eqb-suc-zero (length s)

plain_end : (c : ℕ) (s : List ℕ) → eqb c 13 ≡ false → ends_line (c ∷ s) ≡ eqb c 10
unfolding ends_line
plain_end c s e = rw (not_empty c s, e) (or-false (eqb c 10))

ends_twin : {s t : List ℕ} → Twin s t → ends_line s ≡ ends_line t
unfolding ends_line
ends_twin none = refl
ends_twin (same {c} {d} {s} {t} p w) = plain_end c s p.plain ∙ p.feed ∙ sym (plain_end d t p.plain')
ends_twin (both {s} {t} e w) = rw (not_empty 13 s, not_empty 13 t, e)
ends_twin (feed {s} {t} w) = rw (not_empty 10 s, not_empty 13 (10 ∷ t))

rest_twin : {s t : List ℕ} → eqb (get_or s 0 0) 10 ≡ eqb (get_or t 0 0) 10 → Twin s t → Twin (drop 1 s) (drop 1 t)
rest_twin e none = none
rest_twin e (same p w) = w
rest_twin e (both f w) = w
rest_twin e (feed w) = absurd (false≢true (sym e))

after_twin : {s t : List ℕ} → Twin s t → Twin (after_end s) (after_end t)
unfolding after_end pick
after_twin none = none
after_twin (same p w) = rw (p.plain, p.plain') w
after_twin (both e w) = rest_twin e w
after_twin (feed w) = w

empty_twin : {s t : List ℕ} → Twin s t → eqb (length s) 0 ≡ eqb (length t) 0
empty_twin none = refl
empty_twin (same {c} {d} {s} {t} p w) = not_empty c s ∙ sym (not_empty d t)
empty_twin (both {s} {t} e w) = not_empty 13 s ∙ sym (not_empty 13 t)
empty_twin (feed {s} {t} w) = not_empty 10 s ∙ sym (not_empty 13 (10 ∷ t))

-- a line, with what is read after it
record_twin : {s t : List ℕ} (bs : List ℕ) (b : Bool) → (eqb (type_of bs) 0 && ltb 0 (count_of bs)) ≡ b → Twin s t → records_in s ≡ records_in t
    → found (record_of bs s) records_in ≡ found (record_of bs t) records_in
unfolding record_of pick
record_twin bs true q w e = rw q (ap (more (record { address = address_of bs; bytes = data_of bs })) e)
record_twin bs false q w e = rw (q, empty_twin w)

line_twin : {s t : List ℕ} (a b : Bool) (bs : List ℕ) → a ≡ b → Twin s t → records_in s ≡ records_in t
    → found (pick a (record_of bs s) NoRecord) records_in ≡ found (pick b (record_of bs t) NoRecord) records_in
unfolding pick
line_twin true b bs p w e = rw (← p) (record_twin bs (eqb (type_of bs) 0 && ltb 0 (count_of bs)) refl w e)
line_twin false b bs p w e = rw (← p)

alike_step : {s t : List ℕ} → Twin s t → ((x y : List ℕ) → length x < length s → Twin x y → records_in x ≡ records_in y) → records_in s ≡ records_in t
unfolding line_in pick
alike_step none ih = refl
alike_step (same {c} {d} {s} {t} p w) ih =
    let behinds = behind_twin w in
    let tests : (eqb c 58 && (sound (bytes_in s) && ends_line (behind s))) ≡ (eqb d 58 && (sound (bytes_in t) && ends_line (behind t))) = rw (p.colon, bytes_twin w, ends_twin behinds) in
    records_on (c ∷ s)
    ∙ line_twin _ _ (bytes_in s) tests (after_twin behinds) (ih (after_end (behind s)) (after_end (behind t)) (omega (arith, after_short s)) (after_twin behinds))
    ∙ ap (λ (bs : List ℕ). found (pick (eqb d 58 && (sound (bytes_in t) && ends_line (behind t))) (record_of bs (after_end (behind t))) NoRecord) records_in) (bytes_twin w)
    ∙ sym (records_on (d ∷ t))
alike_step (both {s} {t} e w) ih = records_on (13 ∷ s) ∙ sym (records_on (13 ∷ t))
alike_step (feed {s} {t} w) ih = records_on (10 ∷ s) ∙ sym (records_on (13 ∷ 10 ∷ t))

read_alike : (n : ℕ) (s t : List ℕ) → length s ≤ n → Twin s t → records_in s ≡ records_in t
read_alike zero s t h w = alike_step w (λ x y l v. let no : ⊥ = omega arith in absurd no)
read_alike (suc n) s t h w = alike_step w (λ x y l v. read_alike n x y (omega arith) v)

-- twins read alike
pub twins_read : {s t : List ℕ} → Twin s t → records_in s ≡ records_in t
twins_read {s} {t} w = read_alike (length s) s t (omega arith) w

-- any text and its lower-case twin
lower_letter : (c : ℕ) → 65 ≤ c → c ≤ 70 → Same c (c + 32)
lower_letter c h k = record {
  digit = sym (digit_upper c h k) ∙ omega arith ∙ digit_lower (c + 32) (omega arith) (omega arith);
  colon = ne_eqb c 58 (λ e. omega arith) ∙ sym (ne_eqb (c + 32) 58 (λ e. omega arith));
  feed = ne_eqb c 10 (λ e. omega arith) ∙ sym (ne_eqb (c + 32) 10 (λ e. omega arith));
  plain = ne_eqb c 13 (λ e. omega arith);
  plain' = ne_eqb (c + 32) 13 (λ e. omega arith);
}

lower_same : (c : ℕ) → eqb c 13 ≡ false → Same c (lower c)
unfolding lower
lower_same c e =
    by_test (Same c) (leb 65 c && leb c 70)
    (λ t. let b = both_true (leb 65 c) (leb c 70) t in lower_letter c (leb-true 65 c b.0) (leb-true c 70 b.1))
    (λ _. record { digit = refl; colon = refl; feed = refl; plain = e; plain' = e })

lower_feed : (c : ℕ) (b : Bool) → eqb c 13 ≡ b → eqb c 10 ≡ eqb (lower c) 10
unfolding lower pick
lower_feed c true e = rw (eqb-true c 13 e)
lower_feed c false e = (lower_same c e).feed

lower_first : (s : List ℕ) → eqb (get_or s 0 0) 10 ≡ eqb (get_or (map lower s) 0 0) 10
lower_first [] = refl
lower_first (c ∷ s) = lower_feed c (eqb c 13) refl

lower_step : (c : ℕ) (s : List ℕ) (b : Bool) → eqb c 13 ≡ b → Twin s (map lower s) → Twin (c ∷ s) (map lower (c ∷ s))
unfolding lower pick
lower_step c s true e w = rw (eqb-true c 13 e) (both (lower_first s) w)
lower_step c s false e w = same (lower_same c e) w

lower_twin : (s : List ℕ) → Twin s (map lower s)
lower_twin [] = none
lower_twin (c ∷ s) = lower_step c s (eqb c 13) refl (lower_twin s)

pub lower_reads : (s : List ℕ) → records_in (map lower s) ≡ records_in s
lower_reads s = sym (twins_read (lower_twin s))

-- a text without carriage returns and its twin with one in each line end
pub crlf_twin : (s : List ℕ) → Each (λ c. eqb c 13 ≡ false) s → Twin s (crlf s)
crlf_twin [] p = none
crlf_twin (c ∷ s) p =
    by_test (Twin (c ∷ s)) (eqb c 10)
    (λ t. subst (λ (x : ℕ). Twin (x ∷ s) (13 ∷ 10 ∷ crlf s)) (sym (eqb-true c 10 t)) (feed (crlf_twin s p.1)))
    (λ _. same (record { digit = refl; colon = refl; feed = refl; plain = p.0; plain' = p.0 }) (crlf_twin s p.1))

pub crlf_reads : (s : List ℕ) → Each (λ c. eqb c 13 ≡ false) s → records_in (crlf s) ≡ records_in s
crlf_reads s p = sym (twins_read (crlf_twin s p))
