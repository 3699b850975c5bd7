-- Laws of the evaluation: what one step of `node_value` and `label_value` is, in the code's terms, where what is left is a number less one.
-- Assumes nothing.
use mathlib.Core.Path.{◌≡◌, refl}
use mathlib.Core.Bool.{true, false, true≢false, false≢true}
use mathlib.Core.List.{List}
use Prim.Native.Nat.{ℕ, zero, suc, ◌-◌, ◌≤◌, ◌<◌}
use native.Mathlib.Numerals.{sub-one}
use native.Mathlib.Omega.{arith}
use lib.Dec.{eqb}
use borrow.Author.Tests.{eq-eqb, ne_eqb}
use Rattle.ground.specs.Choice.{pick}
use Rattle.ground.specs.Words.{minus}
use Rattle.std.specs.Prelude.{Result, Ok, Err}
use Rattle.ground.specs.declared.refusals.Refusal.{Refusal}
use Rattle.ground.specs.declared.refusals.Refusal.TheVariants.{TooDeep}
use Rattle.expressions.specs.declared.finding.Found.{Found}
use Rattle.expressions.specs.declared.finding.Row.{Row}
use Rattle.expressions.specs.Finding.{Kind, unknown, kind_of, State, undefined, state_of, found, joined, node_of, label_of, node_in, label_in, node_row, label_row, node_value, label_value}
use Rattle.expressions.specs.Steps.{operation_of, is_deep}

-- what a node's label is worth, where e is left after the node: the step to the label counts one
pub stepped : ℕ → List ℕ → List ℕ → ℕ → Result Found Refusal
stepped e ns ls k = pick (eqb e 0) (Err TooDeep) (label_value (e - 1) ns ls k)

pub stepped_none : (e : ℕ) (ns ls : List ℕ) (k : ℕ) → e ≡ 0 → stepped e ns ls k ≡ Err TooDeep
unfolding stepped pick
stepped_none e ns ls k h = rw (eq-eqb _ _ h)

pub stepped_more : (e : ℕ) (ns ls : List ℕ) (k : ℕ) → (e ≡ 0 → ⊥) → stepped e ns ls k ≡ label_value (e - 1) ns ls k
unfolding stepped pick
stepped_more e ns ls k f = rw (ne_eqb _ _ f)

pub node_none : (d : ℕ) (ns ls : List ℕ) (i here : ℕ) → d ≡ 0 → node_value d ns ls i here ≡ Err TooDeep
unfolding node_value
node_none d ns ls i here e = rw e

node_step :
    (d : ℕ) (ns ls : List ℕ) (i here : ℕ) → (d ≡ 0 → ⊥) →
    node_value d ns ls i here ≡ node_in (λ j. node_value (d - 1) ns ls j here) (λ k. stepped (d - 1) ns ls k) here (node_row ns i)
unfolding node_value stepped pick
node_step zero ns ls i here f = absurd (f refl)
node_step (suc zero) ns ls i here f = refl
node_step (suc (suc d)) ns ls i here f =
    let more : eqb (suc d) 0 ≡ false = ne_eqb (suc d) 0 (λ h. omega arith) in
    let less : suc (suc d) - 1 ≡ suc d = omega arith in
    let lesser : suc d - 1 ≡ d = omega arith in
    simp (less, more, lesser)

label_step : (d : ℕ) (ns ls : List ℕ) (k : ℕ) → label_value d ns ls k ≡ label_in (λ i own. node_value (d - 1) ns ls i own) (label_row ls k)
unfolding node_value label_value
label_step zero ns ls k = refl
label_step (suc d) ns ls k = simp sub-one

-- where something is left: what a node is worth, by its kind
pub node_there :
    (d : ℕ) (ns ls : List ℕ) (i here : ℕ) → (d ≡ 0 → ⊥) → (n : Row) → n ≡ node_row ns i → (k : Kind) → kind_of n.first ≡ k →
    node_value d ns ls i here ≡ node_of (λ j. node_value (d - 1) ns ls j here) (λ l. stepped (d - 1) ns ls l) here k n.second n.third
unfolding node_in
node_there d ns ls i here f n e k q = rw (node_step d ns ls i here f, ← e, q)

-- what a label is worth, by its state
pub label_there :
    (d : ℕ) (ns ls : List ℕ) (k : ℕ) (l : Row) → l ≡ label_row ls k → (s : State) → state_of l.first ≡ s →
    label_value d ns ls k ≡ label_of (λ i own. node_value (d - 1) ns ls i own) s l.second l.third
unfolding label_in
label_there d ns ls k l e s q = rw (label_step d ns ls k, ← e, q)

pub state_other : (s : ℕ) → (s ≡ 1 → ⊥) → (s ≡ 2 → ⊥) → state_of s ≡ undefined
state_other zero f g = refl
state_other (suc zero) f g = absurd (f refl)
state_other (suc (suc zero)) f g = absurd (g refl)
state_other (suc (suc (suc s))) f g = refl

pub kind_above : (k : ℕ) → 7 ≤ k → kind_of k ≡ unknown
kind_above zero h = absurd (omega arith)
kind_above (suc zero) h = absurd (omega arith)
kind_above (suc (suc zero)) h = absurd (omega arith)
kind_above (suc (suc (suc zero))) h = absurd (omega arith)
kind_above (suc (suc (suc (suc zero)))) h = absurd (omega arith)
kind_above (suc (suc (suc (suc (suc zero))))) h = absurd (omega arith)
kind_above (suc (suc (suc (suc (suc (suc zero)))))) h = absurd (omega arith)
kind_above (suc (suc (suc (suc (suc (suc (suc k))))))) h = refl

-- a negation is 0 less its part, if the part is a number
pub negated : {part : Result Found Refusal} {p : Found} {n : ℕ} → part ≡ Ok p → n ≡ minus 0 p.number → Ok (record { number = n; wide = p.wide }) ≡ joined minus (found 0 false) part
negated e m = rw (e, m)

pub negated_refused : {part : Result Found Refusal} {r : Refusal} → part ≡ Err r → Err r ≡ joined minus (found 0 false) part
negated_refused e = rw e

-- a node of two parts is what `combined` makes of both
pub kind_binary :
    (k : ℕ) (node lab : ℕ → Result Found Refusal) (here l r : ℕ) → (k ≡ 0 → ⊥) → (k ≡ 1 → ⊥) → (k ≡ 2 → ⊥) → (k ≡ 3 → ⊥) → k < 7 →
    node_of node lab here (kind_of k) l r ≡ joined (operation_of k) (node l) (node r)
unfolding operation_of pick
kind_binary zero node lab here l r f₀ f₁ f₂ f₃ h = absurd (f₀ refl)
kind_binary (suc zero) node lab here l r f₀ f₁ f₂ f₃ h = absurd (f₁ refl)
kind_binary (suc (suc zero)) node lab here l r f₀ f₁ f₂ f₃ h = absurd (f₂ refl)
kind_binary (suc (suc (suc zero))) node lab here l r f₀ f₁ f₂ f₃ h = absurd (f₃ refl)
kind_binary (suc (suc (suc (suc zero)))) node lab here l r f₀ f₁ f₂ f₃ h = refl
kind_binary (suc (suc (suc (suc (suc zero))))) node lab here l r f₀ f₁ f₂ f₃ h = refl
kind_binary (suc (suc (suc (suc (suc (suc zero)))))) node lab here l r f₀ f₁ f₂ f₃ h = refl
kind_binary (suc (suc (suc (suc (suc (suc (suc k))))))) node lab here l r f₀ f₁ f₂ f₃ h = absurd (omega arith)

-- 11 in either part is the whole's, so the second need not be asked where the first gave it
pub joined_left : (operation : ℕ → ℕ → ℕ) (a b : Result Found Refusal) → is_deep a ≡ true → joined operation a b ≡ a
joined_left operation (Err TooDeep) (Ok b) e = refl
joined_left operation (Err TooDeep) (Err TooDeep) e = refl
joined_left operation (Err TooDeep) (Err q) e = refl
joined_left operation a b e = absurd (false≢true e)

pub joined_right : (operation : ℕ → ℕ → ℕ) (a b : Result Found Refusal) → is_deep b ≡ true → joined operation a b ≡ b
joined_right operation (Ok a) (Err TooDeep) e = refl
joined_right operation (Err r) (Err TooDeep) e = refl
joined_right operation a b e = absurd (false≢true e)

-- another refusal of the first is the whole's, where the second is not 11
pub joined_refused : (operation : ℕ → ℕ → ℕ) (r : Refusal) (b : Result Found Refusal) → is_deep b ≡ false → joined operation (Err r) b ≡ Err r
joined_refused operation r (Ok b) e = refl
joined_refused operation r (Err TooDeep) e = absurd (true≢false e)
joined_refused operation r (Err q) e = refl

pub joined_alike : (operation : ℕ → ℕ → ℕ) {a a' b b' : Result Found Refusal} → a ≡ a' → b ≡ b' → joined operation a b ≡ joined operation a' b'
joined_alike operation p q = cc
