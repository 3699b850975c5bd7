-- D6, "circular labels never end; here 11": a node from which one can go on asking without end is 11, at every depth. Each step of the way takes
-- something from what is left, and 11 in a part is the whole's. So is a label that such a node defines.
-- Assumes nothing.
use mathlib.Core.Path.{◌≡◌, ◌∙◌, refl}
use mathlib.Core.Bool.{Bool, false}
use mathlib.Core.List.{List}
use Prim.Native.Nat.{ℕ, zero, suc, ◌-◌, ◌≤◌, ◌<◌}
use native.Mathlib.Omega.{arith}
use Rattle.ground.specs.Words.{plus, minus}
use Rattle.std.specs.Prelude.{Result, Err}
use Rattle.ground.specs.declared.refusals.Refusal.{Refusal}
use Rattle.ground.specs.declared.refusals.Refusal.TheVariants.{TooDeep}
use Rattle.expressions.specs.declared.finding.Found.{Found}
use Rattle.expressions.specs.Finding.{times, found, joined, Kind, label, negation, sum, difference, product, kind_of, expression, state_of, node_row, label_row, node_of, deepest, node_value, label_value}
use Rattle.expressions.specs.Answers.{evaluation}
use Rattle.expressions.proofs.Laws.{stepped, stepped_none, stepped_more, node_none, node_there, label_there, joined_left, joined_right}

left_deep : (operation : ℕ → ℕ → ℕ) (a b : Result Found Refusal) → a ≡ Err TooDeep → joined operation a b ≡ Err TooDeep
left_deep operation a b e = rw e (joined_left operation (Err TooDeep) b refl)

right_deep : (operation : ℕ → ℕ → ℕ) (a b : Result Found Refusal) → b ≡ Err TooDeep → joined operation a b ≡ Err TooDeep
right_deep operation a b e = rw e (joined_right operation a (Err TooDeep) refl)

-- a kind of two parts
pub data Two : Kind → Type 0 where
  is_sum : Two sum
  is_difference : Two difference
  is_product : Two product

-- node i asks node j: as a part, or through a label that j defines
pub data Asks (ns ls : List ℕ) (i j : ℕ) : Type 0 where
  part : kind_of (node_row ns i).first ≡ negation → (node_row ns i).second ≡ j → Asks ns ls i j
  left_part : Two (kind_of (node_row ns i).first) → (node_row ns i).second ≡ j → Asks ns ls i j
  right_part : Two (kind_of (node_row ns i).first) → (node_row ns i).third ≡ j → Asks ns ls i j
  by_label :
      kind_of (node_row ns i).first ≡ label → state_of (label_row ls (node_row ns i).second).first ≡ expression →
      (label_row ls (node_row ns i).second).third ≡ j → Asks ns ls i j

-- there is a next node on the way
pub record Onward (ns ls : List ℕ) (On : ℕ → Type 0) (i : ℕ) : Type 0 where
  pub next : ℕ
  pub asked : Asks ns ls i next
  pub on : On next

module _ (node lab : ℕ → Result Found Refusal) (here l r : ℕ) where
  two_left : {k : Kind} → Two k → node l ≡ Err TooDeep → node_of node lab here k l r ≡ Err TooDeep
  two_left is_sum e = left_deep plus (node l) (node r) e
  two_left is_difference e = left_deep minus (node l) (node r) e
  two_left is_product e = left_deep times (node l) (node r) e

  two_right : {k : Kind} → Two k → node r ≡ Err TooDeep → node_of node lab here k l r ≡ Err TooDeep
  two_right is_sum e = right_deep plus (node l) (node r) e
  two_right is_difference e = right_deep minus (node l) (node r) e
  two_right is_product e = right_deep times (node l) (node r) e

module _ (ns ls : List ℕ) where
  -- a step to a label whose node is 11 with at most e left
  stepped_deep :
      (e k j : ℕ) → state_of (label_row ls k).first ≡ expression → (label_row ls k).third ≡ j →
      ((d own : ℕ) → d ≤ e → node_value d ns ls j own ≡ Err TooDeep) → stepped e ns ls k ≡ Err TooDeep
  stepped_deep zero k j s t deep = stepped_none zero ns ls k refl
  stepped_deep (suc e) k j s t deep =
      stepped_more (suc e) ns ls k (λ h. omega arith)
      ∙ label_there (suc e - 1) ns ls k (label_row ls k) refl expression s
      ∙ rw t (deep (suc e - 1 - 1) (label_row ls k).second (omega arith))

  -- a node that asks one which is 11 with at most d left
  asks_deep :
      (d i here j : ℕ) → Asks ns ls i j → ((e own : ℕ) → e ≤ d → node_value e ns ls j own ≡ Err TooDeep) →
      node_value (suc d) ns ls i here ≡ Err TooDeep
  asks_deep d i here j a deep =
      let n = node_row ns i in
      let there = node_there (suc d) ns ls i here (λ h. omega arith) n refl in
      let below : (l : ℕ) → l ≡ j → node_value (suc d - 1) ns ls l here ≡ Err TooDeep
      = λ l e. rw e (deep (suc d - 1) here (omega arith)) in
      elim a [
        | part k e ↦ there negation k ∙ right_deep minus (found 0 false) _ (below n.second e)
        | left_part k e ↦ there (kind_of n.first) refl ∙ two_left _ _ here n.second n.third k (below n.second e)
        | right_part k e ↦ there (kind_of n.first) refl ∙ two_right _ _ here n.second n.third k (below n.third e)
        | by_label k s t ↦ there label k ∙ stepped_deep (suc d - 1) n.second j s t (λ e own h. deep e own (omega arith))
      ]

  asks_less :
      (d i here j : ℕ) → Asks ns ls i j → ((e own : ℕ) → e < d → node_value e ns ls j own ≡ Err TooDeep) →
      node_value d ns ls i here ≡ Err TooDeep
  asks_less zero i here j a deep = node_none zero ns ls i here refl
  asks_less (suc d) i here j a deep = asks_deep d i here j a (λ e own h. deep e own (omega arith))

  module _ (On : ℕ → Type 0) (goes_on_lem : (i : ℕ) → On i → Onward ns ls On i) where
    endless_upto : (b d i here : ℕ) → d ≤ b → On i → node_value d ns ls i here ≡ Err TooDeep
    endless_upto zero d i here h o = node_none d ns ls i here (omega arith)
    endless_upto (suc b) d i here h o =
        let g = goes_on_lem i o in
        asks_less d i here g.next g.asked (λ e own l. endless_upto b e g.next own (omega arith) g.on)

    -- every node of a way without end is 11
    pub endless : (d i here : ℕ) → On i → node_value d ns ls i here ≡ Err TooDeep
    endless d i here o = endless_upto d d i here (omega arith) o

    pub endless_answer : (i here : ℕ) (signed : Bool) → On i → evaluation ns ls i here signed ≡ Err TooDeep
    unfolding evaluation
    endless_answer i here signed o = rw (endless deepest i here o)

    pub endless_label :
        (d k : ℕ) → state_of (label_row ls k).first ≡ expression → On (label_row ls k).third → label_value d ns ls k ≡ Err TooDeep
    endless_label d k s o =
        label_there d ns ls k (label_row ls k) refl expression s ∙ endless (d - 1) (label_row ls k).third (label_row ls k).second o

  -- the shortest circle: a label whose node asks that label
  pub own_label_lem : (d i here : ℕ) → Asks ns ls i i → node_value d ns ls i here ≡ Err TooDeep
  own_label_lem d i here a =
      endless (λ (j : ℕ). j ≡ i) (λ j e. record { next = i; asked = rw e a; on = refl }) d i here refl
