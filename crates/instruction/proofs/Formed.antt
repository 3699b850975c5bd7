-- The form of an operand never hangs on its values, or is Direct or Extended, which a build chooses anew.
-- Assumes nothing.
use mathlib.Core.Path.{◌≡◌, refl}
use mathlib.Core.Bool.{Bool, true, false, not, ◌&&◌, ◌||◌, false≢true}
use Prim.Native.Nat.{ℕ}
use native.Mathlib.Omega.{arith}
use lib.Dec.{eqb}
use borrow.Author.Tests.{eqb-true}
use Rattle.ground.specs.Choice.{pick}
use Rattle.ground.proofs.Choices.{by_test, by_pick}
use Rattle.values.specs.declared.pages.Page.{Page}
use Rattle.rows.specs.Forms.{inherent, immediate, direct, indexed, extended, relative, register}
use Rattle.rows.specs.Lookup.{has_form_of}
use Rattle.instruction.specs.declared.Operand.{Operand}
use Rattle.instruction.specs.declared.Values.{Values}
use Rattle.instruction.specs.Names.{mode_register, mode_extended, mode_direct, mode_immediate, mode_inherent}
use Rattle.instruction.specs.Forms.{becomes_direct, extended_form, register_form, form_of}

abbrev pub is_memory : ℕ → Bool
is_memory f = eqb f direct || eqb f extended

-- it never hangs on the values: Direct is of mode Direct, and has no mark
pub record Steady (o : Operand) (f : ℕ) : Type 0 where
  pub always : (v : Values) (page : Page) → form_of o v page ≡ f
  pub unmarked : (eqb o.mode mode_extended && eqb f direct) ≡ false
  pub memory : is_memory f ≡ true → (eqb o.mode mode_direct ≡ true) × (eqb f direct ≡ true)

-- or it is Direct or Extended
pub record Free (o : Operand) : Type 0 where
  pub mode : eqb o.mode mode_extended ≡ true
  pub always : (v : Values) (page : Page) → form_of o v page ≡ pick (becomes_direct o v page) direct extended

pub data Formed (o : Operand) : Type 0 where
  is_steady : (f : ℕ) → Steady o f → Formed o
  is_free : Free o → Formed o

pub one_of_two : (o : Operand) → Free o → (v : Values) (page : Page) → is_memory (form_of o v page) ≡ true
one_of_two o f v page = rw (f.always v page) (by_pick (λ (k : ℕ). is_memory k ≡ true) (becomes_direct o v page) refl refl)

-- "a row without Extended but with Relative"
abbrev on_rows : Operand → Bool
on_rows o = not (has_form_of o.operation extended) && has_form_of o.operation relative

-- by the mode
module _ (o : Operand) where
  in_register : o.mode ≡ mode_register → Formed o
  unfolding form_of register_form pick
  in_register e =
      let P : ℕ → Type 0 = λ f. is_memory f ≡ true → (eqb o.mode mode_direct ≡ true) × (eqb f direct ≡ true) in
      is_steady (register_form o) (record {
        always = λ v page. rw e;
        unmarked = rw e;
        memory = by_pick P (has_form_of o.operation register) (λ z. absurd (false≢true z)) (λ z. absurd (false≢true z));
      })

  in_extended : o.mode ≡ mode_extended → Formed o
  unfolding form_of extended_form pick
  in_extended e = go o.indirect refl (on_rows o) refl
    where
      go : (a : Bool) → o.indirect ≡ a → (b : Bool) → on_rows o ≡ b → Formed o
      go true p b q = is_steady indexed (record { always = λ v page. rw (e, p); unmarked = rw e; memory = λ z. absurd (false≢true z) })
      go false p true q = is_steady relative (record { always = λ v page. rw (e, p, q); unmarked = rw e; memory = λ z. absurd (false≢true z) })
      go false p false q = is_free (record { mode = rw e; always = λ v page. rw (e, p, q) })

  in_direct : o.mode ≡ mode_direct → Formed o
  unfolding form_of pick
  in_direct e = is_steady direct (record { always = λ v page. rw e; unmarked = rw e; memory = λ _. (rw e, refl) })

  in_immediate : o.mode ≡ mode_immediate → Formed o
  unfolding form_of pick
  in_immediate e = is_steady immediate (record { always = λ v page. rw e; unmarked = rw e; memory = λ z. absurd (false≢true z) })

  in_inherent : o.mode ≡ mode_inherent → Formed o
  unfolding form_of pick
  in_inherent e = is_steady inherent (record { always = λ v page. rw e; unmarked = rw e; memory = λ z. absurd (false≢true z) })

  pub formed : Formed o
  unfolding form_of pick
  formed =
      go (eqb o.mode mode_register) refl (eqb o.mode mode_extended) refl (eqb o.mode mode_direct) refl (eqb o.mode mode_immediate) refl (eqb o.mode mode_inherent) refl
    where
      go :
          (a : Bool) → eqb o.mode mode_register ≡ a →
          (b : Bool) → eqb o.mode mode_extended ≡ b →
          (c : Bool) → eqb o.mode mode_direct ≡ c →
          (d : Bool) → eqb o.mode mode_immediate ≡ d →
          (e : Bool) → eqb o.mode mode_inherent ≡ e →
          Formed o
      go true p b q c r d s e t = in_register (eqb-true o.mode mode_register p)
      go false p true q c r d s e t = in_extended (eqb-true o.mode mode_extended q)
      go false p false q true r d s e t = in_direct (eqb-true o.mode mode_direct r)
      go false p false q false r true s e t = in_immediate (eqb-true o.mode mode_immediate s)
      go false p false q false r false s true t = in_inherent (eqb-true o.mode mode_inherent t)
      go false p false q false r false s false t =
          is_steady indexed (record { always = λ v page. rw (p, q, r, s, t); unmarked = rw q; memory = λ z. absurd (false≢true z) })

-- ---- Relative
-- it is Extended mode's alone, on a row of a branch, and hangs on nothing else
pub record IsBranch (o : Operand) : Type 0 where
  pub mode : eqb o.mode mode_extended ≡ true
  pub straight : o.indirect ≡ false
  pub rows : on_rows o ≡ true

pub branch_form : (o : Operand) → IsBranch o → (v : Values) (page : Page) → form_of o v page ≡ relative
unfolding form_of extended_form pick
branch_form o b v page = rw (eqb-true o.mode mode_extended b.mode, b.straight, b.rows)

pub relative_branch : (o : Operand) (v : Values) (page : Page) → form_of o v page ≡ relative → IsBranch o
unfolding form_of extended_form register_form
relative_branch o v page =
    let P : ℕ → Type 0 = λ f. f ≡ relative → IsBranch o in
    by_pick P (eqb o.mode mode_register) (by_pick P (has_form_of o.operation register) (λ z. absurd (omega arith)) (λ z. absurd (omega arith)))
    (by_test P (eqb o.mode mode_extended)
    (λ m. by_test P o.indirect (λ _ z. absurd (omega arith))
    (λ s. by_test P (on_rows o) (λ b _. record { mode = m; straight = s; rows = b })
    (λ _. by_pick P (becomes_direct o v page) (λ z. absurd (omega arith)) (λ z. absurd (omega arith)))))
    (λ _. by_pick P (eqb o.mode mode_direct) (λ z. absurd (omega arith))
    (by_pick P (eqb o.mode mode_immediate) (λ z. absurd (omega arith))
    (by_pick P (eqb o.mode mode_inherent) (λ z. absurd (omega arith)) (λ z. absurd (omega arith))))))
