-- 02 e: "Known 0 answers as clean did, unknown as dirty did, and equality with the Rust is claimed for those two." Under the page that a flag stood for, making and
-- building are what they were with the flag (Was.antt), so what runs show of the Rust with its flag holds of these two pages.
-- Assumes nothing.
use mathlib.Core.Path.{◌≡◌, refl, ap}
use mathlib.Core.Bool.{Bool, true, false, ◌&&◌, and-true}
use Prim.Native.Nat.{ℕ}
use native.Mathlib.Omega.{arith}
use lib.Dec.{eqb, ltb}
use borrow.Author.Tests.{ltb-true, ltb-false, le-ltb, lt-ltb}
use Rattle.std.specs.Prelude.{Result, Ok, Err}
use Rattle.ground.specs.Choice.{pick}
use Rattle.ground.specs.declared.refusals.Refusal.{Refusal}
use Rattle.values.specs.declared.pages.Page.{Page}
use Rattle.values.specs.declared.pages.Page.TheVariants.{Unknown, Known}
use Rattle.values.specs.Pages.{reaches}
use Rattle.values.proofs.Reached.{zero_reaches}
use Rattle.instruction.specs.declared.Operand.{Operand}
use Rattle.instruction.specs.declared.Values.{Values}
use Rattle.instruction.specs.declared.Record.{Record}
use Rattle.instruction.specs.declared.Instruction.{Instruction}
use Rattle.instruction.specs.Forms.{becomes_direct, extended_form, form_of}
use Rattle.instruction.specs.Choosing.{forced_wide, stays_direct, directly_of, anew_of, address_of, choose_of}
use Rattle.instruction.specs.Building.{no_values, operand_refusal, make_of, tried_of, build_of, fresh_from, fresh_of}
use Rattle.instruction.proofs.Was as was

-- clean was page 0, dirty the unknown page
abbrev pub page_of : Bool → Page
page_of true = Unknown
page_of false = Known 0

abbrev pub record_of : Operand → Bool → Values → Record
record_of o dirty v = record { operand = o; page = page_of dirty; values = v }

on_page_lem : (dirty : Bool) (n : ℕ) → reaches (page_of dirty) n ≡ was.on_page dirty n
unfolding was.on_page
on_page_lem true n = refl
on_page_lem false n = zero_reaches n

becomes_as : (o : Operand) (v : Values) (dirty : Bool) → becomes_direct o v (page_of dirty) ≡ was.becomes_direct o v dirty
unfolding becomes_direct was.becomes_direct
becomes_as o v dirty = rw (on_page_lem dirty v.unsigned.number)

form_as : (o : Operand) (v : Values) (dirty : Bool) → form_of o v (page_of dirty) ≡ was.form_of o v dirty
unfolding form_of extended_form was.form_of was.extended_form
form_as o v dirty = rw (becomes_as o v dirty)

wide_as : (i : Instruction) (v : Values) → forced_wide i v (Known 0) ≡ was.forced_wide i v
unfolding forced_wide was.forced_wide
wide_as i v = ap (λ (b : Bool). i.operand.forced && b) (and-true (eqb v.unsigned.width 16))

stays_as : (i : Instruction) (v : Values) (dirty : Bool) → stays_direct i v (page_of dirty) ≡ was.stays_direct i v dirty
unfolding stays_direct was.stays_direct pick
stays_as i v true = refl
stays_as i v false = go (ltb n 256) refl
  where
    n : ℕ
    n = v.unsigned.number

    go : (b : Bool) → ltb n 256 ≡ b → stays_direct i v (Known 0) ≡ was.stays_direct i v false
    go true e = rw (zero_reaches n, e, wide_as i v, le-ltb 255 n (omega (arith, ltb-true n 256 e)))
    go false e = rw (zero_reaches n, e, lt-ltb 255 n (omega (arith, ltb-false n 256 e)))

-- ---- each answer
pub choose_as : (i : Instruction) (v : Values) (dirty : Bool) (address : ℕ) → choose_of i v (page_of dirty) address ≡ was.choose_of i v dirty address
unfolding choose_of address_of directly_of anew_of was.choose_of was.address_of was.directly_of was.anew_of
choose_as i v dirty address = rw (becomes_as i.operand v dirty, stays_as i v dirty)

pub operand_as : (o : Operand) → operand_refusal o ≡ was.operand_refusal o
unfolding operand_refusal was.operand_refusal form_of extended_form becomes_direct was.form_of was.extended_form was.becomes_direct no_values
operand_as o = refl

pub make_as : (o : Operand) (v : Values) (dirty : Bool) → make_of (record_of o dirty v) ≡ was.make_of o dirty v
unfolding make_of was.make_of
make_as o v dirty = rw (form_as o v dirty)

pub tried_as : (i : Instruction) (v : Values) (dirty : Bool) (address : ℕ) → tried_of i v (page_of dirty) address ≡ was.tried_of i v dirty address
unfolding tried_of was.tried_of
tried_as i v dirty address = rw (choose_as i v dirty address)

pub build_as : (i : Instruction) (v : Values) (dirty : Bool) (address : ℕ) → build_of i v (page_of dirty) address ≡ was.build_of i v dirty address
unfolding build_of was.build_of
build_as i v dirty address = rw (tried_as i v dirty address)

pub fresh_as : (o : Operand) (v : Values) (dirty : Bool) (address : ℕ) → fresh_of (record_of o dirty v) address ≡ was.fresh_of o dirty v address
unfolding fresh_of was.fresh_of
fresh_as o v dirty address = rw (make_as o v dirty) (from (was.make_of o dirty v))
  where
    from : (m : Result Instruction Refusal) → fresh_from m (record_of o dirty v) address ≡ was.fresh_from m dirty v address
    from (Ok i) = tried_as i v dirty address
    from (Err n) = refl
