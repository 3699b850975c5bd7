-- 01, "Choosing the form", under a page (02 e): the form that a record asks for.
use Rattle.std.specs.Prelude.{ℕ, Bool, ◌&&◌, ◌||◌, not, eqb, ltb, leb}
use Rattle.ground.specs.Choice.{pick}
use Rattle.values.specs.declared.pages.Page.{Page}
use Rattle.values.specs.Pages.{reaches}
use Rattle.rows.specs.Forms.{inherent, immediate, direct, indexed, extended, relative, register}
use Rattle.rows.specs.Lookup.{has_form_of}
use Rattle.instruction.specs.declared.Operand.{Operand}
use Rattle.instruction.specs.declared.Values.{Values}
use Rattle.instruction.specs.Names.{mode_register, mode_pc_relative, mode_extended, mode_direct, mode_immediate, mode_inherent}

-- "An unforced address is Direct when the page is known and equals its high byte", when it is made and at each build
unfoldable pub becomes_direct : Operand → Values → Page → Bool
becomes_direct o v page = v.given && (not o.forced && reaches page v.unsigned.number)

-- "Extended mode: indirect is Indexed; a row without Extended but with Relative is Relative", and then by the page
unfoldable pub extended_form : Operand → Values → Page → ℕ
extended_form o v page =
    pick o.indirect indexed
    (pick (not (has_form_of o.operation extended) && has_form_of o.operation relative) relative
    (pick (becomes_direct o v page) direct extended))

-- "These six rows take Register mode only"; "Elsewhere Register mode is the accumulator offset"
unfoldable pub register_form : Operand → ℕ
register_form o = pick (has_form_of o.operation register) register indexed

-- Offset, PCRelative and IncDec are indexed
unfoldable pub form_of : Operand → Values → Page → ℕ
form_of o v page =
    pick (eqb o.mode mode_register) (register_form o)
    (pick (eqb o.mode mode_extended) (extended_form o v page)
    (pick (eqb o.mode mode_direct) direct
    (pick (eqb o.mode mode_immediate) immediate
    (pick (eqb o.mode mode_inherent) inherent indexed))))

-- a kept instruction's mode and form need not fit each other. Where the bytes hang on the mode, they must: the modes Direct, Immediate and Inherent say of no
-- postbyte which it is, and the rows of register lists "take Register mode only". The other forms take a number or nothing, whatever the mode.
unfoldable pub strays : ℕ → ℕ → Bool
strays mode form = (eqb form indexed && ltb mode_extended mode) || (eqb form register && not (eqb mode mode_register))

-- "the row has no such mode"
unfoldable pub lacks : Operand → ℕ → Bool
lacks o form = not (has_form_of o.operation form) || strays o.mode form

-- "required value missing": Extended (indirect too), Direct, Immediate and PCRelative need one, and so does any form that is a number
unfoldable pub needs_value : ℕ → ℕ → Bool
needs_value mode form =
    (eqb mode mode_pc_relative || (leb mode_extended mode && leb mode mode_immediate))
    || (eqb form immediate || (eqb form direct || (eqb form extended || eqb form relative)))
