-- How many bytes stand after a code, as the sheet says of codes, and the long branch of a short one.
use Rattle.std.specs.Prelude.{ℕ, zero, suc, ◌+◌, ◌*◌, min, Bool, false, ◌&&◌, ◌||◌, not, Result, Ok, Err, List, [], ◌∷◌, eqb, leb}
use Rattle.ground.specs.Choice.{pick}
use Rattle.ground.specs.declared.refusals.Refusal.{Refusal}
use Rattle.rows.specs.declared.Code.{Code}
use Rattle.rows.specs.Forms.{immediate, direct, indexed, extended, relative, register}
use Rattle.rows.specs.Lookup.{merged_of, code_of, forms}

abbrev pub any_of : ℕ → List ℕ → Bool
any_of n [] = false
any_of n (m ∷ ms) = eqb n m || any_of n ms

-- immediates are 16 bits wide at 83 SUBD, 8C CMPX, 8E LDX, C3 ADDD, CC LDD, CE LDU and at all of the pages 10 and 11, else 8
unfoldable pub is_wide : ℕ → ℕ → Bool
is_wide page code = not (eqb page 0x00) || any_of code (0x83 ∷ 0x8C ∷ 0x8E ∷ 0xC3 ∷ 0xCC ∷ 0xCE ∷ [])

-- "Long: 16 LBRA, 17 LBSR, the rest 10 21 to 10 2F"
unfoldable pub is_long : ℕ → ℕ → Bool
is_long page code = not (eqb page 0x00) || any_of code (0x16 ∷ 0x17 ∷ [])

-- the bytes of number after a code: none inherent, one direct, two extended; an indexed or a register row has a postbyte in their stead
unfoldable pub number_at : ℕ → ℕ → ℕ → ℕ
number_at form page code =
    pick (eqb form immediate) (pick (is_wide page code) 2 1)
    (pick (eqb form direct) 1
    (pick (eqb form extended) 2
    (pick (eqb form relative) (pick (is_long page code) 2 1) 0)))

-- what a function of page and code says of a row, and 0 where there is none
abbrev pub of_code : (ℕ → ℕ → ℕ) → Result Code Refusal → ℕ
of_code f (Ok c) = f c.page c.code
of_code f (Err refusal) = 0

unfoldable pub number_size_of : ℕ → ℕ → ℕ
number_size_of o form = of_code (number_at form) (code_of o form)

-- in bits; 0 where the operation has no immediate form
unfoldable pub immediate_width_of : ℕ → ℕ
immediate_width_of o = number_size_of o immediate * 8

-- the least bytes of a row: its code, with its prefix, and its number or its postbyte (which may have bytes of its own after it)
unfoldable pub least_at : ℕ → ℕ → ℕ → ℕ
least_at form page code =
    pick (eqb page 0x00) 1 2 + pick (eqb form indexed || eqb form register) 1 (number_at form page code)

-- the lesser of two sizes, where 0 is none
abbrev pub lesser : ℕ → ℕ → ℕ
lesser zero b = b
lesser (suc a) zero = suc a
lesser (suc a) (suc b) = suc (min a b)

abbrev pub least_among : ℕ → List ℕ → ℕ
least_among o [] = 0
least_among o (form ∷ fs) = lesser (of_code (least_at form) (code_of o form)) (least_among o fs)

-- "its row's smallest size": the least over all forms that the operation has, and 0 of an unknown one
unfoldable pub smallest_size_of : ℕ → ℕ
smallest_size_of o = least_among o forms

abbrev pub between : ℕ → ℕ → ℕ → Bool
between a b n = leb a n && leb n b

-- the long branch of a short one, aliases merged: BRA to BLE are 80 to 95, LBRA to LBLE 96 to 111, LBSR 112, BSR 113
unfoldable pub long_from : ℕ → ℕ
long_from o = pick (between 80 95 o) (o + 16) (pick (eqb o 113) 112 o)

unfoldable pub long_of : ℕ → ℕ
long_of o = long_from (merged_of o)
