-- How many bytes of number an operation takes, by its name: from the sizes of the registers on which the sheet's operations work. Sizes.antt reads the
-- same from page and code, for encoder and decoder alike, so that what is wrong there reads back all the same. Neither is made from the other, and
-- proofs/Sources.antt shows that both say the same of every row.
use Rattle.std.specs.Prelude.{ℕ, Bool, ◌||◌, List, [], ◌∷◌, eqb}
use Rattle.ground.specs.Choice.{pick}
use Rattle.rows.specs.Forms.{immediate, direct, extended, relative}
use Rattle.rows.specs.Sizes.{any_of, between}

-- the registers that take an immediate
pub data Register : Type 0 where
  A : Register
  B : Register
  D : Register
  X : Register
  Y : Register
  U : Register
  S : Register
  CC : Register

abbrev pub registers : List Register
registers = A ∷ B ∷ D ∷ X ∷ Y ∷ U ∷ S ∷ CC ∷ []

-- the sheet: A, B and CC have 8 bits, D, X, Y, U and S have 16
abbrev pub bytes_of : Register → ℕ
bytes_of A = 1
bytes_of B = 1
bytes_of D = 2
bytes_of X = 2
bytes_of Y = 2
bytes_of U = 2
bytes_of S = 2
bytes_of CC = 1

-- the operations that work on a register with an immediate, in the sheet's order
abbrev pub immediates_on : Register → List ℕ
-- SUBA CMPA SBCA ANDA BITA LDA EORA ADCA ORA ADDA
immediates_on A = 48 ∷ 49 ∷ 50 ∷ 52 ∷ 53 ∷ 54 ∷ 56 ∷ 57 ∷ 58 ∷ 59 ∷ []
-- SUBB CMPB SBCB ANDB BITB LDB EORB ADCB ORB ADDB
immediates_on B = 64 ∷ 65 ∷ 66 ∷ 68 ∷ 69 ∷ 70 ∷ 72 ∷ 73 ∷ 74 ∷ 75 ∷ []
-- SUBD ADDD LDD CMPD
immediates_on D = 51 ∷ 67 ∷ 76 ∷ 114 ∷ []
-- CMPX LDX
immediates_on X = 60 ∷ 62 ∷ []
-- CMPY LDY
immediates_on Y = 115 ∷ 116 ∷ []
-- LDU CMPU
immediates_on U = 78 ∷ 121 ∷ []
-- LDS CMPS
immediates_on S = 117 ∷ 122 ∷ []
-- the masks of ORCC ANDCC CWAI
immediates_on CC = 133 ∷ 134 ∷ 135 ∷ []

-- an immediate is as long as its register; 0 for an operation that works on none of them so
abbrev pub bytes_among : ℕ → List Register → ℕ
bytes_among o [] = 0
bytes_among o (r ∷ rs) = pick (any_of o (immediates_on r)) (bytes_of r) (bytes_among o rs)

-- the operations that reach memory: NEG COM LSR ROR ASR ASL ROL DEC INC TST JMP CLR, SUBA to STX, SUBB to STU, CMPD CMPY LDY LDS STY STS, CMPU CMPS
unfoldable pub reaches_memory : ℕ → Bool
reaches_memory o =
    any_of o (0 ∷ 3 ∷ 4 ∷ 6 ∷ 7 ∷ 8 ∷ 9 ∷ 10 ∷ 12 ∷ 13 ∷ 14 ∷ 15 ∷ [])
    || between 48 63 o || between 64 79 o || between 114 119 o || between 121 122 o

-- BRA to BLE and BSR are short, LBRA to LBLE and LBSR are long
unfoldable pub is_short_branch : ℕ → Bool
is_short_branch o = between 80 95 o || eqb o 113

unfoldable pub is_long_branch : ℕ → Bool
is_long_branch o = between 96 111 o || eqb o 112

-- an address is one byte direct and two extended, a distance one byte short and two long; nothing else is a number after a code
unfoldable pub number_for : ℕ → ℕ → ℕ
number_for o form =
    pick (eqb form immediate) (bytes_among o registers)
    (pick (eqb form direct) (pick (reaches_memory o) 1 0)
    (pick (eqb form extended) (pick (reaches_memory o) 2 0)
    (pick (eqb form relative) (pick (is_short_branch o) 1 (pick (is_long_branch o) 2 0)) 0)))
