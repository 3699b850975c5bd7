-- The sheet's opcode rows, page by page and mode by mode, by the regularities that 01's section "Opcode rows" lists.
-- A row is its code times 256 plus its operation's number. docs/ROWS.md numbers operations and forms.
use Rattle.std.specs.Prelude.{ℕ, zero, suc, ◌+◌, ◌*◌, List, [], ◌∷◌, ◌++◌, eqb}
use Rattle.ground.specs.Choice.{pick}
use Rattle.rows.specs.Forms.{inherent, immediate, direct, indexed, extended, relative, register}

-- a code that the sheet leaves undefined
abbrev pub hole : ℕ
hole = 256

-- operations at codes that follow one another from a first
abbrev pub run : ℕ → List ℕ → List ℕ
run code [] = []
run code (o ∷ os) = pick (eqb o hole) (run (code + 1) os) ((code * 256 + o) ∷ run (code + 1) os)

-- n numbers that follow one another from a first
abbrev pub count : ℕ → ℕ → List ℕ
count a zero = []
count a (suc n) = a ∷ count (a + 1) n

-- the same rows at codes further on, with operations further on
abbrev pub moved : ℕ → ℕ → List ℕ → List ℕ
moved codes operations [] = []
moved codes operations (r ∷ rs) = (r + codes * 256 + operations) ∷ moved codes operations rs

-- "The sheet's 00 to 0F, NEG to CLR": NEG . . COM LSR . ROR ASR ASL ROL DEC . INC TST JMP CLR
abbrev pub neg_to_clr : List ℕ
neg_to_clr = run 0x00 (0 ∷ hole ∷ hole ∷ 3 ∷ 4 ∷ hole ∷ 6 ∷ 7 ∷ 8 ∷ 9 ∷ 10 ∷ hole ∷ 12 ∷ 13 ∷ 14 ∷ 15 ∷ [])

-- ".. (not JMP)"
abbrev pub not_jmp : List ℕ
not_jmp = run 0x00 (0 ∷ hole ∷ hole ∷ 3 ∷ 4 ∷ hole ∷ 6 ∷ 7 ∷ 8 ∷ 9 ∷ 10 ∷ hole ∷ 12 ∷ 13 ∷ hole ∷ 15 ∷ [])

-- "+40 on A, +50 on B"
abbrev pub on_registers : List ℕ
on_registers = moved 0x40 16 not_jmp ++ moved 0x50 32 not_jmp

-- "By the sheet's codes: NOP SYNC DAA SEX RTS ABX RTI MUL SWI inherent"
abbrev pub nop_to_swi : List ℕ
nop_to_swi =
    run 0x12 (124 ∷ 125 ∷ []) ++ run 0x19 (126 ∷ []) ++ run 0x1D (127 ∷ [])
    ++ run 0x39 (128 ∷ 129 ∷ 130 ∷ hole ∷ 131 ∷ hole ∷ 132 ∷ [])

-- "ORCC ANDCC CWAI immediate"
abbrev pub on_flags : List ℕ
on_flags = run 0x1A (133 ∷ hole ∷ 134 ∷ []) ++ run 0x3C (135 ∷ [])

-- "EXG TFR PSHS PULS PSHU PULU"
abbrev pub exg_to_pulu : List ℕ
exg_to_pulu = run 0x1E (136 ∷ 137 ∷ []) ++ run 0x34 (count 138 4)

-- "LEAX LEAY LEAS LEAU indexed"
abbrev pub leas : List ℕ
leas = run 0x30 (count 142 4)

-- "20 to 2F: the sheet's branches ..; 8D BSR. Long: 16 LBRA, 17 LBSR, the rest 10 21 to 10 2F"
abbrev pub branches : List ℕ
branches = run 0x16 (96 ∷ 112 ∷ []) ++ run 0x20 (count 80 16) ++ run 0x8D (113 ∷ [])

abbrev pub long_branches : List ℕ
long_branches = run 0x21 (count 97 15)

-- "80 .., plus 0 to F: SUBA CMPA SBCA SUBD ANDA BITA LDA STA EORA ADCA ORA ADDA CMPX JSR LDX STX"
abbrev pub sub_to_stx : List ℕ
sub_to_stx = run 0x80 (count 48 16)

-- "No immediate for stores and JSR"
abbrev pub not_stores : List ℕ
not_stores = run 0x80 (48 ∷ 49 ∷ 50 ∷ 51 ∷ 52 ∷ 53 ∷ 54 ∷ hole ∷ 56 ∷ 57 ∷ 58 ∷ 59 ∷ 60 ∷ hole ∷ 62 ∷ hole ∷ [])

-- "From C0 alike with B for A, but C3 ADDD, CC LDD, CD STD, CE LDU, CF STU"; the mode is so many codes further on
abbrev pub from_both : ℕ → List ℕ → List ℕ
from_both mode rows = moved mode 0 rows ++ moved (mode + 0x40) 16 rows

-- "Prefix 10: 83 CMPD, 8C CMPY, 8E LDY, CE LDS"
abbrev pub loads10 : List ℕ
loads10 = run 0x83 (114 ∷ []) ++ run 0x8C (115 ∷ hole ∷ 116 ∷ []) ++ run 0xCE (117 ∷ [])

-- "stores 9F STY, DF STS (same steps)": written at 8F and CF, from where the steps are those of the loads
abbrev pub all10 : List ℕ
all10 = run 0x83 (114 ∷ []) ++ run 0x8C (115 ∷ hole ∷ 116 ∷ 118 ∷ []) ++ run 0xCE (117 ∷ 119 ∷ [])

-- "Prefix 11: 83 CMPU, 8C CMPS"
abbrev pub all11 : List ℕ
all11 = run 0x83 (121 ∷ []) ++ run 0x8C (122 ∷ [])

-- the rows of a page, by form
abbrev pub by_form : (inh imm dir idx ext rel reg : List ℕ) → ℕ → List ℕ
by_form inh imm dir idx ext rel reg form =
    pick (eqb form inherent) inh
    (pick (eqb form immediate) imm
    (pick (eqb form direct) dir
    (pick (eqb form indexed) idx
    (pick (eqb form extended) ext
    (pick (eqb form relative) rel
    (pick (eqb form register) reg []))))))

-- "direct; +60 indexed, +70 extended"; "80 immediate, 90 direct, A0 indexed, B0 extended"
unfoldable pub page0 : ℕ → List ℕ
page0 =
    by_form
    (nop_to_swi ++ on_registers)
    (on_flags ++ from_both 0x00 not_stores)
    (neg_to_clr ++ from_both 0x10 sub_to_stx)
    (leas ++ moved 0x60 0 neg_to_clr ++ from_both 0x20 sub_to_stx)
    (moved 0x70 0 neg_to_clr ++ from_both 0x30 sub_to_stx)
    branches
    exg_to_pulu

-- "3F SWI2"
unfoldable pub page10 : ℕ → List ℕ
page10 =
    by_form
    (run 0x3F (120 ∷ []))
    loads10
    (moved 0x10 0 all10)
    (moved 0x20 0 all10)
    (moved 0x30 0 all10)
    long_branches
    []

-- "3F SWI3"
unfoldable pub page11 : ℕ → List ℕ
page11 =
    by_form
    (run 0x3F (123 ∷ []))
    all11
    (moved 0x10 0 all11)
    (moved 0x20 0 all11)
    (moved 0x30 0 all11)
    []
    []

-- the rows of a page in a form; there are no pages but 00, 10 and 11: "A second prefix is undefined"
unfoldable pub table_of : ℕ → ℕ → List ℕ
table_of page form =
    pick (eqb page 0x00) (page0 form)
    (pick (eqb page 0x10) (page10 form)
    (pick (eqb page 0x11) (page11 form) []))
