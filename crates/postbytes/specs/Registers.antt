-- The registers and steps by number, and which of them are unknown.
use Rattle.std.specs.Prelude.{ℕ, Bool, ◌||◌, ltb, leb}

abbrev pub A : ℕ
A = 0

abbrev pub B : ℕ
B = 1

abbrev pub D : ℕ
D = 2

abbrev pub X : ℕ
X = 3

abbrev pub Y : ℕ
Y = 4

abbrev pub U : ℕ
U = 5

abbrev pub S : ℕ
S = 6

abbrev pub PC : ℕ
PC = 7

abbrev pub CC : ℕ
CC = 8

abbrev pub DP : ℕ
DP = 9

-- no register has this number
abbrev pub unknown_register : ℕ → Bool
unknown_register r = leb 10 r

-- no step has this number: 1 `,R+`, 2 `,R++`, 3 `,-R`, 4 `,--R`
abbrev pub unknown_step : ℕ → Bool
unknown_step k = ltb k 1 || ltb 4 k

-- none of X, Y, U, S
abbrev pub not_indexing : ℕ → Bool
not_indexing r = ltb r X || ltb S r

-- none of A, B, D
abbrev pub not_accumulator : ℕ → Bool
not_accumulator a = leb 3 a
