-- Lists of registers: what they name, for those who write them and those who read them.
use Rattle.std.specs.Prelude.{ℕ, Bool, ◌&&◌, ◌||◌, not, List, [], ◌∷◌, eqb, ltb, leb, take}
use Rattle.std.specs.List.{list_any}
use Rattle.ground.specs.Choice.{pick}
use Rattle.postbytes.specs.Registers.{A, B, D, X, Y, U, S, PC, CC, DP, unknown_register}

-- a register of the list is unknown
unfoldable pub any_unknown : List ℕ → Bool
any_unknown list = list_any unknown_register list

-- "over 8 registers", or one of those that count is unknown
unfoldable pub strange_list : List ℕ → ℕ → Bool
strange_list registers count = ltb 8 count || any_unknown (take count registers)

-- "D is A with B": naming n puts r in the list
abbrev pub covers : ℕ → ℕ → Bool
covers r n = eqb n r || (eqb n D && (eqb r A || eqb r B))

-- the register r is in the list
unfoldable pub among : ℕ → List ℕ → Bool
among r list = list_any (covers r) list

-- a push's own stack pointer is S or U
abbrev pub not_stack : ℕ → Bool
not_stack own = not (eqb own S || eqb own U)

-- the other stack's pointer; own is U, or else S
unfoldable pub other_of : ℕ → ℕ
other_of own = pick (eqb own U) S U

-- the sheet's row of boxes of the push byte, bit 7 to bit 0:
--     PSHS, PULS    | PC | U | Y | X | DP | B | A | CC |
--     PSHU, PULU    | PC | S | Y | X | DP | B | A | CC |
abbrev pub boxes : ℕ → List ℕ
boxes own = PC ∷ other_of own ∷ Y ∷ X ∷ DP ∷ B ∷ A ∷ CC ∷ []

-- the bits of a register: D, X, Y, U, S and PC have 16, A, B, CC and DP have 8
unfoldable pub size_of : ℕ → ℕ
size_of r = pick (leb D r && leb r PC) 16 8
