-- 01: "Pushes: the sheet's bits; D is A with B; naming one twice changes nothing. EXG/TFR codes: the sheet's, source high; both of one size."
use Rattle.std.specs.Prelude.{ℕ, ◌+◌, ◌*◌, ◌/◌, ◌%◌, ◌^◌, ◌||◌, not, List, [], ◌∷◌, eqb, length, take, get_or, Result, Ok, Err}
use Rattle.ground.specs.Choice.{pick}
use Rattle.ground.specs.declared.refusals.Refusal.{Refusal}
use Rattle.ground.specs.declared.refusals.Refusal.TheVariants.{Unknown, BadRegister}
use Rattle.postbytes.specs.Lists.{not_stack, strange_list, among, boxes, size_of}

-- the boxes of those registers that are in the list, ticked; the first of n boxes is bit n - 1
abbrev pub ticks : List ℕ → List ℕ → ℕ
ticks [] list = 0
ticks (r ∷ rs) list = pick (among r list) (2 ^ length rs) 0 + ticks rs list

-- the same of a set, which has bit r for register r
abbrev pub ticks_of_set : List ℕ → ℕ → ℕ
ticks_of_set [] set = 0
ticks_of_set (r ∷ rs) set = pick (eqb (set / 2 ^ r % 2) 1) (2 ^ length rs) 0 + ticks_of_set rs set

unfoldable pub push_byte_of : ℕ → List ℕ → ℕ
push_byte_of own list = ticks (boxes own) list

-- "Pushes name 1 to 8 registers", and not their "own stack pointer"
unfoldable pub push_of : ℕ → List ℕ → ℕ → Result ℕ Refusal
push_of own registers count =
    pick (not_stack own || strange_list registers count) (Err Unknown)
    (pick (eqb count 0 || among own (take count registers)) (Err BadRegister)
    (Ok (push_byte_of own (take count registers))))

-- the sheet's transfer codes of A, B, D, X, Y, U, S, PC, CC, DP
abbrev pub codes : List ℕ
codes = 0x8 ∷ 0x9 ∷ 0x0 ∷ 0x1 ∷ 0x2 ∷ 0x3 ∷ 0x4 ∷ 0x5 ∷ 0xA ∷ 0xB ∷ []

unfoldable pub code_of : ℕ → ℕ
code_of r = get_or codes r 0

-- "EXG and TFR two", "source high; both of one size"
unfoldable pub paired_of : List ℕ → ℕ → Result ℕ Refusal
paired_of registers count =
    pick (strange_list registers count) (Err Unknown)
    (pick (not (eqb count 2) || not (eqb (size_of (get_or registers 0 0)) (size_of (get_or registers 1 0)))) (Err BadRegister)
    (Ok (code_of (get_or registers 0 0) * 16 + code_of (get_or registers 1 0))))
