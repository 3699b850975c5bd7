-- What the reading of bytes hangs on beside them: where they stand, and the page of direct addresses. Only the definitions here look into it.
use Rattle.std.specs.Prelude.{ℕ, ◌+◌, Bool, ◌&&◌, List, eqb, ltb, length}
use Rattle.ground.specs.Words.{plus, word, low}
use Rattle.values.specs.declared.pages.Page.{Page}
use Rattle.values.specs.declared.pages.Page.TheVariants.{Unknown, Known}
use Rattle.values.specs.Pages.{is_unknown}
use Rattle.rows.specs.Forms as forms
use Rattle.decoder.specs.declared.Origin.{Origin}

abbrev pub origin : ℕ → Page → Origin
origin address page = record { address = address; page = page }

-- the same, so many bytes further on; addresses go modulo 65536
unfoldable pub shifted : Origin → ℕ → Origin
shifted from n = record { address = plus from.address n; page = from.page }

-- "a byte beyond 65535"
unfoldable pub outside : List ℕ → Origin → Bool
outside l from = ltb 65536 (from.address + length l)

-- the sheet: an offset from PC counts from the address of the next instruction, as a branch does; "its target modulo 65536"
unfoldable pub target_of : Origin → ℕ → ℕ
target_of next offset = plus next.address offset

-- "Direct and extended are one kind with the 16-bit address": a direct address lies in its page; under an unknown one no operand is read
abbrev pub direct_in : Page → ℕ → ℕ
direct_in Unknown b = b
direct_in (Known high) b = word high (low b)

unfoldable pub direct_of : Origin → ℕ → ℕ
direct_of after b = direct_in after.page b

-- 02 e: "14 for a direct opcode read under an unknown page"
unfoldable pub unseen : ℕ → Origin → Bool
unseen form after = eqb form forms.direct && is_unknown after.page
