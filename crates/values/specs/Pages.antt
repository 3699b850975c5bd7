-- 02 e: "The page flag in the operand record becomes "unknown" or a known page 0 to 255". A page is the high byte of the addresses that a direct code reaches.
use Rattle.std.specs.Prelude.{ℕ, ◌/◌, Bool, true, false, eqb, ltb, leb}
use Rattle.ground.specs.Choice.{pick}
use Rattle.values.specs.declared.pages.Page.{Page}
use Rattle.values.specs.declared.pages.Page.TheVariants.{Unknown, Known}

-- "An unforced address is Direct when the page is known and equals its high byte."
abbrev pub reaches : Page → ℕ → Bool
reaches Unknown n = false
reaches (Known high) n = eqb high (n / 256)

abbrev pub is_unknown : Page → Bool
is_unknown Unknown = true
is_unknown (Known high) = false

-- "under known page 0 only"
abbrev pub is_zero : Page → Bool
is_zero Unknown = false
is_zero (Known high) = eqb high 0

-- ---- a page's number in a row (docs/ROWS.md)
abbrev pub number_of_page : Page → ℕ
number_of_page Unknown = 256
number_of_page (Known high) = high

-- another number is refused 1 where the row is read
unfoldable pub is_page : ℕ → Bool
is_page n = leb n 256

unfoldable pub page_numbered : ℕ → Page
page_numbered n = pick (ltb n 256) (Known n) Unknown

-- ---- building under one page and reading under another
-- a reader's page serves what was built under that very page, and what was built under none, which has no direct code
abbrev pub meets : Page → Page → Bool
meets reader Unknown = true
meets Unknown (Known page) = false
meets (Known high) (Known page) = eqb high page
