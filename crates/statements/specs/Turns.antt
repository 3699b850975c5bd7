-- 02 e: "a statement SETDP with a number 0 to 255 sets it for the rest of a pass", "An operation that dirtied the page now makes it unknown."
use Rattle.values.specs.declared.pages.Page.{Page}
use Rattle.values.specs.declared.pages.Page.TheVariants.{Unknown, Known}
use Rattle.statements.specs.declared.Turn.{Turn}
use Rattle.statements.specs.declared.Turn.TheVariants.{Keeps, Forgets, Sets}

-- the page after a statement: SETDP sets it, what dirtied it leaves it unknown, anything else, a refused one too, keeps it
abbrev pub turned : Turn → Page → Page
turned Keeps page = page
turned Forgets page = Unknown
turned (Sets high) page = Known high
