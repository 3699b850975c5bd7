-- What a list of instructions means, from address to address: for each its length, and its meaning "taken from its record, its address and the form
-- and size chosen", never from its bytes. This is what decoding the laid bytes must answer.
use Rattle.std.specs.Prelude.{ℕ, ◌+◌, ◌%◌, Bool, true, ◌&&◌, List, [], ◌∷◌}
use Rattle.values.specs.declared.pages.Page.{Page}
use Rattle.values.specs.Pages.{meets}
use Rattle.decoder.specs.declared.Decoded.{Decoded}
use Rattle.instruction.specs.declared.Record.{Record}
use Rattle.instruction.specs.Building.{size_told}
use Rattle.meanings.specs.ReadBack.{read_told}
use Rattle.laying.specs.Laying.{built_at}

unfoldable pub meanings_from : List Record → ℕ → List Decoded
meanings_from [] at = []
meanings_from (entry ∷ entries) at =
    read_told entry.values (at % 65536) (built_at entry at) ∷ meanings_from entries (at + size_told (built_at entry at))

-- the page of a reader meets that of each record: every known page of the list is the reader's
unfoldable pub all_meet : Page → List Record → Bool
all_meet page [] = true
all_meet page (entry ∷ entries) = meets page entry.page && all_meet page entries
