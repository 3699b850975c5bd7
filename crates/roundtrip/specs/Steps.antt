-- What the code hands from part to part; only private contracts cite it.
use Rattle.std.specs.Prelude.{ℕ, ◌%◌, Bool, false, List, eqb, Result, Ok, Err}
use Rattle.ground.specs.declared.refusals.Refusal.{Refusal}
use Rattle.reader.specs.declared.runs.Run.{Run}
use Rattle.decoder.specs.declared.Decoded.{Decoded}
use Rattle.decoder.specs.Meaning.{Answer}
use Rattle.meanings.specs.ReadBack.{read_told}
use Rattle.laying.specs.Entries.{entry_at}
use Rattle.laying.specs.Laying.{built_at}
use Rattle.roundtrip.specs.Same.{agreed, all_agree}
use Rattle.roundtrip.specs.Comparing.{answer}
use Rattle.roundtrip.specs.declared.Compared.{Compared}

-- what the row that begins at a place means, at that address
abbrev pub meant_at : List ℕ → (row at : ℕ) → Decoded
meant_at list row at = read_told (entry_at list row).values (at % 65536) (built_at (entry_at list row) at)

-- no run is left, by what is asked at a place
abbrev pub none_left : Result Run Refusal → Bool
none_left (Ok r) = eqb r.bytes 0
none_left (Err e) = false

-- how far they agree
abbrev pub agreement : List Decoded → List Answer → Compared
agreement xs ys = answer (all_agree xs ys) (agreed xs ys)
