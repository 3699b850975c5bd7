-- What it is for an accepted build to be read back under a page: its bytes, whatever follows them, are decoded as exactly its length and its meaning.
use Rattle.std.specs.Prelude.{◌≡◌, List, ◌++◌, ℕ, ◌+◌, ◌≤◌, length, Ok, Result, Err}
use Rattle.ground.specs.declared.refusals.Refusal.{Refusal}
use Rattle.values.specs.declared.pages.Page.{Page}
use Rattle.decoder.specs.declared.Decoded.{Decoded}
use Rattle.decoder.specs.declared.Kind.TheVariants.{Inherent}
use Rattle.decoder.specs.Origin.{origin}
use Rattle.decoder.specs.Front.{front_of, decode_of}
use Rattle.instruction.specs.declared.Values.{Values}
use Rattle.instruction.specs.declared.Built.{Built}
use Rattle.instruction.specs.Building.{bytes_in}
use Rattle.meanings.specs.Means.{meaning_of}

-- what the decoder is to read of a build with these values at this address
abbrev pub read_as : Values → ℕ → Built → Decoded
read_as v address b = record { length = b.length; meaning = meaning_of b.instruction v address b.length }

-- the same of a build that may be refused: a refused one has no byte, and no run has an instruction without a byte
abbrev pub nothing_read : Decoded
nothing_read = record { length = 0; meaning = record { operation = 0; kind = Inherent } }

abbrev pub read_told : Values → ℕ → Result Built Refusal → Decoded
read_told v address (Ok b) = read_as v address b
read_told v address (Err refusal) = nothing_read

-- at the front of its bytes, whatever follows them
abbrev pub ReadsBack : Page → Values → ℕ → Built → Type 0
ReadsBack page v address b = (t : List ℕ) → front_of (bytes_in b ++ t) (origin address page) ≡ Ok (read_as v address b)

-- the same of decoding, where no byte lies beyond 65535
abbrev pub Decodes : Page → Values → ℕ → Built → Type 0
Decodes page v address b =
    (t : List ℕ) →
    address + length (bytes_in b ++ t) ≤ 65536 →
    decode_of (bytes_in b ++ t) (origin address page) ≡ Ok (read_as v address b)

-- as many bytes as it says, one to five
pub record Sized (b : Built) : Type 0 where
  pub bytes : length (bytes_in b) ≡ b.length
  pub some : 1 ≤ b.length
  pub most : b.length ≤ 5
