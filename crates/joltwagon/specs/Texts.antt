-- What is said of a text, and what the buffers lent for it hold then.
use Rattle.std.specs.Prelude.{◌≡◌, ℕ, List, [], ◌++◌, length, Result, Ok, Err}
use Rattle.ground.specs.declared.refusals.Refusal.{Refusal}
use Rattle.ground.specs.Refusals.{number_of}
use Rattle.answers.specs.Said.{Said, said, refusal_of, lent_after, cells_after}
use Rattle.answers.specs.Sizes.{size_cells}
use Rattle.records.specs.Written.{written_of, buffer_of}
use Rattle.reader.specs.declared.Read.{Read}
use Rattle.reader.specs.Answers.{read_of, runs_in, bytes_of, rows_of, onto}
use Rattle.joltwagon.specs.Sizes.{size_said}

-- ---- written: how long it is
-- a text written into a buffer x, with a slice d for the answer: the return, and what the two hold then
pub record TextWritten (objects values x d : List ℕ) (r : ℕ) (x' d' : List ℕ) : Type 0 where
  pub refusal : r ≡ refusal_of (size_said (written_of objects values (length x))) (length d)
  pub text : x' ≡ lent_after (size_said (written_of objects values (length x))) d (buffer_of objects values x) x
  pub cells : d' ≡ cells_after (size_said (written_of objects values (length x))) d

-- ---- read: how many bytes, and how many runs
unfoldable pub read_said : Result Read Refusal → Said
read_said (Ok r) = said 0 (size_cells r.bytes ++ size_cells r.runs)
read_said (Err e) = said (number_of e) []

-- a text read into bytes x and rows y, with a slice d for the answer: the return, and what the three hold then
pub record TextRead (text x y d : List ℕ) (r : ℕ) (x' y' d' : List ℕ) : Type 0 where
  pub refusal : r ≡ refusal_of (read_said (read_of text (length x) (length y))) (length d)
  pub bytes : x' ≡ lent_after (read_said (read_of text (length x) (length y))) d (onto (bytes_of (runs_in text)) x) x
  pub rows : y' ≡ lent_after (read_said (read_of text (length x) (length y))) d (onto (rows_of (runs_in text)) y) y
  pub cells : d' ≡ cells_after (read_said (read_of text (length x) (length y))) d
