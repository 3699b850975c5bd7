-- What is said of a list of records that was laid, and what the buffer lent for it holds then.
use Rattle.std.specs.Prelude.{◌≡◌, ℕ, List, length}
use Rattle.answers.specs.Said.{refusal_of, lent_after, cells_after}
use Rattle.joltwagon.specs.Sizes.{size_said}
use Rattle.laying.specs.Laying.{lay_of, answer_of, buffer_of}

-- how many bytes: a list laid into a buffer x, with a slice d for the answer: the return, and what the two hold then
pub record ListLaid (list : List ℕ) (address : ℕ) (x d : List ℕ) (r : ℕ) (x' d' : List ℕ) : Type 0 where
  pub refusal : r ≡ refusal_of (size_said (answer_of (lay_of list address (length x)))) (length d)
  pub bytes : x' ≡ lent_after (size_said (answer_of (lay_of list address (length x)))) d (buffer_of (lay_of list address (length x)) x) x
  pub cells : d' ≡ cells_after (size_said (answer_of (lay_of list address (length x)))) d
