-- What the code hands from one step to the next; only private contracts cite it.
use Rattle.std.specs.Prelude.{◌≡◌, ℕ, ◌+◌, ◌*◌, ◌≤◌, List, length, Option, Some, None}
use Rattle.ground.specs.declared.refusals.Refusal.{Refusal}
use Rattle.ground.specs.Refusals.{number_of}
use Rattle.ground.specs.Stores.{put}
use Rattle.listing.specs.Listing.{Lines, End, Refused, printed}
use Rattle.listing.specs.declared.Progress.{Progress}

-- a writer that had xs to write from `at` on in d has ys left to write, from r on in e
pub record Leads (d : List ℕ) (at : ℕ) (xs e : List ℕ) (r : ℕ) (ys : List ℕ) : Type 0 where
  pub size : at + length xs ≡ r + length ys
  pub buffer : put d at xs ≡ put e r ys

-- the lines that are left where others would follow: those, or the refusal that was met
abbrev pub left_by : Option Refusal → Lines → Lines
left_by None rest = rest
left_by (Some e) rest = Refused (number_of e)

abbrev pub left : Progress → Lines → Lines
left s rest = left_by s.refusal rest

-- so many bytes were passed, with the lines that `lines` puts first; the place and the count were those
pub record Passed (d : List ℕ) (at count : ℕ) (lines : Lines → Lines) (bytes : ℕ) (r : Progress) (e : List ℕ) : Type 0 where
  pub lead : (rest : Lines) → Leads d at (printed count (lines rest)) e r.at (printed r.count (left r rest))
  pub short : r.at ≤ at + 8 * bytes
  pub fewer : r.count ≤ r.at

-- all lines but the last were written, from the front on
pub record Ran (d : List ℕ) (lines : Lines) (r : Progress) (e : List ℕ) : Type 0 where
  pub lead : Leads d 0 (printed 0 lines) e r.at (printed r.count (left r End))
  pub short : r.at ≤ 262144
