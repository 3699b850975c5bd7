-- What is said of a size, or of the refusal in its place.
use Rattle.std.specs.Prelude.{ℕ, [], Result, Ok, Err}
use Rattle.ground.specs.Refusals.{number_of}
use Rattle.ground.specs.declared.refusals.Refusal.{Refusal}
use Rattle.answers.specs.Said.{Said, said}
use Rattle.answers.specs.Sizes.{size_cells}

unfoldable pub size_said : Result ℕ Refusal → Said
size_said (Ok n) = said 0 (size_cells n)
size_said (Err refusal) = said (number_of refusal) []
