-- `postbytes::lists::named` meets its contract, by computing each register's set.
-- Assumes nothing.
use mathlib.Core.Path.{sym}
use mathlib.Core.Bool.{Bool, ◌||◌}
use mathlib.Core.List.{[], ◌∷◌}
use Prim.Native.Nat.{ℕ, ◌*◌, ◌%◌, ◌^◌, ◌<◌}
use lib.Dec.{T, eqb, eqb→eq}
use borrow.Author.Tests.{ne_eqb}
use Rattle.ground.specs.Choice.{pick}
use Rattle.ground.proofs.Ranges.{below}
use Rattle.postbytes.specs.Registers.{D}
use Rattle.postbytes.specs.Lists.{among}
use Rattle.postbytes.specs.Meanings.{set_of}
use Rattle.postbytes.proofs.Sets.{strange_named}
use Rattle.postbytes.proofs.lists.named.Goals as goal

pub returns-then-register-eq-D : goal.returns-then-register-eq-D
unfolding set_of among pick
returns-then-register-eq-D c = rw c.if-register-eq-D.true

-- a register but D is its own bit
abbrev is_alone : ℕ → Bool
is_alone r = eqb r D || eqb ((1 * 2 ^ r) % 65536) (set_of (r ∷ []))

alone : (r : ℕ) → r < 10 → T (is_alone r)
unfolding set_of among pick
alone r h = below is_alone 10 tt r h

pub returns-then-register-lt10 : goal.returns-then-register-lt10
returns-then-register-lt10 c =
    let r = c.args.register in
    eqb→eq ((1 * 2 ^ r) % 65536) (set_of (r ∷ [])) (rw (ne_eqb r D c.if-register-eq-D.false) at (alone r c.if-register-lt10.true))

pub returns-else-register-lt10 : goal.returns-else-register-lt10
returns-else-register-lt10 c = sym (strange_named c.args.register c.if-register-lt10.false)
