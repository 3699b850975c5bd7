-- Laws of pages.
-- Assumes nothing.
use mathlib.Core.Path.{◌≡◌, refl}
use mathlib.Core.Bool.{Bool, true, false, false≢true}
use Prim.Native.Nat.{ℕ, ◌/◌}
use native.Mathlib.Omega.{arith}
use lib.Dec.{eqb, ltb}
use borrow.Author.Tests.{eqb-true, eq-eqb, ne_eqb, ltb-true, ltb-false, leb-true}
use Rattle.ground.proofs.Choices.{by_test}
use Rattle.values.specs.declared.pages.Page.{Page}
use Rattle.values.specs.declared.pages.Page.TheVariants.{Unknown, Known}
use Rattle.values.specs.Pages.{reaches, number_of_page, is_page, page_numbered, meets}

-- what was built under a page, a reader whose page meets it reaches too
pub meets_on : (reader page : Page) → meets reader page ≡ true → (n : ℕ) → reaches page n ≡ true → reaches reader n ≡ true
meets_on reader Unknown m n h = absurd (false≢true h)
meets_on Unknown (Known page) m n h = absurd (false≢true m)
meets_on (Known high) (Known page) m n h = rw (eqb-true high page m) h

pub meets_same : (page : Page) → meets page page ≡ true
meets_same Unknown = refl
meets_same (Known high) = eq-eqb high high refl

-- a number that stands for a page is that page's number
pub numbered_back : (n : ℕ) → is_page n ≡ true → number_of_page (page_numbered n) ≡ n
unfolding is_page page_numbered
numbered_back n h =
    by_test (λ (p : Page). number_of_page p ≡ n) (ltb n 256) (λ _. refl) (λ e. omega (arith, leb-true n 256 h, ltb-false n 256 e))

-- "Known 0 answers as clean did": what page 0 reaches is below 256
pub zero_reaches : (n : ℕ) → reaches (Known 0) n ≡ ltb n 256
zero_reaches n = go (ltb n 256) refl
  where
    go : (b : Bool) → ltb n 256 ≡ b → eqb 0 (n / 256) ≡ b
    go true e = eq-eqb 0 (n / 256) (omega (arith, ltb-true n 256 e))
    go false e = ne_eqb 0 (n / 256) (λ z. absurd (omega (arith, ltb-false n 256 e)))
