-- What an accepted read and write say of an image.
use Rattle.std.proofs.Common.{◌≡◌, ℕ, ◌<◌, true, List, length, is_ok, arith}
use Rattle.std.proofs.lemmas.Bool.{cond-true}
use Rattle.std.proofs.lemmas.Bool.Decides.{nat_tests}
use Rattle.image.specs.Answers.{read_answer, read_out, write_answer, written}
use Rattle.image.specs.Pages.{Pages, count, page_at, length_at, with_page}

-- an accepted read names a page that there is, by its length
pub read_tells : (m : Pages) (page n : ℕ) → is_ok (read_answer m page n) ≡ true → (page < count m) × (n ≡ length_at m page)
read_tells m page n h = (grind (arith, nat_tests), grind (arith, nat_tests))

-- and so does an accepted write
pub write_tells : (m : Pages) (page n : ℕ) → is_ok (write_answer m page n) ≡ true → (page < count m) × (n ≡ length_at m page)
write_tells m page n h = (grind (arith, nat_tests), grind (arith, nat_tests))

-- and leaves this
module _ (m : Pages) (page : ℕ) (bytes : List ℕ) where
  pub read_done : is_ok (read_answer m page (length bytes)) ≡ true → read_out m page bytes ≡ (page_at m page).bytes
  read_done = cond-true _ _ _

  pub write_done : is_ok (write_answer m page (length bytes)) ≡ true → written m page bytes ≡ with_page m page bytes
  write_done = cond-true _ _ _
