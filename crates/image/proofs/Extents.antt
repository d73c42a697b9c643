-- What an extent says of an image, and the answers that are read off it.
use Rattle.std.proofs.Common.{◌≡◌, ℕ, ◌≤◌, arith}
use Rattle.std.proofs.lemmas.List.{get_or_past}
use Rattle.std.proofs.lemmas.Bool.Decides.{nat_tests}
use Rattle.fault.specs.Faults.{unless}
use Rattle.image.specs.Answers.{Answer, read_rows, read_answer, write_rows, write_answer}
use Rattle.image.specs.Pages.{Pages, WellFormed, absent, count, page_at, length_at, length_in, extent_of}
use Rattle.image.specs.declared.extent.Extent.{Extent}
use Rattle.image.specs.declared.state.PageState.{PageState}

-- a page that there is not
past : (m : Pages) (k : ℕ) → count m ≤ k → page_at m k ≡ absent
past m k h = get_or_past m.pages k absent h

pub length_in_lem : (m : Pages) → WellFormed m → (k : ℕ) → length_in (extent_of m) k ≡ length_at m k
length_in_lem m sound k = grind (arith, nat_tests, past m k, sound.whole k)

-- an answer that is read off the extent and the page's state
module _ (m : Pages) (sound : WellFormed m) (e : Extent) (page n : ℕ) (large : e ≡ extent_of m) (state : PageState) (same : state ≡ (page_at m page).state) where
  pub read_by : (r : Answer) → r ≡ unless (read_rows e.count (length_in e page) state.readable page n) tt → r ≡ read_answer m page n
  read_by r told = let long = length_in_lem m sound page in cc

  pub write_by : (r : Answer) → r ≡ unless (write_rows e.count (length_in e page) state page n) tt → r ≡ write_answer m page n
  write_by r told = let long = length_in_lem m sound page in cc
