-- What a read and a write of a page answer, and what they leave.
use Rattle.std.specs.Prelude.{ℕ, Bool, cond, not, List, [], ◌∷◌, ◌++◌, length, is_ok, Result, ◌==◌, nat_le}
use Rattle.fault.specs.Faults.{Row, on, unless}
use Rattle.fault.specs.declared.fault.Fault.{Fault}
use Rattle.fault.specs.declared.refusal.Refusal.TheVariants.{PageAbsent, PageBuffer, PageUnreadable, PageLocked}
use Rattle.image.specs.Pages.{Pages, count, page_at, length_at, with_page}
use Rattle.image.specs.declared.state.PageState.{PageState}

abbrev pub Answer : Type 0
Answer = Result (Unit {0}) Fault

-- Read of a page into a buffer of n bytes: 35 no such page; 36 n is not the page's length; 37 the page is unreadable.
abbrev pub read_rows : ℕ → ℕ → Bool → ℕ → ℕ → List Row
read_rows count len readable page n =
    on (nat_le count page) PageAbsent page
    ∷ on (not (n == len)) PageBuffer page
    ∷ on (not readable) PageUnreadable page
    ∷ []

abbrev pub read_answer : Pages → ℕ → ℕ → Answer
read_answer m page n = unless (read_rows (count m) (length_at m page) (page_at m page).state.readable page n) tt

-- The buffer after a read: the page; where it is refused, the buffer as it was.
abbrev pub read_out : Pages → ℕ → List ℕ → List ℕ
read_out m page out = cond (is_ok (read_answer m page (length out))) (page_at m page).bytes out

-- Write of n bytes to a page: as a read, and then 38 the page is locked.
abbrev pub write_rows : ℕ → ℕ → PageState → ℕ → ℕ → List Row
write_rows count len state page n = read_rows count len state.readable page n ++ (on state.locked PageLocked page ∷ [])

abbrev pub write_answer : Pages → ℕ → ℕ → Answer
write_answer m page n = unless (write_rows (count m) (length_at m page) (page_at m page).state page n) tt

-- The image after a write: that page has the bytes; where it is refused, the image as it was.
abbrev pub written : Pages → ℕ → List ℕ → Pages
written m page bytes = cond (is_ok (write_answer m page (length bytes))) (with_page m page bytes) m
