-- What an image is: a page length, and pages.
use Rattle.std.specs.Prelude.{◌≡◌, ℕ, ◌+◌, ◌-◌, ◌<◌, ◌≤◌, true, false, cond, if◌then◌else◌, Ok, Err, Result, List, [], length, ◌==◌, nat_le, slice_index_or, slice_set}
use Rattle.image.specs.declared.extent.Extent.{Extent}
use Rattle.image.specs.declared.state.PageState.{PageState}
use Rattle.image.specs.declared.state.StrangeState.{StrangeState}

-- A page: its bytes, and what may be done with it.
pub record Page : Type 0 where
  pub bytes : List ℕ
  pub state : PageState

pub record Pages : Type 0 where
  pub size : ℕ  -- the page length
  pub pages : List Page

-- The state that a dump's state byte stands for: 0 fine, 1 locked, 2 unreadable.
abbrev pub state_of : ℕ → Result PageState StrangeState
state_of byte =
    if byte == 0 then Ok (record { readable = true; locked = false })
    else (if byte == 1 then Ok (record { readable = true; locked = true })
    else (if byte == 2 then Ok (record { readable = false; locked = false })
    else Err (record { 0 = byte })))

-- What the questions about a page answer where there is none: no bytes, not readable, not locked.
abbrev pub absent : Page
absent = record { bytes = []; state = record { readable = false; locked = false } }

abbrev pub count : Pages → ℕ
count m = length m.pages

-- Page k, counted from 0.
abbrev pub page_at : Pages → ℕ → Page
page_at m k = slice_index_or m.pages k absent

-- How many bytes page k has.
abbrev pub length_at : Pages → ℕ → ℕ
length_at m k = length (page_at m k).bytes

-- The page length, the number of pages, and the length of the last page, 0 of no pages.
abbrev pub extent_of : Pages → Extent
extent_of m = record { size = m.size; count = count m; last = length_at m (count m - 1) }

-- How many bytes page k has, read off the extent.
abbrev pub length_in : Extent → ℕ → ℕ
length_in e k = cond (nat_le e.count k) 0 (cond (k == e.count - 1) e.last e.size)

-- The image whose page k has other bytes, and nothing else is changed.
abbrev pub with_page : Pages → ℕ → List ℕ → Pages
with_page m k bytes = record {
  size = m.size;
  pages = slice_set m.pages k (record { bytes = bytes; state = (page_at m k).state });
}

-- The image that a refused making gives.
abbrev pub no_pages : Pages
no_pages = record { size = 64; pages = [] }

-- What every image owes: at most 4,096 pages of 64 to 4,096 bytes; all have the page length, but the last may have fewer.
pub record WellFormed (m : Pages) : Type 0 where
  pub few : count m ≤ 4096
  pub low : 64 ≤ m.size
  pub high : m.size ≤ 4096
  pub whole : (k : ℕ) → k + 1 < count m → length_at m k ≡ m.size
  pub some : (k : ℕ) → k < count m → 1 ≤ length_at m k
  pub most : (k : ℕ) → k < count m → length_at m k ≤ m.size
