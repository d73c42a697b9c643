-- A buffer cut into pages.
use Rattle.std.specs.Prelude.{ℕ, ◌-◌, ◌*◌, Bool, cond, ◌||◌, List, Option, Some, None, map, length, take, drop, ◌==◌, nat_lt, if◌then◌else◌}
use Rattle.std.specs.Int.{div_ceil}
use Rattle.std.specs.List.{range_with_len}
use Rattle.image.specs.Pages.{Pages, no_pages}
use Rattle.image.specs.declared.extent.Extent.{Extent}
use Rattle.image.specs.declared.state.PageState.{PageState}

-- How many pages of `size` bytes `len` bytes fill; the last may be short.
abbrev pub pages_of : ℕ → ℕ → ℕ
pages_of size len = div_ceil len size

-- 31: the page length is not 64 to 4,096, or there are not 1 to 4,096 pages.
abbrev pub shape_bad : ℕ → ℕ → Bool
shape_bad size len =
    let n = pages_of size len in
    nat_lt size 64 || (nat_lt 4096 size || (n == 0 || nat_lt 4096 n))

-- The bytes of page k: the next `size` bytes from k * size on, or as many as are left.
abbrev pub cut : ℕ → List ℕ → ℕ → List ℕ
cut size buffer k = take size (drop (k * size) buffer)

-- The first n pages of a buffer, each in its state.
abbrev pub cut_pages : ℕ → ℕ → (ℕ → PageState) → List ℕ → Pages
cut_pages size n state_at buffer = record {
  size = size;
  pages = map (λ k. record { bytes = cut size buffer k; state = state_at k }) (range_with_len 0 n);
}

-- The image that a buffer holds; where it was not accepted, that of no pages.
abbrev pub image_of : Bool → ℕ → (ℕ → PageState) → List ℕ → Pages
image_of ok size state_at buffer = cond ok (cut_pages size (pages_of size (length buffer)) state_at buffer) no_pages

-- How large the image of `len` bytes is.
abbrev pub extent_over : ℕ → ℕ → Extent
extent_over size len = record { size = size; count = pages_of size len; last = len - (pages_of size len - 1) * size }

-- The same, where there can be an image.
abbrev pub extent_in : ℕ → ℕ → Option Extent
extent_in size len = if shape_bad size len then None else Some (extent_over size len)
