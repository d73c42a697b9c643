-- A buffer cut into pages: how large the image is, and that another buffer of the same length is cut alike.
use Rattle.std.proofs.Common.{◌≡◌, ℕ, ◌+◌, ◌-◌, ◌*◌, ◌<◌, ◌≤◌, min, false, List, length, sym, ap, ◌∙◌, ⊎_elim, add-mul, one-mul, arith}
use Rattle.std.proofs.lemmas.Bool.{cases_lt}
use Rattle.std.proofs.lemmas.List.{get_or_past}
use Rattle.image.specs.Pages.{Page, WellFormed, absent, count, page_at, length_at, extent_of}
use Rattle.image.specs.declared.state.PageState.{PageState}
use Rattle.bench.specs.Buffers.{cut_pages, extent_over, pages_of, shape_bad}
use Rattle.bench.specs.Sound.{cut-count, cut-length, shape_fine}

module _ (size n : ℕ) (state_at : ℕ → PageState) (buffer : List ℕ) where
  pub cut_past : (k : ℕ) → n ≤ k → page_at (cut_pages size n state_at buffer) k ≡ absent
  cut_past k h = get_or_past (cut_pages size n state_at buffer).pages k absent (omega (arith, cut-count size n state_at buffer))

pub cut_extent : (size : ℕ) (state_at : ℕ → PageState) (buffer : List ℕ) → shape_bad size (length buffer) ≡ false
    → extent_over size (length buffer) ≡ extent_of (cut_pages size (pages_of size (length buffer)) state_at buffer)
cut_extent size state_at buffer good =
    let n = pages_of size (length buffer) in
    let m = cut_pages size n state_at buffer in
    let fine = shape_fine size (length buffer) good in
    let c : count m ≡ n = cut-count size n state_at buffer in
    let less : n - 1 < n = omega (arith, fine.some) in
    let all : n * size ≡ (n - 1) * size + size = ap (λ k. k * size) (omega (arith, fine.some)) ∙ add-mul (n - 1) 1 size ∙ ap (λ k. (n - 1) * size + k) (one-mul size) in
    let last : length buffer - (n - 1) * size ≡ length_at m (n - 1) = omega (arith, cut-length size n state_at buffer (n - 1) less, fine.reach) in
    cc

-- another buffer of the same length is cut alike
module _ (size n : ℕ) (state_at : ℕ → PageState) (buffer other : List ℕ) (e : length other ≡ length buffer) where
  alike-length : (k : ℕ) → length_at (cut_pages size n state_at other) k ≡ length_at (cut_pages size n state_at buffer) k
  alike-length k = ⊎_elim
      (λ l. cut-length size n state_at other k l ∙ ap (λ all. min size (all - k * size)) e ∙ sym (cut-length size n state_at buffer k l))
      (λ g. ap (λ (p : Page). length p.bytes) (cut_past size n state_at other k g ∙ sym (cut_past size n state_at buffer k g)))
      (cases_lt k n)

  alike-count : count (cut_pages size n state_at other) ≡ count (cut_pages size n state_at buffer)
  alike-count = cut-count size n state_at other ∙ sym (cut-count size n state_at buffer)

  pub alike_extent : extent_of (cut_pages size n state_at buffer) ≡ extent_of (cut_pages size n state_at other)
  alike_extent =
      let c = alike-count in
      let last = alike-length (count (cut_pages size n state_at buffer) - 1) in
      cc

  pub alike_sound : WellFormed (cut_pages size n state_at buffer) → WellFormed (cut_pages size n state_at other)
  alike_sound sound =
      let c = alike-count in
      record {
        few = omega (arith, c, sound.few);
        low = sound.low;
        high = sound.high;
        whole = λ k h. alike-length k ∙ sound.whole k (omega (arith, c));
        some = λ k h. omega (arith, alike-length k, sound.some k (omega (arith, c)));
        most = λ k h. omega (arith, alike-length k, sound.most k (omega (arith, c)));
      }
