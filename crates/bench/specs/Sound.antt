-- The image of a buffer is well-formed. The code cites the proof in `ghost sound`, so it stands with the definitions.
use Rattle.std.specs.Prelude.{◌≡◌, ℕ, ◌+◌, ◌-◌, ◌*◌, ◌<◌, ◌≤◌, min, Bool, true, false, not, List, [], ◌∷◌, length, drop, is_ok, nat_lt}
use Rattle.std.proofs.Common.{ap, ◌∙◌, add-mul, one-mul, arith}
use Rattle.std.proofs.lemmas.Bool.Decides.{nat_tests}
use Rattle.std.proofs.lemmas.Bool.{and_parts, not-true}
use Rattle.std.proofs.lemmas.Grind.{div_ceil_times}
use Rattle.std.proofs.lemmas.List.{length-take, length-drop}
use Rattle.std.proofs.lemmas.List.FromFn.{length-map-range_with_len, get_or-map-range_with_len}
use Rattle.std.proofs.lemmas.Nat.{mul-le}
use Rattle.fault.specs.Faults.{on}
use Rattle.fault.specs.declared.refusal.Refusal.TheVariants.{ImageShape, LockedPages}
use Rattle.image.specs.Pages.{Page, WellFormed, absent, count, page_at, length_at}
use Rattle.image.specs.declared.state.PageState.{PageState}
use Rattle.image.proofs.Sound.{made_sound, row_passed}
use Rattle.bench.specs.Benches.{bench_answer, bench_made, bench_state}
use Rattle.bench.specs.Buffers.{cut, cut_pages, image_of, pages_of, shape_bad}
use Rattle.bench.specs.Dumps.{dump_held, dump_state}

-- page k ends before page n begins
pub page_below : (size n k : ℕ) → k < n → k * size + size ≤ n * size
page_below size n k h = omega (arith, mul-le (k + 1) size n size (omega arith) (omega arith), add-mul k 1 size, one-mul size)

module _ (size n : ℕ) (state_at : ℕ → PageState) (buffer : List ℕ) where
  pub cut-count : count (cut_pages size n state_at buffer) ≡ n
  cut-count = length-map-range_with_len (λ k. record { bytes = cut size buffer k; state = state_at k }) 0 n

  pub cut_at : (k : ℕ) → k < n → page_at (cut_pages size n state_at buffer) k ≡ record { bytes = cut size buffer k; state = state_at k }
  cut_at k h = get_or-map-range_with_len (λ k. record { bytes = cut size buffer k; state = state_at k }) 0 n k k absent h (omega arith)

  pub cut-length : (k : ℕ) → k < n → length_at (cut_pages size n state_at buffer) k ≡ min size (length buffer - k * size)
  cut-length k h = ap (λ (p : Page). length p.bytes) (cut_at k h) ∙ length-take size (drop (k * size) buffer) ∙ ap (min size) (length-drop (k * size) buffer)

-- the pages reach the end of the buffer, and less than a page further
pub pages_fit : (size len : ℕ) → 0 < size → (pages_of size len * size < len + size) × (len ≤ pages_of size len * size)
pages_fit size len h = let fit = div_ceil_times len size h in (fit.1, fit.0)

-- what a shape that is not bad says
pub record Fine (size len : ℕ) : Type 0 where
  pub low : 64 ≤ size
  pub high : size ≤ 4096
  pub some : 1 ≤ pages_of size len
  pub few : pages_of size len ≤ 4096
  pub reach : len ≤ pages_of size len * size  -- the pages reach the end of the buffer,
  pub near : pages_of size len * size < len + size  -- and less than a page further

pub shape_fine : (size len : ℕ) → shape_bad size len ≡ false → Fine size len
shape_fine size len h =
    let low : 64 ≤ size = grind (arith, nat_tests) in
    let fit = pages_fit size len (omega arith) in
    record {
      low = low;
      high = grind (arith, nat_tests);
      some = grind (arith, nat_tests);
      few = grind (arith, nat_tests);
      reach = fit.1;
      near = fit.0;
    }

pub cut_sound : (size : ℕ) (state_at : ℕ → PageState) (buffer : List ℕ) → shape_bad size (length buffer) ≡ false → WellFormed (cut_pages size (pages_of size (length buffer)) state_at buffer)
cut_sound size state_at buffer good =
    let n = pages_of size (length buffer) in
    let fine = shape_fine size (length buffer) good in
    let c = cut-count size n state_at buffer in
    let l = cut-length size n state_at buffer in
    record {
      few = omega (arith, c, fine.few);
      low = fine.low;
      high = fine.high;
      whole = λ k h. let less : k + 1 < n = omega (arith, c) in omega (arith, l k (omega arith), page_below size n (k + 1) less, add-mul k 1 size, one-mul size, fine.near);
      some = λ k h. let less : k < n = omega (arith, c) in omega (arith, l k less, page_below size n k less, fine.near, fine.low);
      most = λ k h. let less : k < n = omega (arith, c) in omega (arith, l k less);
    }

pub image_sound : (ok : Bool) (size : ℕ) (state_at : ℕ → PageState) (buffer : List ℕ) → (ok ≡ true → shape_bad size (length buffer) ≡ false) → WellFormed (image_of ok size state_at buffer)
image_sound ok size state_at buffer h =
    made_sound ok (cut_pages size (pages_of size (length buffer)) state_at buffer) (λ e. cut_sound size state_at buffer (h e))

pub bench_sound : (size q : ℕ) (buffer : List ℕ) → WellFormed (bench_made size q buffer)
bench_sound size q buffer =
    image_sound (is_ok (bench_answer size q (length buffer))) size (bench_state q) buffer
    (row_passed (shape_bad size (length buffer)) ImageShape 0 (on (nat_lt (pages_of size (length buffer)) q) LockedPages 0 ∷ []))

pub dump_sound : (size : ℕ) (states buffer : List ℕ) → WellFormed (dump_held size states buffer)
dump_sound size states buffer =
    image_sound _ size (dump_state states) buffer
    (λ e. not-true (shape_bad size (length buffer)) (and_parts (not (shape_bad size (length buffer))) _ e).0)
