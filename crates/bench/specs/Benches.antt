-- A bench image: all pages are readable, and the first q are locked.
use Rattle.std.specs.Prelude.{ℕ, true, List, [], ◌∷◌, length, is_ok, nat_lt}
use Rattle.fault.specs.Faults.{Row, on, unless}
use Rattle.fault.specs.declared.refusal.Refusal.TheVariants.{ImageShape, LockedPages}
use Rattle.image.specs.Answers.{Answer}
use Rattle.image.specs.Pages.{Pages}
use Rattle.image.specs.declared.extent.Extent.{Extent}
use Rattle.image.specs.declared.state.PageState.{PageState}
use Rattle.bench.specs.Buffers.{cut_pages, image_of, pages_of, shape_bad}

-- The check: 31; 33 where more pages are locked than there are.
abbrev pub bench_rows : ℕ → ℕ → ℕ → List Row
bench_rows size q len = on (shape_bad size len) ImageShape 0 ∷ on (nat_lt (pages_of size len) q) LockedPages 0 ∷ []

abbrev pub bench_answer : ℕ → ℕ → ℕ → Answer
bench_answer size q len = unless (bench_rows size q len) tt

-- The state of page k.
abbrev pub bench_state : ℕ → ℕ → PageState
bench_state q k = record { readable = true; locked = nat_lt k q }

-- The image that is made of a buffer.
abbrev pub bench_made : ℕ → ℕ → List ℕ → Pages
bench_made size q buffer = image_of (is_ok (bench_answer size q (length buffer))) size (bench_state q) buffer

-- What a bench image stands for that has these.
abbrev pub bench_held : Extent → ℕ → List ℕ → Pages
bench_held extent q buffer = cut_pages extent.size extent.count (bench_state q) buffer
