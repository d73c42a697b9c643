-- What a dump says of its pages.
use Rattle.std.proofs.Common.{◌≡◌, ℕ, ◌<◌, Bool, true, false, cond, not, ◌&&◌, eqb, List, length, is_ok, Some, None, Ok, sym, refl, ap, ◌∙◌, arith}
use Rattle.std.specs.Result.{result_unwrap_or}
use Rattle.std.proofs.lemmas.Bool.{and_parts, eqb-true, eq-eqb}
use Rattle.std.proofs.lemmas.Bool.Decides.{nat_tests}
use Rattle.image.specs.Answers.{read_answer}
use Rattle.image.specs.Pages.{Page, count, extent_of, page_at, state_of}
use Rattle.image.specs.declared.extent.Extent.{Extent}
use Rattle.image.specs.declared.state.PageState.{PageState}
use Rattle.image.proofs.Outcomes.{read_tells}
use Rattle.bench.specs.Buffers.{cut_pages, extent_in, extent_over, image_of, pages_of, shape_bad}
use Rattle.bench.specs.Dumps.{dump_held, dump_state}
use Rattle.bench.specs.Sound.{cut-count, cut_at, dump_sound}
use Rattle.bench.proofs.Cuts.{cut_extent}
use Rattle.bench.proofs.Places.{Reading, reading}

-- an image that has a page has those of the buffer
held_by : (ok : Bool) (size : ℕ) (state_at : ℕ → PageState) (buffer : List ℕ) (k : ℕ) → k < count (image_of ok size state_at buffer) → ok ≡ true
held_by true size state_at buffer k h = refl
held_by false size state_at buffer k h = absurd (omega arith)

module _ (size : ℕ) (states buffer : List ℕ) where
  abbrev n : ℕ
  n = pages_of size (length buffer)

  abbrev ok : Bool
  ok = not (shape_bad size (length buffer)) && eqb (length states) n

  held_is : ok ≡ true → dump_held size states buffer ≡ cut_pages size n (dump_state states) buffer
  held_is good = ap (λ t. image_of t size (dump_state states) buffer) good

  pub dump_reading : (page : ℕ) (out : List ℕ) → Ok tt ≡ read_answer (dump_held size states buffer) page (length out) → Reading (dump_held size states buffer) size buffer page out
  dump_reading page out h =
      let t = read_tells (dump_held size states buffer) page (length out) (sym (ap is_ok h)) in
      reading (dump_held size states buffer) size n (dump_state states) buffer (held_is (held_by ok size (dump_state states) buffer page t.0)) (dump_sound size states buffer) page out h

  -- a page that there is has a state byte, and its state
  pub state_within : (k : ℕ) → k < count (dump_held size states buffer) → k < length states
  state_within k h =
      let good = held_by ok size (dump_state states) buffer k h in
      let all = eqb-true (length states) n (and_parts (not (shape_bad size (length buffer))) (eqb (length states) n) good).1 in
      omega (arith, ap count (held_is good), cut-count size n (dump_state states) buffer)

  pub state_there : (k : ℕ) → k < count (dump_held size states buffer) → (page_at (dump_held size states buffer) k).state ≡ dump_state states k
  state_there k h =
      let good = held_by ok size (dump_state states) buffer k h in
      ap (λ m. (page_at m k).state) (held_is good)
      ∙ ap (λ (p : Page). p.state) (cut_at size n (dump_state states) buffer k (omega (arith, ap count (held_is good), cut-count size n (dump_state states) buffer)))

  extent_by : (bad : Bool) (e : Extent) → shape_bad size (length buffer) ≡ bad → Some e ≡ cond bad None (Some (extent_over size (length buffer))) → e.count ≡ length states
      → e ≡ extent_of (dump_held size states buffer)
  extent_by true e h found all = cc
  extent_by false e h found all =
      let same : e ≡ extent_over size (length buffer) = cc in
      let good : ok ≡ true = rw (h, eq-eqb (length states) n (sym all ∙ ap (λ (x : Extent). x.count) same)) refl in
      same ∙ cut_extent size (dump_state states) buffer h ∙ sym (ap extent_of (held_is good))

  pub extent_held : (e : Extent) → Some e ≡ extent_in size (length buffer) → e.count ≡ length states → e ≡ extent_of (dump_held size states buffer)
  extent_held e = extent_by (shape_bad size (length buffer)) e refl

-- what a state byte says of a page
pub state_is : (s : ℕ) → result_unwrap_or (state_of s) (record { readable = true; locked = false }) ≡ record { readable = not (eqb s 2); locked = eqb s 1 }
state_is s = grind (arith, nat_tests)
