-- Where a page stands in the buffer.
use Rattle.std.proofs.Common.{◌≡◌, ℕ, ◌-◌, ◌*◌, ◌<◌, ◌≤◌, min, List, length, is_ok, Ok, sym, ap, ◌∙◌, arith}
use Rattle.std.proofs.lemmas.List.{length-take, length-drop}
use Rattle.image.specs.Answers.{read_answer, read_out, write_answer}
use Rattle.image.specs.Pages.{Page, Pages, WellFormed, count, page_at, length_at}
use Rattle.image.specs.declared.state.PageState.{PageState}
use Rattle.image.proofs.Outcomes.{read_done, read_tells, write_tells}
use Rattle.bench.specs.Buffers.{cut, cut_pages}
use Rattle.bench.specs.Sound.{cut-count, cut_at, cut-length}

-- page `page` of n pages stands in the buffer, and has `len` bytes
pub record Place (size n : ℕ) (buffer : List ℕ) (page len : ℕ) : Type 0 where
  pub there : page < n
  pub starts : page * size < length buffer
  pub long : len ≡ min size (length buffer - page * size)

-- m has the pages of the buffer
module _ (m : Pages) (size n : ℕ) (state_at : ℕ → PageState) (buffer : List ℕ) (is : m ≡ cut_pages size n state_at buffer) (sound : WellFormed m) (page len : ℕ) where
  place : (page < count m) × (len ≡ length_at m page) → Place size n buffer page len
  place t =
      let there : page < n = omega (arith, ap count is, cut-count size n state_at buffer) in
      let long = ap (λ x. length_at x page) is ∙ cut-length size n state_at buffer page there in
      record { there = there; starts = omega (arith, sound.some page t.0); long = t.1 ∙ long }

  -- where the check of a read, or of a write, passed
  read_place : Ok tt ≡ read_answer m page len → Place size n buffer page len
  read_place h = place (read_tells m page len (sym (ap is_ok h)))

  pub write_place : Ok tt ≡ write_answer m page len → Place size n buffer page len
  write_place h = place (write_tells m page len (sym (ap is_ok h)))

-- where the check of a read passed: the page begins in the buffer, and is what `out` becomes
pub record Reading (m : Pages) (size : ℕ) (buffer : List ℕ) (page : ℕ) (out : List ℕ) : Type 0 where
  pub starts : page * size ≤ length buffer
  pub fits : length out ≡ length (cut size buffer page)
  pub same : cut size buffer page ≡ read_out m page out

pub reading : (m : Pages) (size n : ℕ) (state_at : ℕ → PageState) (buffer : List ℕ) → m ≡ cut_pages size n state_at buffer → WellFormed m
    → (page : ℕ) (out : List ℕ) → Ok tt ≡ read_answer m page (length out) → Reading m size buffer page out
reading m size n state_at buffer is sound page out h =
    let p = read_place m size n state_at buffer is sound page (length out) h in
    record {
      starts = omega (arith, p.starts);
      fits = p.long ∙ sym (simp (length-take, length-drop));
      same = sym (read_done m page out (sym (ap is_ok h)) ∙ ap (λ x. (page_at x page).bytes) is ∙ ap (λ (q : Page). q.bytes) (cut_at size n state_at buffer page p.there));
    }
