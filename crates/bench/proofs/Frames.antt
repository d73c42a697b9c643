-- What one who lent the buffer of a bench image knows when it is back.
use Rattle.std.proofs.Common.{◌≡◌, ℕ, ◌<◌, Bool, true, false, List, [], ◌∷◌, length, is_ok, sym, refl, ap, ◌∙◌, arith}
use Rattle.std.proofs.lemmas.List.{length-set, get_or-set_same}
use Rattle.image.specs.Answers.{Answer, write_answer, written}
use Rattle.image.specs.Pages.{Page, absent, count, extent_of, page_at}
use Rattle.image.proofs.Outcomes.{write_done, write_tells}
use Rattle.image.specs.declared.extent.Extent.{Extent}
use Rattle.image.specs.declared.state.PageState.{PageState}
use Rattle.bench.specs.Benches.{bench_answer, bench_held, bench_made, bench_state}
use Rattle.bench.specs.Buffers.{cut, cut_pages, image_of, pages_of}
use Rattle.bench.specs.Sound.{cut-count, cut_at}

-- the frame of an image, part by part
module _ (name name' : ℕ) (extent extent' : Extent) (locked locked' : ℕ) (same : name ∷ extent.size ∷ extent.count ∷ extent.last ∷ locked ∷ [] ≡ name' ∷ extent'.size ∷ extent'.count ∷ extent'.last ∷ locked' ∷ []) where
  pub same_name : name ≡ name'
  same_name = cc

  pub same_extent : extent ≡ extent'
  same_extent =
      let e : record { size = extent.size; count = extent.count; last = extent.last } ≡ record { size = extent'.size; count = extent'.count; last = extent'.last } = cc in e

  pub same_size : extent.size ≡ extent'.size
  same_size = cc

  pub same_locked : locked ≡ locked'
  same_locked = cc

-- another buffer of the same length is the same image, but for its bytes
pub held_again : (ok : Bool) (size : ℕ) (state_at : ℕ → PageState) (before now : List ℕ) → length now ≡ length before
    → cut_pages (extent_of (image_of ok size state_at before)).size (extent_of (image_of ok size state_at before)).count state_at now ≡ image_of ok size state_at now
held_again true size state_at before now e =
    ap (λ n. cut_pages size n state_at now) (cut-count size (pages_of size (length before)) state_at before ∙ ap (pages_of size) (sym e))
held_again false size state_at before now e = refl

-- a page that an image has stands in its buffer
bytes_there : (ok : Bool) (size : ℕ) (state_at : ℕ → PageState) (buffer : List ℕ) (k : ℕ) → k < count (image_of ok size state_at buffer)
    → (page_at (image_of ok size state_at buffer) k).bytes ≡ cut size buffer k
bytes_there true size state_at buffer k h =
    let n = pages_of size (length buffer) in ap (λ (p : Page). p.bytes) (cut_at size n state_at buffer k (omega (arith, cut-count size n state_at buffer)))
bytes_there false size state_at buffer k h = absurd (omega arith)

-- an image was made of `before`, was used through its interface in any way, so that its frame is as it was, and the buffer is back as `now`
module _ (size q : ℕ) (before now : List ℕ) (name name' : ℕ) (extent extent' : Extent) (locked locked' : ℕ)
    (large : extent ≡ extent_of (bench_made size q before)) (locks : locked ≡ q)
    (frame : name' ∷ extent'.size ∷ extent'.count ∷ extent'.last ∷ locked' ∷ [] ≡ name ∷ extent.size ∷ extent.count ∷ extent.last ∷ locked ∷ [])
    (long : length now ≡ length before) where
  pub made_again : bench_held extent' locked' now ≡ bench_made size q now
  made_again =
      let again = held_again (is_ok (bench_answer size q (length before))) size (bench_state q) before now long in
      let e = same_extent name' name extent' extent locked' locked frame in
      let l = same_locked name' name extent' extent locked' locked frame in
      cc

-- a page is put into an image that was made of `before` and held `inside`; its frame is as it was, and the buffer is back as `now`
module _ (size q : ℕ) (before inside now : List ℕ) (name name' : ℕ) (extent extent' : Extent) (locked locked' page : ℕ) (bytes : List ℕ) (r : Answer)
    (made : bench_held extent locked inside ≡ bench_made size q before) (large : extent ≡ extent_of (bench_made size q before)) (locks : locked ≡ q)
    (frame : name' ∷ extent'.size ∷ extent'.count ∷ extent'.last ∷ locked' ∷ [] ≡ name ∷ extent.size ∷ extent.count ∷ extent.last ∷ locked ∷ [])
    (answer : r ≡ write_answer (bench_held extent locked inside) page (length bytes)) (after : bench_held extent' locked' now ≡ written (bench_held extent locked inside) page bytes)
    (long : length now ≡ length before) where
  pub put_after : bench_made size q now ≡ written (bench_made size q before) page bytes
  put_after = let again = made_again size q before now name name' extent extent' locked locked' large locks frame long in cc

  pub put_page : is_ok r ≡ true → cut size now page ≡ bytes
  put_page done =
      let m = bench_made size q before in
      let good : is_ok (write_answer m page (length bytes)) ≡ true = ap (λ x. is_ok (write_answer x page (length bytes))) (sym made) ∙ sym (ap is_ok answer) ∙ done in
      let t = write_tells m page (length bytes) good in
      let put : Page = record { bytes = bytes; state = (page_at m page).state } in
      let same = put_after ∙ write_done m page bytes good in
      let there : page < count (bench_made size q now) = omega (arith, ap count same, length-set m.pages page put, t.0) in
      sym (bytes_there (is_ok (bench_answer size q (length now))) size (bench_state q) now page there)
      ∙ ap (λ x. (page_at x page).bytes) same
      ∙ ap (λ (p : Page). p.bytes) (get_or-set_same m.pages page put absent t.0)
