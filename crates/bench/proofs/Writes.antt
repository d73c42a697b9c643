-- A page is written into the buffer.
use Rattle.std.proofs.Common.{◌≡◌, ℕ, ◌+◌, ◌-◌, ◌*◌, ◌<◌, ◌≤◌, min, List, length, get_or, take, drop, is_ok, Ok, sym, refl, ap, ◌∙◌, ⊎_elim, arith, rules}
use borrow.Rule.Slice.PartMut.{put_mid}
use Rattle.std.proofs.lemmas.List.{length-drop, length-set, get_or-set_same, get_or-set_other, ext_get_or, drop-take, places, take_min}
use Rattle.std.proofs.lemmas.Slice.{take-put_mid_below, drop-put_mid, between-put_mid}
use Rattle.std.proofs.lemmas.Bool.{cases_order}
use Rattle.image.specs.Pages.{Page, Pages, WellFormed, absent, extent_of, page_at, with_page}
use Rattle.image.specs.declared.state.PageState.{PageState}
use Rattle.bench.specs.Buffers.{cut, cut_pages}
use Rattle.bench.specs.Sound.{cut-count, cut_at, page_below}
use Rattle.image.specs.Answers.{write_answer, written}
use Rattle.image.proofs.Outcomes.{write_done}
use Rattle.bench.proofs.Cuts.{alike_extent, alike_sound}
use Rattle.bench.proofs.Places.{Place, write_place}

module _ (size n : ℕ) (buffer : List ℕ) (page : ℕ) (bytes : List ℕ) (p : Place size n buffer page (length bytes)) where
  abbrev put : List ℕ
  put = put_mid (page * size) (length bytes) buffer bytes

  put-length : length put ≡ length buffer
  put-length = search (rules, places, p.starts, p.long)

  cut_there : cut size put page ≡ bytes
  cut_there =
      let len = length bytes in
      let rest = drop (page * size) put in
      let between : take (page * size + len - page * size) rest ≡ bytes = between-put_mid (page * size) len buffer bytes (page * size + len) (omega (arith, p.starts)) (omega arith) in
      let part : page * size + len - page * size ≡ min size (length rest) = omega (arith, length-drop (page * size) put, put-length, p.starts) in
      cc (take_min size rest)

  cut_below : (k : ℕ) → k < page → cut size put k ≡ cut size buffer k
  cut_below k less =
      let before = take-put_mid_below (page * size) (length bytes) buffer bytes (k * size + size) (page_below size page k less) (omega (arith, p.starts)) in
      cc (drop-take (k * size) size put, drop-take (k * size) size buffer)

  cut-above : (k : ℕ) → page < k → cut size put k ≡ cut size buffer k
  cut-above k more = ap (take size) (drop-put_mid (page * size) (length bytes) buffer bytes (k * size) (omega (arith, page_below size k page more)) (omega (arith, p.starts)) refl)

  module _ (state_at : ℕ → PageState) where
    abbrev old : Pages
    old = cut_pages size n state_at buffer

    abbrev new : Pages
    new = cut_pages size n state_at put

    page_each : (k : ℕ) → k < length new.pages → get_or new.pages k absent ≡ get_or (with_page old page bytes).pages k absent
    page_each k h =
        let less : k < n = omega (arith, cut-count size n state_at put) in
        let after = cut_at size n state_at put k less in
        let before = cut_at size n state_at buffer k less in
        let changed : Page = record { bytes = bytes; state = (page_at old page).state } in
        ⊎_elim
        (λ s. after ∙ ap (λ i. record { bytes = cut size put i; state = state_at i }) s
        ∙ ap (λ b. record { bytes = b; state = state_at page }) cut_there
        ∙ sym (ap (λ (q : Page). record { bytes = bytes; state = q.state }) (cut_at size n state_at buffer page p.there))
        ∙ sym (get_or-set_same old.pages page changed absent (omega (arith, cut-count size n state_at buffer, p.there)))
        ∙ ap (λ i. get_or (with_page old page bytes).pages i absent) (sym s))
        (⊎_elim
        (λ l. let ne : k ≡ page → ⊥ = omega arith in cc (cut_below k l, get_or-set_other old.pages page k changed absent ne))
        (λ m. let ne : k ≡ page → ⊥ = omega arith in cc (cut-above k m, get_or-set_other old.pages page k changed absent ne)))
        (cases_order k page)

    put_written : new ≡ with_page old page bytes
    put_written =
        let count : length new.pages ≡ length (with_page old page bytes).pages = cc (cut-count size n state_at put, cut-count size n state_at buffer, length-set old.pages page (record { bytes = bytes; state = (page_at old page).state })) in
        ap (λ ps. record { size = size; pages = ps }) (ext_get_or absent new.pages (with_page old page bytes).pages count page_each)

-- where the check of a write passed
module _ (size n : ℕ) (state_at : ℕ → PageState) (buffer : List ℕ) (sound : WellFormed (cut_pages size n state_at buffer)) (page : ℕ) (bytes : List ℕ)
    (passed : Ok tt ≡ write_answer (cut_pages size n state_at buffer) page (length bytes)) where
  p : Place size n buffer page (length bytes)
  p = write_place (cut_pages size n state_at buffer) size n state_at buffer refl sound page (length bytes) passed

  pub write_fits : page * size + length bytes ≤ length buffer
  write_fits = omega (arith, p.starts, p.long)

  -- as the code has it: `last` is what the copy left in the part
  module _ (last : List ℕ) (same : last ≡ bytes) where
    abbrev after : List ℕ
    after = put_mid (page * size) (page * size + length bytes - page * size) buffer last

    after_put : after ≡ put_mid (page * size) (length bytes) buffer bytes
    after_put = let part : page * size + length bytes - page * size ≡ length bytes = omega arith in cc

    after-length : length after ≡ length buffer
    after-length = ap length after_put ∙ put-length size n buffer page bytes p

    pub after_extent : extent_of (cut_pages size n state_at buffer) ≡ extent_of (cut_pages size n state_at after)
    after_extent = alike_extent size n state_at buffer after after-length

    pub after_sound : WellFormed (cut_pages size n state_at after)
    after_sound = alike_sound size n state_at buffer after after-length sound

    pub after_written : cut_pages size n state_at after ≡ written (cut_pages size n state_at buffer) page bytes
    after_written = ap (cut_pages size n state_at) after_put ∙ put_written size n buffer page bytes p state_at ∙ sym (write_done (cut_pages size n state_at buffer) page bytes (sym (ap is_ok passed)))
