-- A write to one part is a write to the pair.
use Rattle.std.proofs.Common.{◌≡◌, ℕ, ◌-◌, ◌<◌, ◌≤◌, Bool, true, false, cond, List, length, is_ok, Some, sym, refl, ap, ◌∙◌, ⊎_elim}
use Rattle.std.proofs.lemmas.List.{length-set, get_or-set_same, get_or-set_other, set-append_left, set-append_right}
use Rattle.std.proofs.lemmas.Bool.{cases_eq}
use Rattle.image.specs.Answers.{write_answer, written}
use Rattle.image.specs.Pages.{Page, Pages, absent, count, page_at, length_at, with_page, extent_of}
use Rattle.image.proofs.Outcomes.{write_tells}
use Rattle.pair.specs.Pairs.{pair_answer, pair_made, part_at}
use Rattle.pair.specs.declared.pair.Part.TheVariants.{First, Second}
use Rattle.pair.specs.Sound.{front_at, back_at}
use Rattle.pair.proofs.Joins.{in_first, in_second, made_is, write_ok}

-- the pages after a write are as many and as long as before
module _ (a : Pages) (k : ℕ) (bytes : List ℕ) (h : k < count a) (e : length bytes ≡ length_at a k) where
  changed : Page
  changed = record { bytes = bytes; state = (page_at a k).state }

  length-after : (i : ℕ) → length_at (with_page a k bytes) i ≡ length_at a i
  unfolding changed
  length-after i = ⊎_elim
      (λ s. ap (length_at (with_page a k bytes)) s ∙ ap (λ (p : Page). length p.bytes) (get_or-set_same a.pages k changed absent h) ∙ e ∙ ap (length_at a) (sym s))
      (λ ne. ap (λ (p : Page). length p.bytes) (get_or-set_other a.pages k i changed absent ne))
      (cases_eq i k)

  extent_after : extent_of (with_page a k bytes) ≡ extent_of a
  unfolding changed
  extent_after =
      let c : count (with_page a k bytes) ≡ count a = length-set a.pages k changed in
      let last = length-after (count a - 1) in
      cc

module _ (a b : Pages) (ok : is_ok (pair_answer a b) ≡ true) (k : ℕ) (bytes : List ℕ) where
  with_front : k < count a → length bytes ≡ length_at a k → pair_made (with_page a k bytes) b ≡ with_page (pair_made a b) k bytes
  with_front h e =
      let same = extent_after a k bytes h e in
      let made = made_is (with_page a k bytes) b (cc) in
      let put = set-append_left a.pages b.pages k (record { bytes = bytes; state = (page_at a k).state }) h in
      let there = front_at a b k h in
      let all = made_is a b ok in
      cc

  with_back : count a ≤ k → k - count a < count b → length bytes ≡ length_at b (k - count a) → pair_made a (with_page b (k - count a) bytes) ≡ with_page (pair_made a b) k bytes
  with_back h l e =
      let same = extent_after b (k - count a) bytes l e in
      let made = made_is a (with_page b (k - count a) bytes) (cc) in
      let put = set-append_right a.pages b.pages (count a) k (record { bytes = bytes; state = (page_at b (k - count a)).state }) refl h in
      let there = back_at a b k h in
      let all = made_is a b ok in
      cc

  front_by : (good : Bool) → k < count a → is_ok (write_answer a k (length bytes)) ≡ good → pair_made (cond good (with_page a k bytes) a) b ≡ cond good (with_page (pair_made a b) k bytes) (pair_made a b)
  front_by true h e = with_front h (write_tells a k (length bytes) e).1
  front_by false h e = refl

  back_by : (good : Bool) → count a ≤ k → is_ok (write_answer b (k - count a) (length bytes)) ≡ good
      → pair_made a (cond good (with_page b (k - count a) bytes) b) ≡ cond good (with_page (pair_made a b) k bytes) (pair_made a b)
  back_by true h e = let t = write_tells b (k - count a) (length bytes) e in with_back h t.0 t.1
  back_by false h e = refl

-- as the code has it: the page lies in this part, and the part is written
module _ (a b : Pages) (k there : ℕ) (bytes : List ℕ) (after : Pages) where
  pub written_first : Some (First there) ≡ part_at a b k → after ≡ written a there bytes → pair_made after b ≡ written (pair_made a b) k bytes
  written_first e done =
      let p = in_first a b k there e in
      cc (front_by a b p.page.ok k bytes (is_ok (write_answer a k (length bytes))) p.less refl, write_ok a b k a there p.page (length bytes))

  pub written_second : Some (Second there) ≡ part_at a b k → after ≡ written b there bytes → pair_made a after ≡ written (pair_made a b) k bytes
  written_second e done =
      let p = in_second a b k there e in
      cc (back_by a b p.page.ok k bytes (is_ok (write_answer b (k - count a) (length bytes))) p.more refl, write_ok a b k b there p.page (length bytes))
