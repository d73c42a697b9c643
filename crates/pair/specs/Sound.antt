-- A pair is well-formed where its parts are. The code cites the proof in `ghost sound`, so it stands with the definitions.
use Rattle.std.specs.Prelude.{◌≡◌, ℕ, ◌+◌, ◌-◌, ◌<◌, ◌≤◌, true, false, [], length, is_ok, refl}
use Rattle.std.proofs.Common.{sym, ap, ◌∙◌, ⊎_elim, arith}
use Rattle.std.proofs.lemmas.List.{length-append, get_or_append_left, get_or-append_right}
use Rattle.std.proofs.lemmas.Bool.{cases_lt}
use Rattle.std.proofs.lemmas.Bool.Decides.{nat_tests}
use Rattle.fault.specs.declared.refusal.Refusal.TheVariants.{PairParts}
use Rattle.image.specs.Pages.{Page, Pages, WellFormed, absent, count, page_at, length_at, extent_of}
use Rattle.image.proofs.Sound.{made_sound, row_passed}
use Rattle.image.specs.declared.extent.Extent.{Extent}
use Rattle.pair.specs.Pairs.{joined, parts_bad, pair_answer, pair_made}

-- what an accepted check says
pub record Fit (a b : Extent) : Type 0 where
  pub some : 1 ≤ a.count
  pub more : 1 ≤ b.count
  pub same : a.size ≡ b.size
  pub full : a.last ≡ a.size
  pub few : a.count + b.count ≤ 4096

pub parts_fit : (a b : Extent) → parts_bad a b ≡ false → Fit a b
parts_fit a b h = record {
  some = grind (arith, nat_tests);
  more = grind (arith, nat_tests);
  same = grind (arith, nat_tests);
  full = grind (arith, nat_tests);
  few = grind (arith, nat_tests);
}

pub accepted : (a b : Pages) → is_ok (pair_answer a b) ≡ true → Fit (extent_of a) (extent_of b)
accepted a b h = parts_fit (extent_of a) (extent_of b) (row_passed (parts_bad (extent_of a) (extent_of b)) PairParts 0 [] h)

module _ (a b : Pages) where
  pub joined-count : count (joined a b) ≡ count a + count b
  joined-count = length-append a.pages b.pages

  pub front_at : (k : ℕ) → k < count a → page_at (joined a b) k ≡ page_at a k
  front_at k h = get_or_append_left a.pages b.pages absent k h

  pub back_at : (k : ℕ) → count a ≤ k → page_at (joined a b) k ≡ page_at b (k - count a)
  back_at k h = get_or-append_right a.pages b.pages (count a) k absent refl h

  front_full : WellFormed a → Fit (extent_of a) (extent_of b) → (k : ℕ) → k < count a → length_at a k ≡ a.size
  front_full s fit k h = ⊎_elim
      (λ l. s.whole k l)
      (λ l. let e : k ≡ count a - 1 = omega arith in ap (length_at a) e ∙ fit.full)
      (cases_lt (k + 1) (count a))

  joined_sound : WellFormed a → WellFormed b → Fit (extent_of a) (extent_of b) → WellFormed (joined a b)
  joined_sound s t fit =
      let c = joined-count in
      let bytes : Page → ℕ = λ p. length p.bytes in
      record {
        few = omega (arith, c, fit.few);
        low = s.low;
        high = s.high;
        whole = λ k h. ⊎_elim
            (λ l. ap bytes (front_at k l) ∙ front_full s fit k l)
            (λ l. ap bytes (back_at k l) ∙ t.whole (k - count a) (omega (arith, c)) ∙ sym fit.same)
            (cases_lt k (count a));
        some = λ k h. ⊎_elim
            (λ l. omega (arith, ap bytes (front_at k l), s.some k l))
            (λ l. omega (arith, ap bytes (back_at k l), t.some (k - count a) (omega (arith, c))))
            (cases_lt k (count a));
        most = λ k h. ⊎_elim
            (λ l. omega (arith, ap bytes (front_at k l), s.most k l))
            (λ l. omega (arith, ap bytes (back_at k l), t.most (k - count a) (omega (arith, c)), fit.same))
            (cases_lt k (count a));
      }

pub pair_sound : (a b : Pages) → WellFormed a → WellFormed b → WellFormed (pair_made a b)
pair_sound a b s t = made_sound (is_ok (pair_answer a b)) (joined a b) (λ e. joined_sound a b s t (accepted a b e))
