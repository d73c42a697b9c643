-- A pair that is joined, by its parts.
use Rattle.std.proofs.Common.{◌≡◌, ℕ, ◌+◌, ◌-◌, ◌<◌, ◌≤◌, Bool, true, false, cond, not, eqb, leb, List, [], ◌∷◌, length, is_ok, Ok, Err, Some, None, unwrap_or, sym, refl, ap, ◌∙◌, ⊎_elim, arith}
use Rattle.std.proofs.lemmas.Bool.{cond-true, le-leb, lt-leb, cases_lt}
use Rattle.std.proofs.lemmas.Bool.Decides.{nat_tests}
use Rattle.fault.specs.Faults.{on, unless}
use Rattle.fault.specs.declared.refusal.Refusal.TheVariants.{PageAbsent, PageBuffer, PageUnreadable, PageLocked}
use Rattle.image.specs.Answers.{Answer, read_answer, read_out, write_answer}
use Rattle.image.specs.Pages.{Page, Pages, count, page_at, length_at, extent_of, no_pages}
use Rattle.image.specs.declared.extent.Extent.{Extent}
use Rattle.image.specs.declared.state.PageState.{PageState}
use Rattle.pair.specs.Pairs.{joined, joined_extent, pair_answer, pair_made, part_at, parts_bad}
use Rattle.pair.specs.Sound.{accepted, joined-count, front_at, back_at}
use Rattle.pair.specs.declared.pair.Part.TheVariants.{First, Second}

module _ (a b : Pages) (ok : is_ok (pair_answer a b) ≡ true) where
  pub made_is : pair_made a b ≡ joined a b
  made_is = cond-true (is_ok (pair_answer a b)) _ _ ok

  made-count : count (pair_made a b) ≡ count a + count b
  made-count = ap count made_is ∙ joined-count a b

  made_front : (k : ℕ) → k < count a → page_at (pair_made a b) k ≡ page_at a k
  made_front k h = ap (λ m. page_at m k) made_is ∙ front_at a b k h

  made_back : (k : ℕ) → count a ≤ k → page_at (pair_made a b) k ≡ page_at b (k - count a)
  made_back k h = ap (λ m. page_at m k) made_is ∙ back_at a b k h

  made_extent : record { size = a.size; count = count a + count b; last = (extent_of b).last } ≡ extent_of (pair_made a b)
  made_extent =
      let fit = accepted a b ok in
      let here : count a + count b - 1 - count a ≡ count b - 1 = omega (arith, fit.more) in
      let last : length_at b (count b - 1) ≡ length_at (pair_made a b) (count a + count b - 1) =
      ap (length_at b) (sym here) ∙ sym (ap (λ (p : Page). length p.bytes) (made_back (count a + count b - 1) (omega (arith, fit.more)))) in
      let e = made_is in
      let c = made-count in
      cc

-- how large the pair is, read off its parts' extents
extent_by : (a b : Pages) (bad : Bool) → parts_bad (extent_of a) (extent_of b) ≡ bad
    → unwrap_or (cond bad None (Some (record { size = a.size; count = count a + count b; last = (extent_of b).last }))) (extent_of no_pages) ≡ extent_of (pair_made a b)
extent_by a b true e = rw e refl
extent_by a b false e = made_extent a b (rw e refl)

-- as the code has it: x and y are what the parts' extents were asked as
pub extent_joined : (a b : Pages) (x y none : Extent) → x ≡ extent_of a → y ≡ extent_of b → none ≡ extent_of no_pages
    → unwrap_or (joined_extent x y) none ≡ extent_of (pair_made a b)
extent_joined a b x y none ex ey nothing = cc (extent_by a b (parts_bad (extent_of a) (extent_of b)) refl)

-- the same answer, its fault about page k
abbrev pub about_page : ℕ → Answer → Answer
about_page k (Ok u) = Ok u
about_page k (Err f) = Err (record { number = f.number; «module» = f.«module»; place = k })

about_ok : (k : ℕ) (r : Answer) → is_ok (about_page k r) ≡ is_ok r
about_ok k (Ok u) = refl
about_ok k (Err f) = refl

-- a read's and a write's answer by their tests: the page is absent, the buffer is wrong, and the page's state
abbrev read_by : Bool → Bool → Bool → ℕ → Answer
read_by gone wrong readable page = unless (on gone PageAbsent page ∷ on wrong PageBuffer page ∷ on (not readable) PageUnreadable page ∷ []) tt

abbrev write_by : Bool → Bool → PageState → ℕ → Answer
write_by gone wrong state page =
    unless (on gone PageAbsent page ∷ on wrong PageBuffer page ∷ on (not state.readable) PageUnreadable page ∷ on state.locked PageLocked page ∷ []) tt

read_about : (gone wrong readable : Bool) (page k : ℕ) → about_page k (read_by gone wrong readable page) ≡ read_by gone wrong readable k
read_about true wrong readable page k = refl
read_about false true readable page k = refl
read_about false false false page k = refl
read_about false false true page k = refl

write_about : (gone wrong readable locked : Bool) (page k : ℕ)
    → about_page k (write_by gone wrong (record { readable = readable; locked = locked }) page) ≡ write_by gone wrong (record { readable = readable; locked = locked }) k
write_about true wrong readable locked page k = refl
write_about false true readable locked page k = refl
write_about false false false locked page k = refl
write_about false false true true page k = refl
write_about false false true false page k = refl

-- page k of the pair is page `there` of m, which is one of its parts
pub record IsPage (a b : Pages) (k : ℕ) (m : Pages) (there : ℕ) : Type 0 where
  pub ok : is_ok (pair_answer a b) ≡ true
  pub gone : leb (count (pair_made a b)) k ≡ leb (count m) there
  pub same : page_at (pair_made a b) k ≡ page_at m there

module _ (a b : Pages) (k : ℕ) (m : Pages) (there : ℕ) (p : IsPage a b k m there) where
  pub read_is : (n : ℕ) → read_answer (pair_made a b) k n ≡ about_page k (read_answer m there n)
  read_is n =
      let q = page_at m there in
      let told = read_about (leb (count m) there) (not (eqb n (length q.bytes))) q.state.readable there k in
      cc

  pub write_is : (n : ℕ) → write_answer (pair_made a b) k n ≡ about_page k (write_answer m there n)
  write_is n =
      let q = page_at m there in
      let told = write_about (leb (count m) there) (not (eqb n (length q.bytes))) q.state.readable q.state.locked there k in
      cc

  pub write_ok : (n : ℕ) → is_ok (write_answer (pair_made a b) k n) ≡ is_ok (write_answer m there n)
  write_ok n = ap is_ok (write_is n) ∙ about_ok k (write_answer m there n)

  pub out_is : (out : List ℕ) → read_out (pair_made a b) k out ≡ read_out m there out
  out_is out = cc (ap is_ok (read_is (length out)), about_ok k (read_answer m there (length out)))

-- what the part of page k says
pub record InFirst (a b : Pages) (k there : ℕ) : Type 0 where
  pub page : IsPage a b k a there
  pub less : k < count a
  pub same : there ≡ k

pub record InSecond (a b : Pages) (k there : ℕ) : Type 0 where
  pub page : IsPage a b k b there
  pub more : count a ≤ k
  pub same : there ≡ k - count a

pub in_first : (a b : Pages) (k there : ℕ) → Some (First there) ≡ part_at a b k → InFirst a b k there
in_first a b k there e =
    let ok : is_ok (pair_answer a b) ≡ true = grind (arith, nat_tests) in
    let less : k < count a = grind (arith, nat_tests) in
    let same : there ≡ k = grind (arith, nat_tests) in
    record {
      page = record {
        ok = ok;
        gone = lt-leb (count (pair_made a b)) k (omega (arith, made-count a b ok)) ∙ sym (lt-leb (count a) there (omega arith));
        same = made_front a b ok k less ∙ ap (page_at a) (sym same);
      };
      less = less;
      same = same;
    }

pub in_second : (a b : Pages) (k there : ℕ) → Some (Second there) ≡ part_at a b k → InSecond a b k there
in_second a b k there e =
    let ok : is_ok (pair_answer a b) ≡ true = grind (arith, nat_tests) in
    let more : count a ≤ k = grind (arith, nat_tests) in
    let same : there ≡ k - count a = grind (arith, nat_tests) in
    let c = made-count a b ok in
    record {
      page = record {
        ok = ok;
        gone = ⊎_elim
            (λ l. lt-leb (count (pair_made a b)) k (omega (arith, c)) ∙ sym (lt-leb (count b) there l))
            (λ l. le-leb (count (pair_made a b)) k (omega (arith, c)) ∙ sym (le-leb (count b) there l))
            (cases_lt there (count b));
        same = made_back a b ok k more ∙ ap (page_at b) (sym same);
      };
      more = more;
      same = same;
    }

-- as the code has it: the page lies in this part, whose answer is r
module _ (a b : Pages) (k there n : ℕ) (r : Answer) (e : Some (First there) ≡ part_at a b k) where
  pub read_first : r ≡ read_answer a there n → r ≡ read_answer (pair_made a b) k n
  read_first asked = let p = in_first a b k there e in cc

  pub write_first : r ≡ write_answer a there n → r ≡ write_answer (pair_made a b) k n
  write_first asked = let p = in_first a b k there e in cc

-- and here the pair's answer r' is r about its own page
module _ (a b : Pages) (k there n : ℕ) (r r' : Answer) (e : Some (Second there) ≡ part_at a b k) (told : r' ≡ about_page k r) where
  pub read_second : r ≡ read_answer b there n → r' ≡ read_answer (pair_made a b) k n
  read_second asked = cc (read_is a b k b there (in_second a b k there e).page n)

  pub write_second : r ≡ write_answer b there n → r' ≡ write_answer (pair_made a b) k n
  write_second asked = cc (write_is a b k b there (in_second a b k there e).page n)

pub out_first : (a b : Pages) (k there : ℕ) (out after : List ℕ) → Some (First there) ≡ part_at a b k → after ≡ read_out a there out → after ≡ read_out (pair_made a b) k out
out_first a b k there out after e left = let p = in_first a b k there e in cc

pub out_second : (a b : Pages) (k there : ℕ) (out after : List ℕ) → Some (Second there) ≡ part_at a b k → after ≡ read_out b there out → after ≡ read_out (pair_made a b) k out
out_second a b k there out after e left = left ∙ sym (out_is a b k b there (in_second a b k there e).page out)
